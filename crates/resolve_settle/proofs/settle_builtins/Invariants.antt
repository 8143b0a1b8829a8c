use Rattle.image_fields.specs.Image.{decode}
use Rattle.resolve_settle.specs.Inside.Settling.{class_in, Built}
use Rattle.resolve_settle.proofs.settle_builtins.Given as goal

abbrev pub invariant-loop-x : goal.invariant-loop-x
invariant-loop-x l = Built (decode l.image.bytes.now) (class_in (decode l.image.bytes.now)) l.x l.heads l.working l.initial.table l.table
