use Rattle.image_fields.specs.Image.{expr_count, decode}
use Rattle.text_classes.specs.Inside.Chains.{Known}
use Rattle.resolve_settle.specs.Inside.Settling.{class_in, Giving, Beside}
use Rattle.resolve_settle.proofs.give_names.Given as goal

abbrev pub invariant-loop-k : goal.invariant-loop-k
invariant-loop-k l = Giving (decode l.image.bytes.now) (class_in (decode l.image.bytes.now)) l.p l.e l.start l.k l.heads l.working l.table
    × Beside (expr_count l.image.bytes.now) l.initial.table l.table
    × Known l.image.bytes.now l.class l.buckets l.next
