use mathlib.Core.Path.{refl}
use Prim.Native.Nat.{◌<◌}
use native.Mathlib.Omega.{arith}
use lib.ListN.{length}
use Rattle.image_fields.specs.Image.{decode}
use Rattle.image_fields.proofs.ImageLaws.{tree-texts}
use Rattle.resolve_settle.proofs.BuiltLaws.{building_chained, building_none, building_not, builtin-few, building_more}
use Rattle.resolve_settle.proofs.settle_builtins.Goals as goal
use Rattle.resolve_settle.proofs.settle_builtins.Goals.{In-loop-x, in-Some, in_default}

-- a text of the image
there : (c : In-loop-x) → c.loop-x.x < length (decode c.args.image.bytes.now).texts
there c = omega (arith, c.loop-x-test.true, c.text_count-x-end.ensures, tree-texts c.args.image.bytes.now)

pub bounds-heads-x : goal.bounds-heads-x
bounds-heads-x c = omega (arith, there ((goal.at.bounds-heads-x c).In-loop-x), c.loop-x.invariant.holding.heads_fit)

pub loop-x-preserved-then-head-eq0 : goal.loop-x-preserved-then-head-eq0
loop-x-preserved-then-head-eq0 c = building_none c.loop-x.invariant (there ((goal.at.loop-x-preserved-then-head-eq0 c).In-loop-x)) c.from-head.ensures c.if-head-eq0.true

pub overflow_add-place : goal.overflow_add-place
overflow_add-place c = omega (
  arith,
  builtin-few c.loop-x.invariant (there ((goal.at.overflow_add-place c).In-loop-x)) c.from-head.ensures c.text.ensures _ c.lookup_global_builtin.ensures
      c.in-Some.is,
)

pub settle_chain-requires : goal.settle_chain-requires
settle_chain-requires c = building_chained c.loop-x.invariant (there ((goal.at.settle_chain-requires c).In-loop-x)) c.from-head.ensures

pub loop-x-preserved : goal.loop-x-preserved
loop-x-preserved c = elim c.match-lookup_global_builtin.branch [
  | in-Some w ↦ rw w.table-is (building_more c.loop-x.invariant (there ((goal.at.loop-x-preserved c).In-loop-x)) c.from-head.ensures c.text.ensures _
      c.lookup_global_builtin.ensures w.in-Some.is refl w.settle_chain.ensures)
  | in_default w ↦ rw w.table-is (building_not c.loop-x.invariant (there ((goal.at.loop-x-preserved c).In-loop-x)) c.from-head.ensures c.text.ensures _
      c.lookup_global_builtin.ensures w.in_default.is)
]
