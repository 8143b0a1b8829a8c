use native.Mathlib.Omega.{arith}
use Rattle.narrow_counts.proofs.NodeLaws.{filled_none, filled_more, filled_less}
use Rattle.narrow_counts.proofs.fill_nodes.Goals as goal

pub loop-e-init : goal.loop-e-init
loop-e-init c = filled_none _ _

pub nodes_of-nodes-requires : goal.nodes_of-nodes-requires
nodes_of-nodes-requires c = record {
  c_bound = (
    omega (arith, c.loop-e-test.true, c.requires.0),
    omega (arith, c.loop-e-test.true, c.loop-e.auto.room, c.requires.1),
  );
  filled = c.loop-e.invariant;
}

pub offset_bounds-room-e : goal.offset_bounds-room-e
offset_bounds-room-e c = omega (arith, c.loop-e-test.true, c.requires.0, c.args.image.accepted.sized.exprs-few)

pub bounds-room-e : goal.bounds-room-e
bounds-room-e c = omega (arith, c.loop-e-test.true, c.loop-e.auto.room, c.requires.1)

pub loop-e-preserved : goal.loop-e-preserved
loop-e-preserved c = filled_more c.loop-e.invariant (omega (arith, c.loop-e-test.true, c.loop-e.auto.room, c.requires.1)) c.nodes_of-nodes.ensures
    c.min.ensures

pub returns : goal.returns
returns c = filled_less c.loop-e.invariant c.loop-e-test.false
