use mathlib.Core.Path.{ap, ◌∙◌}
use borrow.Author.Tests.{ne_eqb}
use Rattle.narrow_run.specs.Inside.Run.{outcome, flipped, sent}
use Rattle.narrow_run.proofs.sent.Goals as goal

pub returns-in-And : goal.returns-in-And
unfolding sent
returns-in-And c = rw c.in-And.is c.where_true.ensures

pub returns-in-Or : goal.returns-in-Or
unfolding sent
returns-in-Or c = rw c.in-Or.is c.where_false.ensures

pub returns-in-Implication : goal.returns-in-Implication
unfolding sent
returns-in-Implication c = rw (c.in-Implication.is, c.if-k-eq0.true) (c.turned.ensures ∙ ap flipped c.where_false-in-Implication.ensures)

pub returns-in-Implication-2 : goal.returns-in-Implication-2
unfolding sent
returns-in-Implication-2 c = rw (c.in-Implication-2.is, ne_eqb c.args.k 0 c.if-k-eq0.false) c.where_false-in-Implication-2.ensures

pub returns-in-Leaf : goal.returns-in-Leaf
unfolding outcome sent
returns-in-Leaf c = rw c.in-Leaf.is

pub returns-in-Not : goal.returns-in-Not
unfolding outcome sent
returns-in-Not c = rw c.in-Not.is
