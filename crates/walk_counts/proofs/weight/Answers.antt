use mathlib.Core.Path.{refl}
use native.Mathlib.Omega.{arith}
use Rattle.walk_counts.proofs.TallyLaws.{condition-inside, weighed_unguarded, weighed_alone, weighed_with}
use Rattle.walk_counts.proofs.weight.Goals as goal

pub returns-in_default : goal.returns-in_default
returns-in_default c = weighed_unguarded _ _ _ c.requires.e_bound.2 c.in_default.not-Guarded

pub offset_bounds-nodes-c : goal.offset_bounds-nodes-c
offset_bounds-nodes-c c = omega
    (arith, condition-inside _ _ _ _ c.condition_at.ensures c.in-Some.is, c.args.image.accepted.sized.exprs-few)

pub bounds-nodes-c : goal.bounds-nodes-c
bounds-nodes-c c = omega
    (arith, condition-inside _ _ _ _ c.condition_at.ensures c.in-Some.is, c.requires.e_bound.1)

pub returns-in-Some : goal.returns-in-Some
returns-in-Some c = weighed_with _ _ _ _ c.condition_at.ensures c.in-Some.is c.requires.filled refl

pub returns-in-None : goal.returns-in-None
returns-in-None c = weighed_alone _ _ _ _ c.condition_at.ensures c.in-None.is
