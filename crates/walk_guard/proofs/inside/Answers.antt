use mathlib.Core.Path.{refl}
use native.Mathlib.Omega.{arith}
use Rattle.walk_guard.specs.Inside.Added.{item_of}
use Rattle.walk_guard.proofs.GuardLaws.{inside-none, inside-other, spends_counted, spends_free}
use Rattle.walk_guard.proofs.inside.Goals as goal

pub returns-in_default : goal.returns-in_default
returns-in_default c = inside-none c.requires.ready _ _ c.requires.ruled c.in_default.not-Guarded

pub overflow_add-whole : goal.overflow_add-whole
overflow_add-whole c = omega (arith, c.requires.ready.force_few)

pub analyzed-requires : goal.analyzed-requires
unfolding item_of
analyzed-requires c = record { ready = c.requires.ready; spends = spends_counted _ _ _ 1 _ _ _ refl refl }

pub returns-in-1 : goal.returns-in-1
unfolding item_of
returns-in-1 c = rw c.in-1.is c.analyzed.ensures

pub analyzed-requires-in-2 : goal.analyzed-requires-in-2
unfolding item_of
analyzed-requires-in-2 c = record { ready = c.requires.ready; spends = spends_free _ _ _ 2 _ _ _ (λ z. absurd (omega arith)) refl (c.requires.state_bound (omega (arith, c.in-2.is))) }

pub returns-in-2 : goal.returns-in-2
unfolding item_of
returns-in-2 c = rw c.in-2.is c.analyzed-in-2.ensures

pub returns-in_default-k : goal.returns-in_default-k
returns-in_default-k c = inside-other c.requires.ready _ _ (search) (search)
