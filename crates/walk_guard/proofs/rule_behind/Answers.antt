use mathlib.Core.Logic.{inl, inr}
use mathlib.Core.Path.{refl}
use Rattle.walk_guard.proofs.rule_behind.Goals as goal

pub returns-in_default : goal.returns-in_default
returns-in_default c = inl refl

pub returns-then-k-ne1 : goal.returns-then-k-ne1
returns-then-k-ne1 c = inl refl

pub returns-then-elses-ne0 : goal.returns-then-elses-ne0
returns-then-elses-ne0 c = inl refl

pub returns : goal.returns
returns c = inr (refl, c.in-Guarded.is, c.if-k-ne1.false, c.if-elses-ne0.false)
