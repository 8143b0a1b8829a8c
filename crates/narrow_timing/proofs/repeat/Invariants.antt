use mathlib.Core.Path.{◌≡◌}
use Rattle.narrow.specs.Outcome.{question, lent}
use Rattle.narrow_timing.specs.Inside.Standing.{Standing}
use Rattle.narrow_timing.proofs.repeat.Given as goal

abbrev pub invariant-loop : goal.invariant-loop
invariant-loop l = Standing (question l.image.bytes.now l.resolutions l.bindings l.condition l.budget) (lent l.then_list l.else_list) × (l.then_list ≡ l.initial.then_list) × (l.else_list ≡ l.initial.else_list)
