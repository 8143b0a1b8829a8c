use native.Mathlib.Omega.{arith}
use Rattle.resolve_events.proofs.HeldLaws.{enter-few, enter-other, enter-reference}
use Rattle.resolve_events.proofs.enter.Goals as goal

pub returns-then-kind-ne-REFERENCE : goal.returns-then-kind-ne-REFERENCE
returns-then-kind-ne-REFERENCE c = enter-other c.requires.ready c.requires.e_value c.kind.ensures c.if-kind-ne-REFERENCE.true c.put16.ensures

pub overflow_mul-at : goal.overflow_mul-at
overflow_mul-at c = omega (arith, enter-few c.requires.ready c.requires.e_value c.kind.ensures, c.requires.ready.accepted.sized.exprs-few)

pub put16-requires-3 : goal.put16-requires-3
put16-requires-3 c = omega (arith, enter-few c.requires.ready c.requires.e_value c.kind.ensures, c.requires.ready.accepted.sized.exprs-few)

pub overflow_add-result : goal.overflow_add-result
overflow_add-result c = omega (arith, enter-few c.requires.ready c.requires.e_value c.kind.ensures, c.requires.ready.accepted.sized.exprs-few)

pub returns : goal.returns
returns c = enter-reference c.requires.ready c.requires.e_value c.kind.ensures c.if-kind-ne-REFERENCE.false c.put16-2.ensures c.put16-3.ensures
