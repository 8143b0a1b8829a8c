use Prim.Native.Nat.{◌-◌}
use mathlib.Core.Path.{refl, sym}
use native.Mathlib.Omega.{arith}
use native.Mathlib.Nat.{zero-add}
use Rattle.image_rules.proofs.OrderLaws.{computed, start_is_lem}
use Rattle.image_rules.proofs.order.start.Goals as goal

pub returns-then-kind-lt-LOW_KINDS : goal.returns-then-kind-lt-LOW_KINDS
unfolding computed
returns-then-kind-lt-LOW_KINDS c = start_is_lem 0 _ 12 refl _ _ (sym (zero-add _)) c.if-kind-lt-LOW_KINDS.true c.part.ensures

pub returns : goal.returns
unfolding computed
returns c = start_is_lem 12 _ 5 refl c.args.kind (c.args.kind - 12) (omega arith) (omega arith) c.part-2.ensures
