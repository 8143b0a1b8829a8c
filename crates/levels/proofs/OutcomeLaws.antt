-- The answered call, in the terms of the code.
use mathlib.Core.Path.{◌≡◌, refl, sym}
use mathlib.Core.List.{List}
use Prim.Native.Nat.{ℕ}
use Rattle.image_fields.specs.Image.{decode}
use Rattle.lent.specs.Calls.{first_broken, leaves, outcome_after}
use Rattle.lent.proofs.CallLaws.{on_answer}
use Rattle.std.specs.Prelude.{Ok}
use Rattle.levels.specs.Depth.{levels_of}
use Rattle.levels.specs.Outcome.{lent, own_rules, levelling}

pub answered : (s : List ℕ) {n : ℕ} → n ≡ levels_of (decode s) → leaves (Ok n) lent ≡ outcome_after levelling (first_broken own_rules) s lent
unfolding first_broken
answered s h = rw h (sym (on_answer levelling s lent refl))
