-- The ways out of the call, in the terms of the code.
use mathlib.Core.Path.{◌≡◌, refl, sym}
use mathlib.Core.Logic.{inr}
use mathlib.Core.List.{List, [], ◌++◌}
use Prim.Native.Nat.{ℕ, ◌*◌, ◌≤◌, ◌<◌}
use native.Mathlib.Omega.{arith}
use lib.ListN.{length, drop, replicate}
use borrow.Author.Tests.{le-leb, lt-leb}
use Rattle.semantics.specs.Base.{each}
use Rattle.semantics.specs.Resolution.{own}
use Rattle.image_fields.specs.Image.{name_count, decode}
use Rattle.image.specs.Inside.Accepted.{Accepted}
use Rattle.image_fields.proofs.ImageLaws.{tree-names}
use Rattle.lent.specs.Calls.{first_broken, zeros, leaves, outcome_after}
use Rattle.lent.specs.Inside.Stores.{pairs}
use Rattle.lent.proofs.CallLaws.{keeps_last, breaks, on_answer, on_zeroing}
use Rattle.codes.specs.declared.refusals.Refusal.{Refusal}
use Rattle.codes.specs.declared.refusals.Refusal.TheVariants.{BufferTooShort}
use Rattle.codes.specs.Refusals.{refusal_numbered}
use Rattle.std.specs.Prelude.{Result, Ok, Err}
use Rattle.index.specs.Outcome.{room, own_rules, written, indexing}
use Rattle.index.specs.Inside.Entering.{entering}
use Rattle.index.proofs.IndexLaws.{entered_all, items-named}

module _ (s table : List ℕ) where
  -- what is promised of an accepted image
  abbrev pub Ends : Result (Unit {0}) Refusal → List ℕ → Type 0
  Ends r now = leaves r now ≡ outcome_after indexing (first_broken (own_rules s table)) s table

  module _ {names : ℕ} (n : names ≡ name_count s) where
    pub short : length table < 2 * names → {now : List ℕ} → now ≡ zeros table → Ends (Err BufferTooShort) now
    unfolding room refusal_numbered
    short h z =
        let e : first_broken (own_rules s table) ≡ 9 = breaks 9 [] (lt-leb (2 * name_count s) (length table) (omega arith)) in
        rw (e, z) (sym (on_zeroing indexing s table (inr refl)))

    pub filled : Accepted s → 2 * names ≤ length table → {mid now : List ℕ} → mid ≡ pairs (replicate names 16383) ++ drop (2 * names) table
        → now ≡ entering (each (λ x. x.items) (decode s).exprs) mid → Ends (Ok tt) now
    unfolding room written own
    filled a h {mid} {now} m g =
        let e : first_broken (own_rules s table) ≡ 0 = keeps_last 9 (le-leb (2 * name_count s) (length table) (omega arith)) in
        let w : now ≡ written s table =
        rw (g, m, n, ← tree-names s)
        (entered_all (decode s) (own (decode s)) (drop (2 * length (decode s).names) table) (λ k. refl) (items-named s a)) in
        rw w (sym (on_answer indexing s table e))
