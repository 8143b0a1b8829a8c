-- The loop over the texts: the builtin of each for what still waits.
use Rattle.std.specs.Prelude.{Option, Some, None}
use mathlib.Core.Path.{◌≡◌, ap, sym, subst, ◌∙◌}
use mathlib.Core.List.{List}
use Prim.Native.Nat.{ℕ, ◌+◌, ◌^◌, ◌≤◌, ◌<◌}
use native.Mathlib.Omega.{arith}
use lib.ListN.{length, get_or, replicate, length-replicate}
use Rattle.semantics.specs.Tree.{Text, Tree, expr_at, text_at}
use Rattle.semantics.specs.Scopes.{ScopeVisit}
use Rattle.semantics.specs.Resolution.{place_of}
use Rattle.semantics.proofs.ResolutionLaws.{place-few}
use Rattle.image_fields.specs.Image.{expr_count, text_count, decode}
use Rattle.image_fields.proofs.ImageLaws.{tree-exprs}
use Rattle.image.specs.Inside.Accepted.{Accepted}
use Rattle.text_classes.specs.Inside.Chains.{Roomy}
use Rattle.text_classes.proofs.ChainLaws.{cleared}
use Rattle.resolve_laws.specs.Inside.Settle.{text_of}
use Rattle.resolve_laws.proofs.ClassLaws.{class_bytes}
use Rattle.resolve_laws.specs.Inside.Events.{play}
use Rattle.resolve_laws.specs.Inside.Logged.{log_of}
use Rattle.resolve_settle.specs.Inside.Chains.{Chained, Unchained}
use Rattle.resolve_settle.specs.Inside.Settling.{class_in, Holding, Settled, log_to, Beside, Built, Lent, Begins}
use Rattle.resolve_settle.proofs.HoldLaws.{chained, chain-beside, built_none, built_not, built_more}
use Rattle.resolve_settle.proofs.LogLaws.{log_all_lem}
use Rattle.resolve_settle.proofs.SettledLaws.{beside_same, beside_then}

-- a Reference of class x has the builtin of text x
class_place : (t : Tree) (x : ℕ) (v : ScopeVisit) → class_in t v ≡ x → place_of (text_of t v) ≡ place_of (text_at t x)
unfolding class_in text_of
class_place t x v q = ap place_of (sym (class_bytes t (expr_at t v.expr).text) ∙ ap (text_at t) q)

module _ {t : Tree} {x : ℕ} {heads working before table : List ℕ} (b : Built t (class_in t) x heads working before table) (m : x < length t.texts) {head : ℕ} (e : head ≡ get_or heads x 0) where
  pub building_chained : Chained working head
  building_chained = chained b.holding m e

  pub building_none : head ≡ 0 → Built t (class_in t) (x + 1) heads working before table
  building_none z = record { holding = built_none b.holding m (place_of (text_at t x)) (class_place t x) e z; beside = b.beside }

  module _ {text : Text} (i : text ≡ text_at t x) (found : Option ℕ) (p : place_of text ≡ found) where
    pub building_not : found ≡ None → Built t (class_in t) (x + 1) heads working before table
    building_not l = record { holding = built_not b.holding m (place_of (text_at t x)) (class_place t x) (ap place_of (sym i) ∙ p ∙ l); beside = b.beside }

    pub builtin-few : {place : ℕ} → found ≡ Some place → place < 22
    builtin-few {place} l = place-few text place (p ∙ l)

    pub building_more : {place : ℕ} → found ≡ Some place → {y r : ℕ} {after : List ℕ} → y ≡ 32768 + place → Unchained working head 0 y table after r → Built t (class_in t) (x + 1) heads working before after
    building_more l q u =
        record {
          holding = built_more b.holding m (place_of (text_at t x)) (class_place t x) e (ap place_of (sym i) ∙ p ∙ l) (omega (arith, builtin-few l)) q u;
          beside = beside_then b.beside (chain-beside b.holding m e u);
        }

-- before the first text
pub building_start : {t : Tree} {p : ℕ} {heads working table : List ℕ} → Settled t (class_in t) p heads working table → p ≡ length (log_of t) → Built t (class_in t) 0 heads working table table
building_start {t} {p} {heads} {working} {table} h q =
    record { holding = subst (λ l. Holding t (class_in t) 0 (play t l) heads working table) (ap (log_to t) q ∙ log_all_lem t) h.holding; beside = beside_same (length t.exprs) table }

-- the table as it was before the events
pub built_from : {s : List ℕ} → Accepted s → {d : ℕ} {heads working x y z : List ℕ} → Beside (expr_count s) x y → Built (decode s) (class_in (decode s)) d heads working y z
    → Built (decode s) (class_in (decode s)) d heads working x z
built_from {s} a {x = x} {y = y} b c = record { holding = c.holding; beside = beside_then (subst (λ n. Beside n x y) (sym (tree-exprs s)) b) c.beside }

-- local arrays of zeros
pub begins : {s working table : List ℕ} (n : ℕ) → text_count s ≤ n → Lent s working table → Begins s (replicate n 0) working table
begins n h l = record { none-waits = cleared n; heads_fit = rw (length-replicate {A = ℕ} n 0) h; lent = l }

pub roomy : (s : List ℕ) (n m : ℕ) → text_count s ≤ n → n ≤ m → 0 < m → m ≤ 2 ^ 16 → Roomy s (replicate n 0) (replicate m 0) (replicate n 0)
roomy s n m h g i j =
    record {
      classes_fit = rw (length-replicate {A = ℕ} n 0) h;
      buckets_fit = rw (length-replicate {A = ℕ} m 0) (omega arith);
      next_fits = rw (length-replicate {A = ℕ} n 0) h;
      some_bucket = rw (length-replicate {A = ℕ} m 0) i;
      few_buckets = rw (length-replicate {A = ℕ} m 0) j;
    }
