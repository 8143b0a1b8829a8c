-- The tests of rules.rt, in the terms of the code: one law for each way out.
use mathlib.Core.Path.{◌≡◌, refl, ap, sym, ◌∙◌}
use mathlib.Core.Bool.{Bool, true, false, not, cond, ◌&&◌}
use Prim.Native.Nat.{ℕ, ◌*◌, ◌/◌, ◌%◌, ◌^◌, ◌≤◌, ◌<◌}
use native.Mathlib.Omega.{arith}
use native.Mathlib.Decide.{ℕ_discrete}
use lib.Dec.{eqb, ltb}
use borrow.Author.Tests.{lt-ltb, le-ltb, le-leb, lt-leb, eq-eqb, ne_eqb, eqb-true, not-true}
use Rattle.semantics.specs.Base.{pick, all}
use Rattle.semantics.specs.Tree.{is_none}
use Rattle.semantics.proofs.BaseLaws.{and_left, and_right, and-false, pick_later, pick-none, all-holds}
use Rattle.image_rules.specs.Rules.{Presence, has, may, has_not, detail_count, texted, text_fits, expr_fits, fits, name_presence, expr_presence}
use Rattle.image_rules.specs.Inside.Machine.{presence_of}

-- `fits`, by the mark of a role
module _ (mark bound x : ℕ) where
  pub marked-has : mark ≡ 2 → ltb x bound ≡ fits (presence_of mark) bound x
  unfolding presence_of fits pick
  marked-has e = rw e

  module _ (n : mark ≡ 2 → ⊥) where
    pub marked-has_not : mark ≡ 0 → eqb x 16383 ≡ fits (presence_of mark) bound x
    unfolding presence_of fits is_none pick
    marked-has_not e = rw e

    module _ (m : mark ≡ 0 → ⊥) where
      marked-may : presence_of mark ≡ may
      unfolding presence_of
      marked-may = pick_later mark _ _ may (ne_eqb mark 2 n) ∙ pick_later mark _ _ may (ne_eqb mark 0 m) ∙ pick-none mark may

      pub marked-none : x ≡ 16383 → true ≡ fits (presence_of mark) bound x
      unfolding fits is_none
      marked-none e = rw (marked-may, eq-eqb x 16383 e)

      pub marked-one : (x ≡ 16383 → ⊥) → ltb x bound ≡ fits (presence_of mark) bound x
      unfolding fits is_none
      marked-one e = rw (marked-may, ne_eqb x 16383 e)

-- the marks of the roles: one test of all eleven, computed
mark_of : Presence → ℕ
mark_of has = 2
mark_of may = 1
mark_of has_not = 0

mark_reads : (p : Presence) → presence_of (mark_of p) ≡ p
unfolding mark_of presence_of pick
mark_reads has = refl
mark_reads may = refl
mark_reads has_not = refl

-- `marks` has the mark of each role, 2 bits a role from the right
unfoldable pub marks_fit : (ℕ → Presence) → ℕ → ℕ → Bool
unfolding mark_of
marks_fit f marks role = eqb (marks / 2 ^ (2 * role) % 2 ^ 2) (mark_of (f role))

pub mark_at_lem : (f : ℕ → Presence) (marks : ℕ) → all (marks_fit f marks) 11 ≡ true → (role : ℕ) → role ≤ 10 → {x : ℕ} → x ≡ marks / 2 ^ (2 * role) % 2 ^ 2 → presence_of x ≡ f role
unfolding marks_fit mark_of
mark_at_lem f marks h role l e =
    ap presence_of (e ∙ eqb-true _ _ (all-holds (marks_fit f marks) 11 role h (omega arith))) ∙ mark_reads (f role)

no_mark : presence_of 0 ≡ has_not
unfolding presence_of pick
no_mark = refl

full_mark : presence_of 2 ≡ has
unfolding presence_of pick
full_mark = refl

-- the roles that have no name and an expression, and are no Inherit: one test of all eleven, computed
unfoldable pub plain_fits : ℕ → ℕ → Bool
unfolding mark_of
plain_fits plain role =
    cond (eqb (plain / 2 ^ role % 2 ^ 1) 1)
    (eqb (mark_of (name_presence role)) 0 && eqb (mark_of (expr_presence role)) 2 && not (eqb role 5))
    true

pub record Plain (role : ℕ) : Type 0 where
  pub unnamed : name_presence role ≡ has_not
  pub owning : expr_presence role ≡ has
  pub other : eqb role 5 ≡ false

pub plain_at : (plain : ℕ) → all (plain_fits plain) 11 ≡ true → (role : ℕ) → role ≤ 10 → {x : ℕ} → x ≡ plain / 2 ^ role % 2 ^ 1 → x ≡ 1 → Plain role
unfolding plain_fits mark_of
plain_at plain h role l e one = go (eqb (plain / 2 ^ role % 2 ^ 1) 1) (eq-eqb _ 1 (sym e ∙ one)) (all-holds (plain_fits plain) 11 role h (omega arith))
  where
    go : (b : Bool) → b ≡ true → cond b (eqb (mark_of (name_presence role)) 0 && eqb (mark_of (expr_presence role)) 2 && not (eqb role 5)) true ≡ true → Plain role
    go true q g =
        let p = and_left (eqb (mark_of (name_presence role)) 0 && eqb (mark_of (expr_presence role)) 2) (not (eqb role 5)) g in
        record {
          unnamed = sym (mark_reads (name_presence role)) ∙ ap presence_of (eqb-true _ 0 (and_left (eqb (mark_of (name_presence role)) 0) _ p)) ∙ no_mark;
          owning = sym (mark_reads (expr_presence role)) ∙ ap presence_of (eqb-true _ 2 (and_right (eqb (mark_of (name_presence role)) 0) _ p)) ∙ full_mark;
          other = not-true (eqb role 5) (and_right (eqb (mark_of (name_presence role)) 0 && eqb (mark_of (expr_presence role)) 2) (not (eqb role 5)) g);
        }
    go false q g = absurd (let z : ◌≡◌ {A = ℕ} 0 1 = cc in omega arith)

-- a number of details for each kind, 4 bits a kind, round the 64 bits of a number: one test of all seventeen, computed
unfoldable pub details_fit : (ℕ → ℕ) → ℕ → ℕ → Bool
details_fit f packed kind = eqb (packed / 2 ^ (4 * kind % 64) % 2 ^ 4) (f kind)

pub details-at : (f : ℕ → ℕ) (packed : ℕ) → all (details_fit f packed) 17 ≡ true → (kind : ℕ) → kind ≤ 16 → {r : ℕ} → r ≡ packed / 2 ^ (4 * kind % 64) % 2 ^ 4 → r ≡ f kind
unfolding details_fit
details-at f packed h kind l e = e ∙ eqb-true _ _ (all-holds (details_fit f packed) 17 kind h (omega arith))

-- `expr_fits`: x is how many details the kind has
module _ (texts kind detail text : ℕ) where
  pub no_kind : 16 < kind → false ≡ expr_fits texts kind detail text
  unfolding expr_fits
  no_kind h = rw (lt-leb kind 16 h)

  module _ {x : ℕ} (few : kind ≤ 16) (e : x ≡ detail_count kind) where
    pub beyond : x ≤ detail → false ≡ expr_fits texts kind detail text
    unfolding expr_fits
    beyond h = rw (le-ltb detail (detail_count kind) (omega arith), and-false)

    module _ (h : detail < x) where
      within : expr_fits texts kind detail text ≡ text_fits texts (texted kind detail) text
      unfolding expr_fits
      within = rw (le-leb kind 16 few, lt-ltb detail (detail_count kind) (omega arith))

      pub with_text : texted kind detail ≡ true → ltb text texts ≡ expr_fits texts kind detail text
      unfolding text_fits
      with_text q = sym (within ∙ ap (λ b. text_fits texts b text) q)

      pub without_text : texted kind detail ≡ false → eqb text 16383 ≡ expr_fits texts kind detail text
      unfolding text_fits is_none
      without_text q = sym (within ∙ ap (λ b. text_fits texts b text) q)

reference-detail_count : (kind : ℕ) → kind ≡ 10 → detail_count kind ≡ 1
unfolding detail_count pick
reference-detail_count kind e = rw e

-- `texted`, of a form whose detail the kind has: 320 is a Reference, 98 a String literal
pub reference_form : (form : ℕ) → form ≡ 320 → true ≡ texted (form / 32) (form % 32)
unfolding texted
reference_form form e = rw e

pub other_form : (form : ℕ) → form % 32 < detail_count (form / 32) → (form ≡ 320 → ⊥) → eqb form 98 ≡ texted (form / 32) (form % 32)
unfolding texted
other_form form h n = elim (ℕ_discrete form 98) [
  | yes e ↦ rw e
  | no m ↦ elim (ℕ_discrete (form / 32) 3) [
    | yes k ↦ rw (ne_eqb form 98 m, k, ne_eqb (form % 32) 2 (λ d. m (omega (arith, k))))
    | no k ↦ rw (ne_eqb form 98 m, ne_eqb (form / 32) 3 k, ne_eqb (form / 32) 10 (λ t. n (omega (arith, t, reference-detail_count (form / 32) t))))
  ]
]

-- To compute the tests of the packed numbers: whoever unfolds this unfolds all that it is made of.
unfoldable pub marked : Unit {0}
unfolding all marks_fit plain_fits details_fit mark_of detail_count name_presence expr_presence pick
marked = tt
