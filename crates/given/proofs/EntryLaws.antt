-- An entry of a given table, in the terms of the code.
use Rattle.std.specs.Prelude.{Some, None}
use mathlib.Core.Path.{◌≡◌, refl, ap, sym, ◌∙◌}
use mathlib.Core.List.{List}
use Prim.Native.Nat.{ℕ, ◌+◌, ◌*◌, ◌≤◌}
use native.Mathlib.Omega.{arith}
use lib.ListN.{length}
use borrow.Author.Tests.{eq-eqb, ne_eqb, le-leb}
use Rattle.semantics.specs.Base.{pick}
use Rattle.semantics.specs.Tree.{is_none}
use Rattle.semantics.specs.Resolution.{Resolution, unresolved, definition, builtin, within, entry_of}
use Rattle.semantics.proofs.BaseLaws.{pick_later, pick-none}
use Rattle.given.specs.Bindings.{expr_of, index_in}
use Rattle.given.specs.Resolutions.{tag_of, value_of, resolution_in}
use Rattle.given.specs.Inside.Resolved.{tag_and_value}
use Rattle.given.specs.declared.ResolveResult.TheVariants.{Definition, Builtin, WithExprs}

-- the case that the tag says
module _ (table : List ℕ) (e : ℕ) {tag : ℕ} (t : tag ≡ tag_of table e) where
  pub got_definition : tag ≡ 1 → {value : ℕ} → value ≡ value_of table e → entry_of (resolution_in table e) ≡ tag_and_value (Some (Definition value))
  unfolding entry_of resolution_in tag_and_value pick
  got_definition h v = let q : tag_of table e ≡ 1 = sym t ∙ h in rw (q, v)

  pub got_builtin : tag ≡ 2 → {value : ℕ} → value ≡ value_of table e → entry_of (resolution_in table e) ≡ tag_and_value (Some (Builtin value))
  unfolding entry_of resolution_in tag_and_value pick
  got_builtin h v = let q : tag_of table e ≡ 2 = sym t ∙ h in rw (q, v)

  pub got_with : tag ≡ 3 → {value : ℕ} → value ≡ value_of table e → entry_of (resolution_in table e) ≡ tag_and_value (Some (WithExprs value))
  unfolding entry_of resolution_in tag_and_value pick
  got_with h v = let q : tag_of table e ≡ 3 = sym t ∙ h in rw (q, v)

  pub got_nothing : (tag ≡ 1 → ⊥) → (tag ≡ 2 → ⊥) → (tag ≡ 3 → ⊥) → entry_of (resolution_in table e) ≡ tag_and_value None
  unfolding entry_of resolution_in tag_and_value
  got_nothing a b c =
      ap entry_of (pick_later (tag_of table e) _ _ _ (ne_eqb _ 1 (λ z. a (t ∙ z)))
      ∙ pick_later (tag_of table e) _ _ _ (ne_eqb _ 2 (λ z. b (t ∙ z)))
      ∙ pick_later (tag_of table e) _ _ _ (ne_eqb _ 3 (λ z. c (t ∙ z)))
      ∙ pick-none (tag_of table e) _)

-- what has the tag and the value of a case is that case
pub is-definition : (x : Resolution) {n : ℕ} → entry_of x ≡ tag_and_value (Some (Definition n)) → x ≡ definition n
unfolding entry_of tag_and_value
is-definition unresolved h = absurd (omega (arith, ap (λ p. p.0) h))
is-definition (definition n) h = ap definition (ap (λ p. p.1) h)
is-definition (builtin p) h = absurd (omega (arith, ap (λ p. p.0) h))
is-definition (within w) h = absurd (omega (arith, ap (λ p. p.0) h))

pub is-builtin : (x : Resolution) {n : ℕ} → entry_of x ≡ tag_and_value (Some (Builtin n)) → x ≡ builtin n
unfolding entry_of tag_and_value
is-builtin unresolved h = absurd (omega (arith, ap (λ p. p.0) h))
is-builtin (definition n) h = absurd (omega (arith, ap (λ p. p.0) h))
is-builtin (builtin p) h = ap builtin (ap (λ p. p.1) h)
is-builtin (within w) h = absurd (omega (arith, ap (λ p. p.0) h))

pub is_with : (x : Resolution) {n : ℕ} → entry_of x ≡ tag_and_value (Some (WithExprs n)) → x ≡ within n
unfolding entry_of tag_and_value
is_with unresolved h = absurd (omega (arith, ap (λ p. p.0) h))
is_with (definition n) h = absurd (omega (arith, ap (λ p. p.0) h))
is_with (builtin p) h = absurd (omega (arith, ap (λ p. p.0) h))
is_with (within w) h = ap within (ap (λ p. p.1) h)

pub is-nothing : (x : Resolution) → entry_of x ≡ tag_and_value None → x ≡ unresolved
unfolding entry_of tag_and_value
is-nothing unresolved h = refl
is-nothing (definition n) h = absurd (omega (arith, ap (λ p. p.0) h))
is-nothing (builtin p) h = absurd (omega (arith, ap (λ p. p.0) h))
is-nothing (within w) h = absurd (omega (arith, ap (λ p. p.0) h))

-- the expression of a name's entry
module _ (table : List ℕ) (n : ℕ) (l : 2 * n + 2 ≤ length table) {e : ℕ} (t : e ≡ expr_of table n) where
  pub unbound : e ≡ 16383 → index_in table n ≡ None
  unfolding index_in is_none
  unbound h = rw (le-leb (2 * n + 2) (length table) l, eq-eqb (expr_of table n) 16383 (sym t ∙ h))

  pub bound : (e ≡ 16383 → ⊥) → index_in table n ≡ (Some e)
  unfolding index_in is_none
  bound h = rw (le-leb (2 * n + 2) (length table) l, ne_eqb (expr_of table n) 16383 (λ z. h (t ∙ z)), t)
