-- The rule of a given resolution table, in the terms of the code.
use mathlib.Core.Path.{◌≡◌, refl, sym, ◌∙◌}
use mathlib.Core.Bool.{Bool, true, false, cond, ◌&&◌}
use mathlib.Core.List.{List}
use Prim.Native.Nat.{ℕ, ◌+◌, ◌*◌, ◌/◌, ◌%◌, ◌^◌, ◌≤◌, ◌<◌}
use native.Mathlib.Omega.{arith}
use lib.Dec.{eqb, ltb}
use lib.ListN.{length}
use borrow.Author.Tests.{eq-eqb, ne_eqb, lt-ltb, le-ltb}
use Rattle.semantics.specs.Base.{pick, all}
use Rattle.semantics.specs.Tree.{Tree, expr_at}
use Rattle.semantics.proofs.BaseLaws.{pick_later, pick-none}
use Rattle.image_fields.specs.Image.{expr_count, name_count, decode}
use Rattle.image_fields.specs.Inside.Words.{word_of}
use Rattle.image_fields.proofs.FieldLaws.{Bytes, taken, word_lt}
use Rattle.image_fields.proofs.ImageLaws.{tree-names, tree-exprs}
use Rattle.given.specs.Resolutions.{tag_of, value_of, value_fits, entry_fits, resolutions_fit}

-- the value under a tag
module _ (s : List ℕ) (tag value : ℕ) where
  pub under-definition : {names : ℕ} → names ≡ name_count s → tag ≡ 1 → ltb value names ≡ value_fits (decode s) tag value
  unfolding value_fits pick
  under-definition n h = rw (h, n, ← tree-names s)

  pub no_name_lem : name_count s ≤ value → tag ≡ 1 → false ≡ value_fits (decode s) tag value
  no_name_lem l h = sym (le-ltb value (name_count s) l) ∙ under-definition refl h

  pub under-builtin : tag ≡ 2 → ltb value 22 ≡ value_fits (decode s) tag value
  unfolding value_fits pick
  under-builtin h = rw h

  module _ (a : 0 < tag) (b : tag ≡ 1 → ⊥) (c : tag ≡ 2 → ⊥) {exprs : ℕ} (n : exprs ≡ expr_count s) where
    under_with_lem : value_fits (decode s) tag value ≡ (ltb value (length (decode s).exprs) && eqb (expr_at (decode s) value).kind 13)
    unfolding value_fits
    under_with_lem =
        pick_later tag _ _ _ (ne_eqb tag 0 (λ z. omega arith)) ∙ pick_later tag _ _ _ (ne_eqb tag 1 b) ∙ pick_later tag _ _ _ (ne_eqb tag 2 c) ∙ pick-none tag _

    pub no-expr : exprs ≤ value → false ≡ value_fits (decode s) tag value
    no-expr h = sym (under_with_lem ∙ rw (le-ltb value (length (decode s).exprs) (omega (arith, tree-exprs s))))

    pub some-expr : value < exprs → {kind : ℕ} → kind ≡ (expr_at (decode s) value).kind → eqb kind 13 ≡ value_fits (decode s) tag value
    some-expr h k = sym (under_with_lem ∙ rw (lt-ltb value (length (decode s).exprs) (omega (arith, tree-exprs s)), k))

either : (r b : Bool) → r ≡ cond b r r
either r true = refl
either r false = refl

-- the entry of an expression, as one number
module _ (t : Tree) (table : List ℕ) (bytes : Bytes table) (e : ℕ) {entry : ℕ} (n : entry ≡ word_of table (2 * e) 2) where
  tag_is : {tag : ℕ} → tag ≡ entry / 2 ^ 14 % 2 ^ 2 → tag ≡ tag_of table e
  tag_is = taken table bytes (2 * e) 2 0 2 14 (omega arith) n

  value-is : {value : ℕ} → value ≡ entry / 2 ^ 0 % 2 ^ 14 → value ≡ value_of table e
  value-is = taken table bytes (2 * e) 2 2 14 0 (omega arith) n

  pub zero-entry : entry ≡ 0 → true ≡ entry_fits t table e
  unfolding entry_fits value_fits pick
  zero-entry h =
      let g : 0 ≡ tag_of table e = tag_is (omega arith) in
      let v : 0 ≡ value_of table e = value-is (omega arith) in
      rw (← g, ← v) (either true (eqb (expr_at t e).kind 10))

  module _ {tag : ℕ} (g : tag ≡ entry / 2 ^ 14 % 2 ^ 2) where
    -- a value that is not zero, under no tag
    pub value_alone : (entry ≡ 0 → ⊥) → tag ≡ 0 → false ≡ entry_fits t table e
    unfolding entry_fits value_fits pick
    value_alone f z = rw (← tag_is g, z, ne_eqb (value_of table e) 0 (λ v. f (omega (arith, v, value-is refl, n, word_lt table bytes (2 * e) 2)))) (either false (eqb (expr_at t e).kind 10))

    module _ {kind : ℕ} (k : kind ≡ (expr_at t e).kind) where
      pub tag-set : (tag ≡ 0 → ⊥) → (kind ≡ 10 → ⊥) → false ≡ entry_fits t table e
      unfolding entry_fits
      tag-set f h = rw (← k, ne_eqb kind 10 h, ← tag_is g, ne_eqb tag 0 f)

      pub of_reference : kind ≡ 10 → {value : ℕ} → value ≡ entry / 2 ^ 0 % 2 ^ 14 → {r : Bool} → r ≡ value_fits t tag value → r ≡ entry_fits t table e
      unfolding entry_fits
      of_reference h v f = rw (← k, eq-eqb kind 10 h, f, tag_is g, value-is v)

  pub small-entry : (entry ≡ 0 → ⊥) → entry < 16384 → false ≡ entry_fits t table e
  small-entry f l = value_alone refl f (omega (arith, l))

-- .. with a tag
module _ (table : List ℕ) (bytes : Bytes table) (e : ℕ) {entry : ℕ} (n : entry ≡ word_of table (2 * e) 2) (l : 16384 ≤ entry) where
  pub is_tagged : {tag : ℕ} → tag ≡ entry / 2 ^ 14 % 2 ^ 2 → 0 < tag
  is_tagged g = omega (arith, g, l, n, word_lt table bytes (2 * e) 2)

module _ (s table : List ℕ) (bytes : Bytes table) (e : ℕ) {entry : ℕ} (n : entry ≡ word_of table (2 * e) 2) (l : 16384 ≤ entry) where
  -- a definition that is no name's number
  pub past_names : {tag value names : ℕ} → names ≡ name_count s → tag ≡ entry / 2 ^ 14 % 2 ^ 2 → value ≡ entry / 2 ^ 0 % 2 ^ 14 → 16384 + names ≤ entry → tag ≡ 1 → name_count s ≤ value
  past_names m g v h z = omega (arith, m, g, v, h, z, n, word_lt table bytes (2 * e) 2)

  module _ {kind : ℕ} (k : kind ≡ (expr_at (decode s) e).kind) where
    pub other-kind : (kind ≡ 10 → ⊥) → false ≡ entry_fits (decode s) table e
    other-kind h = tag-set (decode s) table bytes e n refl k (λ z. omega (arith, z, is_tagged table bytes e n l refl)) h

    pub named-entry : kind ≡ 10 → {names : ℕ} → names ≡ name_count s → entry < 16384 + names → names < 16384 → true ≡ entry_fits (decode s) table e
    named-entry h {names} m f o =
        let one : entry / 2 ^ 14 % 2 ^ 2 ≡ 1 = omega (arith, l, f, o) in
        let few : entry / 2 ^ 0 % 2 ^ 14 < names = omega (arith, l, f, o) in
        of_reference (decode s) table bytes e n refl k h refl (sym (lt-ltb (entry / 2 ^ 0 % 2 ^ 14) names few) ∙ under-definition s (entry / 2 ^ 14 % 2 ^ 2) (entry / 2 ^ 0 % 2 ^ 14) m one)

module _ (s table : List ℕ) {exprs : ℕ} (n : exprs ≡ expr_count s) where
  pub other_length : (length table ≡ 2 * exprs → ⊥) → false ≡ resolutions_fit s table
  unfolding resolutions_fit
  other_length h = rw (ne_eqb (length table) (2 * expr_count s) (λ e. h (omega arith)))

  pub entries_are : length table ≡ 2 * exprs → all (entry_fits (decode s) table) exprs ≡ resolutions_fit s table
  unfolding resolutions_fit
  entries_are h = rw (eq-eqb (length table) (2 * expr_count s) (omega arith), n)
