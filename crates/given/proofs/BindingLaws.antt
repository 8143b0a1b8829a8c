-- The rule of a given binding table, in the terms of the code.
use Rattle.std.specs.Prelude.{None}
use mathlib.Core.Path.{◌≡◌, refl, sym}
use mathlib.Core.Bool.{Bool, true, false}
use mathlib.Core.List.{List}
use Prim.Native.Nat.{ℕ, ◌+◌, ◌*◌, ◌/◌, ◌%◌, ◌^◌, ◌≤◌, ◌<◌}
use native.Mathlib.Omega.{arith}
use native.Mathlib.Decide.{dec_lt}
use lib.Dec.{ltb}
use lib.ListN.{length}
use borrow.Author.Tests.{eq-eqb, ne_eqb, le-ltb, lt-leb}
use Rattle.semantics.specs.Base.{all}
use Rattle.semantics.specs.Tree.{is_none}
use Rattle.image_fields.specs.Image.{expr_count, name_count}
use Rattle.image_fields.specs.Inside.Words.{word_of}
use Rattle.image_fields.proofs.FieldLaws.{Bytes, taken, word_lt}
use Rattle.given.specs.Bindings.{spare_of, expr_of, index_in, entry_fits, bindings_fit}
use Rattle.given.specs.Inside.Entry.{entry_stands}

-- a name past the end has none
pub index_past : (table : List ℕ) (n : ℕ) → length table ≤ 2 * n → index_in table n ≡ None
unfolding index_in
index_past table n h = rw (lt-leb (2 * n + 2) (length table) (omega arith))

-- the entry of a name, as one number
module _ (table : List ℕ) (bytes : Bytes table) (n exprs : ℕ) {x : ℕ} (e : x ≡ word_of table (2 * n) 2) where
  spare-is : spare_of table n ≡ x / 2 ^ 14 % 2 ^ 2
  spare-is = sym (taken table bytes (2 * n) 2 0 2 14 (omega arith) e refl)

  expr-is : expr_of table n ≡ x / 2 ^ 0 % 2 ^ 14
  expr-is = sym (taken table bytes (2 * n) 2 2 14 0 (omega arith) e refl)

  pub no-expr : x ≡ 16383 → true ≡ entry_stands table n exprs
  unfolding entry_stands is_none
  no-expr h = rw (eq-eqb (spare_of table n) 0 (omega (arith, spare-is)), eq-eqb (expr_of table n) 16383 (omega (arith, expr-is)))

  -- a number of 16384 or more has a spare bit
  pub some-expr : exprs < 16384 → (x ≡ 16383 → ⊥) → ltb x exprs ≡ entry_stands table n exprs
  unfolding entry_stands is_none
  some-expr few h = elim (dec_lt x 16384) [
    | yes l ↦
        let q : expr_of table n ≡ x = omega (arith, expr-is, l) in
        rw (eq-eqb (spare_of table n) 0 (omega (arith, spare-is, l)), q, ne_eqb x 16383 h)
    | no l ↦
        rw (le-ltb x exprs (omega (arith, l)), ne_eqb (spare_of table n) 0 (λ z. l (omega (arith, z, spare-is, e, word_lt table bytes (2 * n) 2))))
  ]

module _ (s table : List ℕ) {names : ℕ} (n : names ≡ name_count s) where
  pub other_length : (length table ≡ 2 * names → ⊥) → false ≡ bindings_fit s table
  unfolding bindings_fit
  other_length h = rw (ne_eqb (length table) (2 * name_count s) (λ e. h (omega arith)))

  pub entries_are : length table ≡ 2 * names → all (entry_fits s table) names ≡ bindings_fit s table
  unfolding bindings_fit
  entries_are h = rw (eq-eqb (length table) (2 * name_count s) (omega arith), n)

pub entry-is : (s table : List ℕ) (n : ℕ) {exprs : ℕ} {r : Bool} → r ≡ entry_stands table n exprs → exprs ≡ expr_count s → entry_fits s table n ≡ r
unfolding entry_fits entry_stands
entry-is s table n h e = rw (h, e)
