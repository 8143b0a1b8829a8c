-- The index that the call writes is read back as the definition's, and passes the rule of a given table.
use Rattle.std.specs.Prelude.{Option, Some, None}
use mathlib.Core.Path.{◌≡◌, refl, ap, sym, subst, ◌∙◌}
use mathlib.Core.Bool.{true, cond, ◌&&◌, ◌||◌}
use mathlib.Core.List.{List}
use Prim.Native.Nat.{ℕ, ◌+◌, ◌*◌, ◌/◌, ◌%◌, ◌^◌, ◌≤◌, ◌<◌}
use native.Mathlib.Omega.{arith}
use native.Mathlib.Decide.{dec_lt}
use lib.Dec.{eqb, ltb}
use lib.ListN.{length, take, drop}
use lib.Seq.{take_at}
use borrow.Author.Tests.{eq-eqb, ne_eqb, lt-ltb, le-leb, eqb-true}
use Rattle.semantics.specs.Base.{final, each, All}
use Rattle.semantics.specs.Tree.{Tree, no_item, is_none}
use Rattle.semantics.specs.Index.{enters, index_of}
use Rattle.semantics.specs.Resolution.{Tables, own}
use Rattle.semantics.specs.Formats.{option_bytes, binding_table}
use Rattle.semantics.proofs.BaseLaws.{and_left, and_right, after, final-all, all-every, All-places}
use Rattle.image_fields.proofs.ImageLaws.{tree-names}
use Rattle.image.proofs.WholeLaws.{whole-owned}
use Rattle.lent.proofs.PairLaws.{entries-length, entry-field}
use Rattle.image_fields.specs.Image.{field_in, expr_count, name_count, item_total, item_of, decode}
use Rattle.image.specs.Inside.Accepted.{Accepted}
use Rattle.lent.specs.Calls.{refusal_of, outcome}
use Rattle.lent.proofs.CallLaws.{on_answer}
use Rattle.index.specs.Outcome.{written, indexing}
use Rattle.given.specs.Bindings.{spare_of, expr_of, index_in, entry_fits, bindings_fit}
use Rattle.given.proofs.BindingLaws.{index_past}
use Rattle.index.proofs.IndexLaws.{Named, number_of, two_bytes, items-many, item-is, items-named, enters_owns}

-- no entry of the index is 16383 or more
abbrev pub Small : Tables → Type 0
Small tab = (n e : ℕ) → tab.index n ≡ Some e → e < 16383

-- the table has two bytes a name
table-many : (t : Tree) (tab : Tables) → length (binding_table t tab) ≡ 2 * length t.names
unfolding binding_table
table-many t tab = entries-length (λ m. option_bytes (tab.index m)) (λ m. number_of (tab.index m)) (λ m. two_bytes (tab.index m)) t.names

module _ (t : Tree) (tab : Tables) (small : Small tab) (n : ℕ) (h : n < length t.names) where
  number : number_of (tab.index n) ≤ 16383
  unfolding number_of
  number = go (tab.index n) refl
    where
      go : (o : Option ℕ) → tab.index n ≡ o → number_of o ≤ 16383
      go None e = omega arith
      go (Some x) e = omega (arith, small n x e)

  field_of_lem : (offset width k : ℕ) → offset + width + k ≡ 16 → field_in (binding_table t tab) (2 * n) offset width ≡ number_of (tab.index n) / 2 ^ k % 2 ^ width
  unfolding binding_table
  field_of_lem offset width k e =
      entry-field (λ m. option_bytes (tab.index m)) (λ m. number_of (tab.index m)) (λ m. two_bytes (tab.index m)) t.names n offset width k h (omega (arith, number)) e

  spare_read : spare_of (binding_table t tab) n ≡ 0
  spare_read = field_of_lem 0 2 14 (omega arith) ∙ omega (arith, number)

  expr_read : expr_of (binding_table t tab) n ≡ number_of (tab.index n)
  expr_read = field_of_lem 2 14 0 (omega arith) ∙ omega (arith, number)

  -- what is read is what the table was made from
  pub index_read : index_in (binding_table t tab) n ≡ tab.index n
  unfolding index_in is_none number_of
  index_read = rw (le-leb (2 * n + 2) (length (binding_table t tab)) (omega (arith, table-many t tab)), expr_read) (go (tab.index n) refl)
    where
      go : (o : Option ℕ) → tab.index n ≡ o → cond (eqb (number_of o) 16383) None (Some (number_of o)) ≡ o
      go None e = refl
      go (Some x) e = rw (ne_eqb x 16383 (λ z. absurd (omega (arith, small n x e))))

  -- an entry keeps the rule where the index leads to expressions of the image
  fits : (s : List ℕ) → ((e : ℕ) → tab.index n ≡ Some e → e < expr_count s) → entry_fits s (binding_table t tab) n ≡ true
  unfolding entry_fits is_none number_of
  fits s inside = rw (spare_read, expr_read) (go (tab.index n) refl)
    where
      go : (o : Option ℕ) → tab.index n ≡ o → (eqb (number_of o) 16383 || ltb (number_of o) (expr_count s)) ≡ true
      go None e = refl
      go (Some x) e = rw (ne_eqb x 16383 (λ z. absurd (omega (arith, small n x e))), lt-ltb x (expr_count s) (inside x e))

-- an item that enters a name has an expression of the image
items-inside : (s : List ℕ) → Accepted s → All (λ j. enters j ≡ true → j.expression < expr_count s) (each (λ x. x.items) (decode s).exprs)
items-inside s a =
    All-places _ (each (λ x. x.items) (decode s).exprs) no_item λ k m.
    let l : k < item_total s = rw (items-many s a) at m in
    subst (λ j. enters j ≡ true → j.expression < expr_count s) (sym (item-is s a k l)) (λ h. whole-owned s a k l (enters_owns (item_of s k) h))

module _ (s : List ℕ) (a : Accepted s) where
  -- the index of an accepted image leads to its expressions
  own-inside : (n e : ℕ) → index_of (decode s) n ≡ Some e → e < expr_count s
  unfolding index_of
  own-inside n e h =
      after (final (λ i. enters i && eqb i.name n) (each (λ x. x.items) (decode s).exprs)) _ h λ i q r.
      let z : i.expression ≡ e = cc in
      rw (← z) (final-all (λ j. enters j ≡ true → j.expression < expr_count s) (λ j. j.expression < expr_count s) _ _ (λ j w p. p (and_left (enters j) _ w)) (items-inside s a) q)

  own-small : Small (own (decode s))
  unfolding own
  own-small n e h = omega (arith, own-inside n e h, a.sized.exprs-few)

  -- what enters a name is an item of a name of the image
  own_past : (n : ℕ) → name_count s ≤ n → index_of (decode s) n ≡ None
  unfolding index_of
  own_past n l = go (index_of (decode s) n) refl
    where
      go : (o : Option ℕ) → index_of (decode s) n ≡ o → o ≡ None
      go None e = refl
      go (Some x) e =
          absurd (after (final (λ i. enters i && eqb i.name n) (each (λ x. x.items) (decode s).exprs)) _ e λ i q r.
          final-all (Named (length (decode s).names)) (λ j. ⊥) _ _
          (λ j w p. omega (arith, l, tree-names s, p (and_left (enters j) _ w), eqb-true j.name n (and_right (enters j) _ w))) (items-named s a) q)

  -- our own index is read as the definition's, and is never refused
  pub own_read : (n : ℕ) → index_in (binding_table (decode s) (own (decode s))) n ≡ (own (decode s)).index n
  unfolding own
  own_read n = elim (dec_lt n (name_count s)) [
    | yes h ↦ index_read (decode s) (own (decode s)) own-small n (rw (tree-names s) h)
    | no h ↦ index_past (binding_table (decode s) (own (decode s))) n (omega (arith, h, table-many (decode s) (own (decode s)), tree-names s)) ∙ sym (own_past n (omega (arith, h)))
  ]

  pub own-fits : bindings_fit s (binding_table (decode s) (own (decode s))) ≡ true
  unfolding bindings_fit own
  own-fits =
      let l : length (binding_table (decode s) (own (decode s))) ≡ 2 * name_count s = table-many (decode s) (own (decode s)) ∙ ap (λ k. 2 * k) (tree-names s) in
      let f = all-every (entry_fits s (binding_table (decode s) (own (decode s)))) (name_count s)
      (λ n h. fits (decode s) (own (decode s)) own-small n (rw (tree-names s) h) s (own-inside n)) in
      rw (eq-eqb _ _ l, f)

-- the table that an answered call leaves begins with our own index
pub table-own : (s table : List ℕ) → refusal_of indexing s table ≡ 0
    → take (2 * name_count s) (outcome indexing s table).lent ≡ binding_table (decode s) (own (decode s))
unfolding outcome written
table-own s table h =
    rw (on_answer indexing s table h)
    (take_at (binding_table (decode s) (own (decode s))) (drop (2 * name_count s) table) (2 * name_count s)
    (table-many (decode s) (own (decode s)) ∙ ap (λ k. 2 * k) (tree-names s)))
