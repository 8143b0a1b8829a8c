-- A resolution table that is written from resolutions is read back as them, and passes the rule of a given table.
use mathlib.Core.Path.{◌≡◌, refl, ap, sym, ◌∙◌}
use mathlib.Core.Bool.{true, ◌&&◌}
use mathlib.Core.List.{List}
use Prim.Native.Nat.{ℕ, ◌+◌, ◌*◌, ◌/◌, ◌%◌, ◌^◌, ◌≤◌, ◌<◌}
use native.Mathlib.Omega.{arith}
use native.Mathlib.Decide.{dec_lt, ℕ_discrete}
use lib.Dec.{eqb}
use lib.ListN.{length}
use borrow.Author.Tests.{eq-eqb, ne_eqb, lt-ltb}
use Rattle.semantics.specs.Base.{pick, All}
use Rattle.semantics.specs.Tree.{Tree, no_expr, expr_at}
use Rattle.semantics.specs.Scopes.{defined}
use Rattle.semantics.specs.Resolution.{Resolution, unresolved, definition, builtin, within, entry_of, Tables, own}
use Rattle.semantics.specs.Formats.{resolution_bytes, resolution_table}
use Rattle.semantics.proofs.BaseLaws.{all-every}
use Rattle.semantics.proofs.ResolutionLaws.{Fits, resolve-fits, others-unresolved, past_end}
use Rattle.image_fields.specs.Image.{field_in, expr_count, name_count, decode}
use Rattle.image_fields.specs.Inside.Asked.{Sized}
use Rattle.image_fields.proofs.FieldLaws.{field_past}
use Rattle.image_fields.proofs.ImageLaws.{tree-exprs, tree-names}
use Rattle.lent.proofs.PairLaws.{entries-length, entry-field}
use Rattle.given.specs.Resolutions.{tag_of, value_of, resolution_in, value_fits, entry_fits, resolutions_fit}

-- the number of 16 bits that an entry writes
number : Resolution → ℕ
number r = (entry_of r).0 * 2 ^ 14 + (entry_of r).1

tag_small : (r : Resolution) → (entry_of r).0 < 4
unfolding entry_of
tag_small unresolved = omega arith
tag_small (definition n) = omega arith
tag_small (builtin p) = omega arith
tag_small (within w) = omega arith

-- what fits keeps the rule of a value, and has 14 bits
value-fits : (t : Tree) (r : Resolution) → Fits t r → value_fits t (entry_of r).0 (entry_of r).1 ≡ true
unfolding entry_of value_fits pick
value-fits t unresolved h = refl
value-fits t (definition n) h = lt-ltb n (length t.names) h
value-fits t (builtin p) h = lt-ltb p 22 h
value-fits t (within w) h = rw (lt-ltb w (length t.exprs) h.0, eq-eqb (expr_at t w).kind 13 h.1)

value-small : (t : Tree) → length t.names < 2 ^ 14 → length t.exprs < 2 ^ 14 → (r : Resolution) → Fits t r → (entry_of r).1 < 2 ^ 14
unfolding entry_of
value-small t n e unresolved h = omega arith
value-small t n e (definition m) h = omega arith
value-small t n e (builtin p) h = omega arith
value-small t n e (within w) h = omega (arith, h.0)

zero-entry : (eqb (entry_of unresolved).0 0 && eqb (entry_of unresolved).1 0) ≡ true
unfolding entry_of
zero-entry = refl

-- past the end of a table nothing is resolved
read_past : (table : List ℕ) (e : ℕ) → length table ≤ 2 * e → resolution_in table e ≡ unresolved
unfolding resolution_in pick
read_past table e h = rw (field_past table (8 * (2 * e) + 0) 2 (omega arith))

module _ (t : Tree) (tab : Tables) where
  pub table-long : length (resolution_table t tab) ≡ 2 * length t.exprs
  unfolding resolution_table resolution_bytes number
  table-long = entries-length (λ e. resolution_bytes (tab.resolution e)) (λ e. number (tab.resolution e)) (λ e. refl) t.exprs

  module _ (e : ℕ) (l : e < length t.exprs) (small : (entry_of (tab.resolution e)).1 < 2 ^ 14) where
    field_of_lem : (offset width k : ℕ) → offset + width + k ≡ 16 → field_in (resolution_table t tab) (2 * e) offset width ≡ number (tab.resolution e) / 2 ^ k % 2 ^ width
    unfolding resolution_table resolution_bytes number
    field_of_lem offset width k q =
        entry-field (λ e. resolution_bytes (tab.resolution e)) (λ e. number (tab.resolution e)) (λ e. refl) t.exprs e offset width k l
        (omega (arith, small, tag_small (tab.resolution e))) q

    tag_read : tag_of (resolution_table t tab) e ≡ (entry_of (tab.resolution e)).0
    unfolding number
    tag_read = field_of_lem 0 2 14 (omega arith) ∙ omega (arith, small, tag_small (tab.resolution e))

    value_read : value_of (resolution_table t tab) e ≡ (entry_of (tab.resolution e)).1
    unfolding number
    value_read = field_of_lem 2 14 0 (omega arith) ∙ omega (arith, small, tag_small (tab.resolution e))

    pub resolution_read : resolution_in (resolution_table t tab) e ≡ tab.resolution e
    unfolding resolution_in entry_of pick
    resolution_read = go (tab.resolution e) refl
      where
        go : (r : Resolution) → tab.resolution e ≡ r → resolution_in (resolution_table t tab) e ≡ r
        go unresolved q = rw (tag_read, q)
        go (definition n) q = rw (tag_read, value_read, q)
        go (builtin p) q = rw (tag_read, value_read, q)
        go (within w) q = rw (tag_read, value_read, q)

    fits : Fits t (tab.resolution e) → (((expr_at t e).kind ≡ 10 → ⊥) → tab.resolution e ≡ unresolved) → entry_fits t (resolution_table t tab) e ≡ true
    unfolding entry_fits
    fits h others = elim (ℕ_discrete (expr_at t e).kind 10) [
      | yes k ↦ rw (eq-eqb (expr_at t e).kind 10 k, tag_read, value_read) (value-fits t (tab.resolution e) h)
      | no k ↦ rw (ne_eqb (expr_at t e).kind 10 k, tag_read, value_read, others k) zero-entry
    ]

-- our own resolution is read as the definition's, and is never refused
module _ (s : List ℕ) (sized : Sized s) (named : (e : ℕ) → All (λ n. n < name_count s) (defined (decode s) e)) where
  own_fit : (e : ℕ) → Fits (decode s) ((own (decode s)).resolution e)
  unfolding own
  own_fit e = resolve-fits (decode s) (rw (tree-names s) named) e

  own-small : (e : ℕ) → (entry_of ((own (decode s)).resolution e)).1 < 2 ^ 14
  own-small e = value-small (decode s) (omega (arith, tree-names s, sized.names-few)) (omega (arith, tree-exprs s, sized.exprs-few)) _ (own_fit e)

  own-others : (e : ℕ) → ((expr_at (decode s) e).kind ≡ 10 → ⊥) → (own (decode s)).resolution e ≡ unresolved
  unfolding own
  own-others = others-unresolved (decode s)

  pub own_read : (e : ℕ) → resolution_in (resolution_table (decode s) (own (decode s))) e ≡ (own (decode s)).resolution e
  own_read e = elim (dec_lt e (length (decode s).exprs)) [
    | yes l ↦ resolution_read (decode s) (own (decode s)) e l (own-small e)
    | no l ↦
        read_past (resolution_table (decode s) (own (decode s))) e (omega (arith, l, table-long (decode s) (own (decode s))))
        ∙ sym (own-others e (missing e (omega (arith, l))))
  ]
    where
      missing : (e : ℕ) → length (decode s).exprs ≤ e → (expr_at (decode s) e).kind ≡ 10 → ⊥
      missing e l h = let z : no_expr.kind ≡ 10 = sym (ap (λ x. x.kind) (past_end (decode s) e l)) ∙ h in omega (arith, z)

  pub own-fits : resolutions_fit s (resolution_table (decode s) (own (decode s))) ≡ true
  unfolding resolutions_fit
  own-fits =
      let n : length (resolution_table (decode s) (own (decode s))) ≡ 2 * expr_count s = table-long (decode s) (own (decode s)) ∙ ap (λ k. 2 * k) (tree-exprs s) in
      let f = all-every (entry_fits (decode s) (resolution_table (decode s) (own (decode s)))) (expr_count s)
      (λ e l. fits (decode s) (own (decode s)) e (rw (tree-exprs s) l) (own-small e) (own_fit e) (own-others e)) in
      rw (eq-eqb _ _ n, f)
