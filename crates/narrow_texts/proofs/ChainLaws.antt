-- Selections by the set that they are from and by their last key, in the terms of the code.
use Rattle.std.specs.Prelude.{Option, Some, None}
use mathlib.Core.Path.{◌≡◌, refl, ap, sym, subst, ◌∙◌}
use mathlib.Core.Bool.{Bool, true, false, not, cond, ◌&&◌}
use mathlib.Core.List.{List}
use mathlib.Core.Logic.{◌⊎◌, inl, inr}
use Prim.Native.Nat.{ℕ, ◌<◌}
use native.Mathlib.Omega.{arith}
use borrow.Author.Tests.{ne_eqb}
use Rattle.semantics.specs.Base.{only, or_else, ◌>>=◌}
use Rattle.semantics.specs.Tree.{Tree, Text, bytes, same, expr_at, item_at, text_at, is_kind, part, select, last_key, reference}
use Rattle.semantics.specs.Words.{entry, conditional_fn_names}
use Rattle.semantics.specs.Resolution.{Tables, Resolution, builtin, entry_of}
use Rattle.semantics.specs.Narrow.{global_of, global_name, builtin_set, another_set, chain_key, conditional_fn}
use Rattle.semantics.proofs.BaseLaws.{true≢false, after, only-some, same-equal}
use Rattle.semantics.proofs.ChainLaws.{builtin-set_placed}
use Rattle.image_fields.specs.Image.{text_count, decode}
use Rattle.given.specs.Resolutions.{resolution_in}
use Rattle.given.specs.Given.{given}
use Rattle.given.specs.declared.ResolveResult.{ResolveResult}
use Rattle.given.specs.declared.ResolveResult.TheVariants.{Definition, Builtin as BuiltinAt, WithExprs}
use Rattle.given.specs.Inside.Resolved.{tag_and_value, resolved}
use Rattle.given.proofs.EntryLaws.{is-definition, is-builtin, is_with, is-nothing}
use Rattle.narrow_texts.specs.declared.words.ConditionalFn.{ConditionalFn as Recognised}
use Rattle.narrow_texts.specs.declared.chains.BuiltinsRef.{BuiltinsRef}
use Rattle.narrow_texts.specs.declared.chains.BuiltinsRef.TheVariants.{Builtin, Another, Other}
use Rattle.narrow_texts.specs.Inside.Numbers.{Finds, Spelt}
use Rattle.narrow_texts.specs.Inside.Rows.{conditional_of}
use Rattle.narrow_texts.specs.Inside.Chains.{spells, spelt_builtins, builtins_ref, leaf_name}
use Rattle.narrow_texts.proofs.NumberLaws.{found_none, found_some, spelt_none, spelt_some, spelt_as, just_spelt, nothing_spelt}
use Rattle.narrow_texts.proofs.PathLaws.{no-reference, is-reference}
use Rattle.narrow_texts.proofs.NameLaws.{or_else-none}

-- the three answers, told apart by numbers
of_three : BuiltinsRef → ℕ
of_three Builtin = 0
of_three Another = 1
of_three Other = 2

and-false : (b : Bool) → (b && false) ≡ false
and-false true = refl
and-false false = refl

-- `spelt_builtins`
module _ (s : List ℕ) (e : ℕ) {name : Option ℕ} (f : Finds (text_count s) (reference (decode s) e) name) where
  pub no-builtins : name ≡ None → false ≡ spelt_builtins (decode s) e
  unfolding spelt_builtins spells
  no-builtins h = rw (found_none f h)

  pub is-builtins : {n : ℕ} → name ≡ Some n → {x : Text} {b : Bool} → x ≡ text_at (decode s) n → b ≡ same x (bytes "builtins") → b ≡ spelt_builtins (decode s) e
  unfolding spelt_builtins spells
  is-builtins h y q = rw (found_some f h, ← y) q

module _ (t : Tree) (tab : Tables) (e : ℕ) where
  -- the builtin set is spelt so
  set_spelt : builtin_set t tab e ≡ true → spelt_builtins t e ≡ true
  unfolding builtin_set global_name spelt_builtins spells
  set_spelt h = go (global_name t tab e) refl h
    where
      go : (o : Option Text) → global_name t tab e ≡ o → elim o as (λ z. Bool) [ None ↦ false | Some g ↦ same g (bytes "builtins") ] ≡ true → spelt_builtins t e ≡ true
      go None p q = absurd (true≢false q refl)
      go (Some g) p q =
          after (reference t e) _ p λ x hx p₁.
          after (global_of (tab.resolution e)) _ p₁ λ f hf p₂.
          only-some (same f (text_at t x)) p₂ λ k fg. rw hx (subst (λ z. same z (bytes "builtins") ≡ true) (sym fg ∙ same-equal f (text_at t x) k) q)

  another_is : another_set t tab e ≡ (spelt_builtins t e && not (builtin_set t tab e))
  unfolding another_set spelt_builtins spells
  another_is = go (reference t e)
    where
      go : (o : Option ℕ)
          → elim o as (λ z. Bool) [ None ↦ false | Some x ↦ same (text_at t x) (bytes "builtins") && not (builtin_set t tab e) ] ≡ (spells t o (bytes "builtins") && not (builtin_set t tab e))
      go None = refl
      go (Some x) = refl

  -- what is spelt so is the builtin set exactly where it has its place
  placed : spelt_builtins t e ≡ true → (builtin_set t tab e ≡ true → tab.resolution e ≡ builtin 2) × (tab.resolution e ≡ builtin 2 → builtin_set t tab e ≡ true)
  unfolding spelt_builtins spells
  placed h = go (reference t e) refl h
    where
      go : (o : Option ℕ) → reference t e ≡ o → spells t o (bytes "builtins") ≡ true
          → (builtin_set t tab e ≡ true → tab.resolution e ≡ builtin 2) × (tab.resolution e ≡ builtin 2 → builtin_set t tab e ≡ true)
      go None p q = absurd (true≢false q refl)
      go (Some x) p q = builtin-set_placed t tab e x p q

  -- `builtins_ref`
  pub ref_other : spelt_builtins t e ≡ false → Other ≡ builtins_ref t tab e
  unfolding builtins_ref
  ref_other h = go (builtin_set t tab e) refl
    where
      go : (b : Bool) → builtin_set t tab e ≡ b → Other ≡ cond b Builtin (cond (another_set t tab e) Another Other)
      go true q = absurd (true≢false (set_spelt q) h)
      go false q = rw (another_is, h)

  pub ref_another : spelt_builtins t e ≡ true → (tab.resolution e ≡ builtin 2 → ⊥) → Another ≡ builtins_ref t tab e
  unfolding builtins_ref
  ref_another h n = go (builtin_set t tab e) refl
    where
      go : (b : Bool) → builtin_set t tab e ≡ b → Another ≡ cond b Builtin (cond (another_set t tab e) Another Other)
      go true q = absurd (n ((placed h).0 q))
      go false q = rw (another_is, h, q)

  pub ref_builtin : spelt_builtins t e ≡ true → tab.resolution e ≡ builtin 2 → Builtin ≡ builtins_ref t tab e
  unfolding builtins_ref
  ref_builtin h p = rw ((placed h).1 p)

  -- which of the three it is tells the set
  module _ {r : BuiltinsRef} (p : r ≡ builtins_ref t tab e) where
    answer : (n : ℕ) → of_three r ≡ n → of_three (cond (builtin_set t tab e) Builtin (cond (another_set t tab e) Another Other)) ≡ n
    unfolding builtins_ref
    answer n h = ap of_three (sym p) ∙ h

    pub builtin-set : r ≡ Builtin → (builtin_set t tab e ≡ true) × (another_set t tab e ≡ false)
    unfolding of_three
    builtin-set h = go (builtin_set t tab e) refl (another_set t tab e) (answer 0 (ap of_three h))
      where
        go : (b : Bool) → builtin_set t tab e ≡ b → (a : Bool) → of_three (cond b Builtin (cond a Another Other)) ≡ 0 → (builtin_set t tab e ≡ true) × (another_set t tab e ≡ false)
        go true q a k = (q, another_is ∙ rw q (and-false (spelt_builtins t e)))
        go false q true k = absurd (omega (arith, k))
        go false q false k = absurd (omega (arith, k))

    pub another_set_lem : r ≡ Another → (builtin_set t tab e ≡ false) × (another_set t tab e ≡ true)
    unfolding of_three
    another_set_lem h = go (builtin_set t tab e) refl (another_set t tab e) refl (answer 1 (ap of_three h))
      where
        go : (b : Bool) → builtin_set t tab e ≡ b → (a : Bool) → another_set t tab e ≡ a → of_three (cond b Builtin (cond a Another Other)) ≡ 1
            → (builtin_set t tab e ≡ false) × (another_set t tab e ≡ true)
        go true q a z k = absurd (omega (arith, k))
        go false q true z k = (q, z)
        go false q false z k = absurd (omega (arith, k))

    pub other-set : r ≡ Other → (builtin_set t tab e ≡ false) × (another_set t tab e ≡ false)
    unfolding of_three
    other-set h = go (builtin_set t tab e) refl (another_set t tab e) refl (answer 2 (ap of_three h))
      where
        go : (b : Bool) → builtin_set t tab e ≡ b → (a : Bool) → another_set t tab e ≡ a → of_three (cond b Builtin (cond a Another Other)) ≡ 2
            → (builtin_set t tab e ≡ false) × (another_set t tab e ≡ false)
        go true q a z k = absurd (omega (arith, k))
        go false q true z k = absurd (omega (arith, k))
        go false q false z k = (q, z)

-- what the entry of a Reference spelt so is
module _ (s table : List ℕ) (e : ℕ) (r : Option ResolveResult) (g : entry_of (resolution_in table e) ≡ tag_and_value r) where
  abbrev Says : BuiltinsRef → Type 0
  Says a = a ≡ builtins_ref (decode s) (resolved table) e

  module _ {b : Bool} (q : b ≡ spelt_builtins (decode s) e) (w : b ≡ true) where
    elsewhere : {ρ : Resolution} → resolution_in table e ≡ ρ → (ρ ≡ builtin 2 → ⊥) → Says Another
    elsewhere d n = ref_another (decode s) (resolved table) e (sym q ∙ w) (λ z. n (sym d ∙ z))

    says_definition : {n : ℕ} → r ≡ Some (Definition n) → Says Another
    says_definition {n} h =
        elsewhere (is-definition (resolution_in table e) (g ∙ ap tag_and_value h)) λ z. let y : ◌≡◌ {A = ℕ} 0 1 = cc in omega arith

    says_with : {n : ℕ} → r ≡ Some (WithExprs n) → Says Another
    says_with {n} h = elsewhere (is_with (resolution_in table e) (g ∙ ap tag_and_value h)) λ z. let y : ◌≡◌ {A = ℕ} 0 1 = cc in omega arith

    pub says_unresolved : r ≡ None → Says Another
    says_unresolved h = elsewhere (is-nothing (resolution_in table e) (g ∙ ap tag_and_value h)) λ z. let y : ◌≡◌ {A = ℕ} 0 1 = cc in omega arith

    module _ {p : ℕ} (h : r ≡ Some (BuiltinAt p)) where
      says_other-place : (p ≡ 2 → ⊥) → Says Another
      says_other-place n = elsewhere (is-builtin (resolution_in table e) (g ∙ ap tag_and_value h)) λ z. n cc

      pub says_builtin : p ≡ 2 → Says Builtin
      says_builtin k =
          ref_builtin (decode s) (resolved table) e (sym q ∙ w) (is-builtin (resolution_in table e) (g ∙ ap tag_and_value h) ∙ ap builtin k)

    pub says_beside : (found : ResolveResult) → r ≡ Some found → (found ≡ BuiltinAt 2 → ⊥) → Says Another
    says_beside (Definition n) h other = says_definition h
    says_beside (BuiltinAt p) h other = says_other-place h (λ z. other (ap BuiltinAt z))
    says_beside (WithExprs w) h other = says_with h

-- `chain_key`
module _ (t : Tree) (tab : Tables) (e : ℕ) {set : ℕ} {r : BuiltinsRef} (i : set ≡ (item_at t e 0).expression) (p : r ≡ builtins_ref t tab set) where
  counted : (b : Bool) → another_set t tab set ≡ b → chain_key t tab e ≡ (only (not b) e >>= last_key t)
  unfolding chain_key part
  counted b h = rw (← i, h)

  pub chain_another : r ≡ Another → chain_key t tab e ≡ None
  unfolding only ◌>>=◌
  chain_another h = counted true (another_set_lem t tab set p h).1

  chain-builtin : r ≡ Builtin → chain_key t tab e ≡ last_key t e
  unfolding only ◌>>=◌
  chain-builtin h = counted false (builtin-set t tab set p h).1

  chain-other : r ≡ Other → chain_key t tab e ≡ last_key t e
  unfolding only ◌>>=◌
  chain-other h = counted false (other-set t tab set p h).1

  pub chain_counted : (r ≡ Builtin) ⊎ (r ≡ Other) → chain_key t tab e ≡ last_key t e
  chain_counted (inl h) = chain-builtin h
  chain_counted (inr h) = chain-other h

-- the index is not asked for it
pub chain-any : (t : Tree) (table bindings : List ℕ) (e : ℕ) → chain_key t (given table bindings) e ≡ chain_key t (resolved table) e
unfolding chain_key another_set builtin_set global_name
chain-any t table bindings e = refl

-- what is no Select has no last key
no_last : (t : Tree) (e : ℕ) {kind : ℕ} → kind ≡ (expr_at t e).kind → (kind ≡ 11 → ⊥) → last_key t e ≡ None
unfolding last_key select is_kind only ◌>>=◌
no_last t e {kind} k h = rw (← k, ne_eqb kind 11 h)

pub no-chain : (t : Tree) (tab : Tables) (e : ℕ) {kind : ℕ} → kind ≡ (expr_at t e).kind → (kind ≡ 11 → ⊥) → chain_key t tab e ≡ None
unfolding chain_key only ◌>>=◌
no-chain t tab e k h = go (not (another_set t tab (part t e 0)))
  where
    go : (b : Bool) → (only b e >>= last_key t) ≡ None
    go true = no_last t e k h
    go false = refl

-- `leaf_name`
module _ (s table : List ℕ) (e : ℕ) {kind : ℕ} (k : kind ≡ (expr_at (decode s) e).kind) where
  abbrev Leaf : Option ℕ → Type 0
  Leaf r = Spelt s (leaf_name (decode s) (resolved table) e) r

  pub leaf-key : kind ≡ 11 → {r : Option ℕ} → Spelt s (chain_key (decode s) (resolved table) e) r → Leaf r
  unfolding leaf_name ◌>>=◌
  leaf-key h f = spelt_as (rw (no-reference (decode s) e k (λ z. absurd (omega (arith, h, z)))) (or_else-none _)) f

  pub leaf-reference : kind ≡ 10 → {x : ℕ} → x ≡ (expr_at (decode s) e).text → x < text_count s → Leaf (Some x)
  unfolding leaf_name or_else ◌>>=◌
  leaf-reference h q l =
      just_spelt (rw (no-chain (decode s) (resolved table) e k (λ z. absurd (omega (arith, h, z))), is-reference (decode s) e k h, q)) l

  pub no-leaf : (kind ≡ 11 → ⊥) → (kind ≡ 10 → ⊥) → Leaf None
  unfolding leaf_name or_else ◌>>=◌
  no-leaf h g = nothing_spelt (rw (no-chain (decode s) (resolved table) e k h, no-reference (decode s) e k g))

-- `detect_conditional_fn`
module _ (s table : List ℕ) (e : ℕ) {name : Option ℕ} (p : Spelt s (leaf_name (decode s) (resolved table) e) name) where
  pub detects_none : name ≡ None → None ≡ conditional_of (conditional_fn (decode s) (resolved table) e)
  unfolding leaf_name conditional_fn conditional_of ◌>>=◌
  detects_none h = rw (spelt_none p h)

  pub detects : {n : ℕ} → name ≡ Some n → {x : Text} {r : Option Recognised} → x ≡ text_at (decode s) n → r ≡ conditional_of (entry x conditional_fn_names)
      → r ≡ conditional_of (conditional_fn (decode s) (resolved table) e)
  unfolding leaf_name conditional_fn ◌>>=◌
  detects h q f = f ∙ rw (spelt_some p h, q)
