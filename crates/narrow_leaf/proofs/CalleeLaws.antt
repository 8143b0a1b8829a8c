-- The callee lookup and what a function tests for, in the terms of the code.
use Rattle.std.specs.Prelude.{Option, Some, None}
use Rattle.narrow_texts.specs.declared.words.NarrowPredicate.{NarrowPredicate}
use mathlib.Core.Path.{◌≡◌, refl, ap, sym, ◌∙◌}
use mathlib.Core.Logic.{◌⊎◌, inl, inr, ⊎_elim}
use native.Mathlib.Decide.{ℕ_discrete}
use mathlib.Core.Bool.{Bool, true, false, cond}
use mathlib.Core.List.{List}
use Prim.Native.Nat.{ℕ, suc, ◌+◌, ◌-◌, ◌*◌, ◌≤◌, ◌<◌}
use native.Mathlib.Omega.{arith}
use lib.Dec.{eqb}
use lib.ListN.{length}
use borrow.Author.Tests.{ne_eqb, eqb-true, ltb-true}
use Rattle.semantics.specs.Base.{pick, only, or_else, single, ◌>>=◌}
use Rattle.semantics.specs.Tree.{bytes, Text, Tree, same, is_none, expr_at, item_at, text_at, is_kind, part, path, plain, reference, string, apply, select}
use Rattle.semantics.specs.Words.{Sort, predicate}
use Rattle.semantics.specs.Resolution.{Tables}
use Rattle.semantics.specs.Narrow.{Test, is, has, local_name, global_name, builtin_set, builtins_key, chain_key, callee_in, callee_name, has_attr_call, tests}
use Rattle.semantics.specs.Order.{arity}
use Rattle.semantics.proofs.BaseLaws.{clash, some_inj, and_left, and_right, all-holds}
use Rattle.semantics.proofs.ChainLaws.{builtins-last}
use Rattle.codes.specs.Inside.Below.{Below}
use Rattle.image_fields.specs.Image.{expr_count, name_count, text_count, decode}
use Rattle.given.specs.Bindings.{expr_of, spare_of, index_in, entry_fits, bindings_fit}
use Rattle.given.specs.Given.{given}
use Rattle.given.specs.Inside.Resolved.{resolved}
use Rattle.narrow_texts.specs.Inside.Numbers.{Finds, Spelt}
use Rattle.narrow_texts.specs.Inside.Predicates.{predicate_for, saying, passing}
use Rattle.narrow_texts.specs.Inside.Texts.{single_key}
use Rattle.narrow_texts.specs.Inside.Chains.{builtins_ref}
use Rattle.narrow_texts.specs.declared.chains.BuiltinsRef.{BuiltinsRef}
use Rattle.narrow_texts.specs.declared.chains.BuiltinsRef.TheVariants.{Builtin, Another, Other}
use Rattle.narrow_leaf.specs.Inside.Callees.{direct_name, bound_expr, is_like, spelt_like, predicate_name}
use Rattle.narrow_texts.specs.declared.words.NarrowPredicate.TheVariants.{HasField}
use Rattle.narrow_texts.proofs.NumberLaws.{below, found_none, found_some, nothing-found, spelt_none, spelt_some, spelt_as, nothing_spelt, just_spelt, either_first, either_second}
use Rattle.given.proofs.EntryLaws.{unbound as entry-unbound, bound as entry-bound}
use Rattle.narrow_texts.proofs.PathLaws.{no-reference}
use Rattle.narrow_texts.proofs.ChainLaws.{builtin-set, another_set_lem, other-set, no-chain}

-- `spelt_like`
module _ (s : List ℕ) (e : ℕ) {name : Option ℕ} (f : Finds (text_count s) (reference (decode s) e) name) where
  pub not_like : (x : ℕ) → name ≡ None → false ≡ spelt_like (decode s) x e
  unfolding spelt_like is_like
  not_like x h = rw (found_none f h)

  pub like : (x : ℕ) {n : ℕ} → name ≡ Some n → {y z : Text} {b : Bool} → y ≡ text_at (decode s) x → z ≡ text_at (decode s) n → b ≡ same y z → b ≡ spelt_like (decode s) x e
  unfolding spelt_like is_like
  like x h p q r = rw (found_some f h, ← p, ← q) r

-- `builtins_key`
module _ (t : Tree) (tab : Tables) (e : ℕ) where
  pub not_selected : {kind : ℕ} → kind ≡ (expr_at t e).kind → (kind ≡ 11 → ⊥) → builtins_key t tab e ≡ None
  unfolding builtins_key select is_kind only ◌>>=◌
  not_selected {kind} k h = rw (← k, ne_eqb kind 11 h)

  key-is : (expr_at t e).kind ≡ 11 → builtins_key t tab e ≡ cond (builtin_set t tab (part t e 0)) (single_key t e >>= λ x. Some (text_at t x)) None
  unfolding builtins_key select is_kind only ◌>>=◌ single_key
  key-is h = rw h (outer (plain t e))
    where
      assoc : (o : Option ℕ) → (o >>= λ k. string t k >>= λ x. Some (text_at t x)) ≡ (o >>= string t >>= λ x. Some (text_at t x))
      assoc None = refl
      assoc (Some k) = refl

      inner : (b : Bool) → (only b (path t e) >>= single >>= λ k. string t k >>= λ x. Some (text_at t x)) ≡ cond b (single (path t e) >>= string t >>= λ x. Some (text_at t x)) None
      inner true = assoc (single (path t e))
      inner false = refl

      none_both : (b : Bool) → ◌≡◌ {A = Option Text} None (cond b None None)
      none_both true = refl
      none_both false = refl

      outer : (q : Bool) → (◌>>=◌ {A = ℕ × List ℕ} (only q (part t e 0, path t e)) λ s. only (builtin_set t tab s.0) s.1 >>= single >>= λ k. string t k >>= λ x. Some (text_at t x))
          ≡ cond (builtin_set t tab (part t e 0)) (only q (path t e) >>= single >>= string t >>= λ x. Some (text_at t x)) None
      outer true = inner (builtin_set t tab (part t e 0))
      outer false = none_both (builtin_set t tab (part t e 0))

  module _ {kind set : ℕ} {r : BuiltinsRef} (k : kind ≡ (expr_at t e).kind) (h : kind ≡ 11) (p : set ≡ (item_at t e 0).expression) (q : r ≡ builtins_ref t tab set) where
    keyed : (b : Bool) → builtin_set t tab set ≡ b → builtins_key t tab e ≡ cond b (single_key t e >>= λ x. Some (text_at t x)) None
    unfolding part
    keyed b z = key-is (sym k ∙ h) ∙ rw (← p, z)

    pub key-builtin : r ≡ Builtin → builtins_key t tab e ≡ (single_key t e >>= λ x. Some (text_at t x))
    key-builtin z = keyed true (builtin-set t tab set q z).0

    key_another : r ≡ Another → builtins_key t tab e ≡ None
    key_another z = keyed false (another_set_lem t tab set q z).0

    key-other : r ≡ Other → builtins_key t tab e ≡ None
    key-other z = keyed false (other-set t tab set q z).0

    pub key-else : (r ≡ Another) ⊎ (r ≡ Other) → builtins_key t tab e ≡ None
    key-else z = ⊎_elim key_another key-other z

-- `direct_name`
module _ {s : List ℕ} (table bindings : List ℕ) (e : ℕ) {name : Option ℕ} (g : Spelt s (global_name (decode s) (given table bindings) e) name) where
  pub direct_global : {x : ℕ} → name ≡ Some x → Spelt s (direct_name (decode s) (given table bindings) e) (Some x)
  unfolding direct_name
  direct_global h = either_first _ g h

  pub direct_key : name ≡ None → {r : Option ℕ} → Spelt s (builtins_key (decode s) (given table bindings) e) r → Spelt s (direct_name (decode s) (given table bindings) e) r
  unfolding direct_name
  direct_key h k = either_second _ g h k

-- `bound_expr`
module _ (s bindings : List ℕ) (fit : bindings_fit s bindings ≡ true) (n : ℕ) (l : n < name_count s) where
  pub binding-inside : 2 * n + 2 ≤ length bindings
  unfolding bindings_fit
  binding-inside = let z : length bindings ≡ 2 * name_count s = eqb-true _ _ (and_left _ _ fit) in omega arith

  binding-below : (expr_of bindings n ≡ 16383 → ⊥) → expr_of bindings n < expr_count s
  unfolding bindings_fit entry_fits is_none
  binding-below h =
      ltb-true _ _
      (rw (ne_eqb (expr_of bindings n) 16383 h) at
      (and_right (eqb (spare_of bindings n) 0) _ (all-holds (entry_fits s bindings) (name_count s) n (and_right (eqb (length bindings) (2 * name_count s)) _ fit) l)))

  -- what the table gives a name is below the number of expressions
  bound-below : (r : Option ℕ) → index_in bindings n ≡ r → Below (expr_count s) r
  bound-below None h = tt
  bound-below (Some e) h = elim (ℕ_discrete (expr_of bindings n) 16383) [
    | yes z ↦ absurd (clash (sym (entry-unbound bindings n binding-inside refl z) ∙ h))
    | no z ↦ rw (← some_inj (sym (entry-bound bindings n binding-inside refl z) ∙ h)) (binding-below z)
  ]

module _ (s table bindings : List ℕ) (e : ℕ) {name : Option ℕ} (f : Finds (name_count s) (local_name (decode s) (resolved table) e) name) where
  local_any : local_name (decode s) (given table bindings) e ≡ local_name (decode s) (resolved table) e
  unfolding local_name
  local_any = refl

  pub unbound : name ≡ None → Finds (expr_count s) (bound_expr (decode s) (given table bindings) e) None
  unfolding bound_expr ◌>>=◌
  unbound h = nothing-found (rw (local_any ∙ found_none f h))

  pub bound : {n : ℕ} → name ≡ Some n → bindings_fit s bindings ≡ true → {r : Option ℕ} → index_in bindings n ≡ r → Finds (expr_count s) (bound_expr (decode s) (given table bindings) e) r
  unfolding bound_expr ◌>>=◌
  bound {n} h fit {r} q =
      record { this = rw (local_any ∙ found_some f h) q; inside = bound-below s bindings fit n (below f.inside h) r q }

-- `builtin_callee_name`
module _ (t : Tree) (tab : Tables) where
  -- the alias of an expression that is bound to what is found so
  alias : ℕ → (ℕ → Option Text) → Option Text
  alias e below = bound_expr t tab e >>= below >>= λ g. reference t e >>= λ x. only (same g (text_at t x)) g

  no_alias : (e : ℕ) (below : ℕ → Option Text) → reference t e ≡ None → alias e below ≡ None
  unfolding alias bound_expr local_name ◌>>=◌
  no_alias e below h = rw h

  either_way : (a k : Option Text) → (a ≡ None) ⊎ (k ≡ None) → or_else a k ≡ or_else k a
  unfolding or_else
  either_way None None h = refl
  either_way None (Some y) h = refl
  either_way (Some x) None h = refl
  either_way (Some x) (Some y) h = ⊎_elim (λ q. absurd (clash (sym q))) (λ q. absurd (clash (sym q))) h

  -- a Reference is no selection, and nothing else is an alias
  swap : (e : ℕ) (below : ℕ → Option Text) → or_else (alias e below) (builtins_key t tab e) ≡ or_else (builtins_key t tab e) (alias e below)
  swap e below = either_way (alias e below) (builtins_key t tab e) (elim (ℕ_discrete (expr_at t e).kind 10) [
    | yes h ↦ inr (not_selected t tab e {kind = 10} (sym h) (λ q. absurd (omega arith)))
    | no h ↦ inl (no_alias e below (no-reference t e refl h))
  ])

  or-or : (a b c : Option Text) → or_else a (or_else b c) ≡ or_else (or_else a b) c
  unfolding or_else
  or-or None b c = refl
  or-or (Some x) b c = refl

  callee_step : (d e : ℕ) → callee_in t tab (suc d) e ≡ or_else (direct_name t tab e) (alias e (callee_in t tab d))
  unfolding callee_in direct_name alias bound_expr ◌>>=◌
  callee_step d e = ap (λ o. or_else (global_name t tab e) (or_else o (builtins_key t tab e))) regroup ∙ ap (or_else (global_name t tab e)) (swap e (callee_in t tab d)) ∙ or-or _ _ _
    where
      spelt : Text → Option Text
      spelt g = reference t e >>= λ x. only (same g (text_at t x)) g

      indexed : (o : Option ℕ) → (o >>= λ b. callee_in t tab d b >>= spelt) ≡ (o >>= callee_in t tab d >>= spelt)
      indexed None = refl
      indexed (Some b) = refl

      named : (o : Option ℕ) → (o >>= λ n. tab.index n >>= λ b. callee_in t tab d b >>= spelt) ≡ (o >>= tab.index >>= callee_in t tab d >>= spelt)
      named None = refl
      named (Some n) = indexed (tab.index n)

      regroup : (local_name t tab e >>= λ n. tab.index n >>= λ b. callee_in t tab d b >>= spelt) ≡ alias e (callee_in t tab d)
      regroup = named (local_name t tab e)

pub callee_end : (t : Tree) (tab : Tables) {depths : ℕ} (e : ℕ) → depths ≡ 0 → callee_in t tab depths e ≡ None
unfolding callee_in
callee_end t tab e h = rw h

-- The ways out of it.
module _ (s table bindings : List ℕ) {depths : ℕ} (e : ℕ) (more : depths ≡ 0 → ⊥) {name : Option ℕ} (d : Spelt s (direct_name (decode s) (resolved table) e) name) where
  abbrev tab : Tables
  tab = given table bindings

  abbrev t : Tree
  t = decode s

  direct_any : direct_name t tab e ≡ direct_name t (resolved table) e
  unfolding direct_name global_name builtins_key builtin_set
  direct_any = refl

  direct : Spelt s (direct_name t tab e) name
  direct = spelt_as direct_any d

  step : callee_in t tab depths e ≡ or_else (direct_name t tab e) (alias t tab e (callee_in t tab (depths - 1)))
  step = let z : depths ≡ suc (depths - 1) = omega (arith, more) in ap (λ n. callee_in t tab n e) z ∙ callee_step t tab (depths - 1) e

  pub callee_direct : {x : ℕ} → name ≡ Some x → Spelt s (callee_in t tab depths e) (Some x)
  callee_direct h = spelt_as step (either_first _ direct h)

  module _ (h : name ≡ None) {bound : Option ℕ} (b : Finds (expr_count s) (bound_expr t tab e) bound) where
    by_alias : {r : Option ℕ} → Spelt s (alias t tab e (callee_in t tab (depths - 1))) r → Spelt s (callee_in t tab depths e) r
    by_alias k = spelt_as step (either_second _ direct h k)

    pub callee_unbound : bound ≡ None → Spelt s (callee_in t tab depths e) None
    unfolding alias ◌>>=◌
    callee_unbound q = by_alias (nothing_spelt (rw (found_none b q)))

    module _ {to : ℕ} (q : bound ≡ Some to) {traced : Option ℕ} (k : Spelt s (callee_in t tab (depths - 1) to) traced) where
      pub callee_untraced : traced ≡ None → Spelt s (callee_in t tab depths e) None
      unfolding alias ◌>>=◌
      callee_untraced z = by_alias (nothing_spelt (rw (found_some b q, spelt_none k z)))

      module _ {x : ℕ} (z : traced ≡ Some x) {b₁ : Bool} (l : b₁ ≡ spelt_like t x e) where
        spelt_so : alias t tab e (callee_in t tab (depths - 1)) ≡ only b₁ (text_at t x)
        unfolding alias ◌>>=◌ only spelt_like is_like
        spelt_so = rw (found_some b q, spelt_some k z, l) (go (reference t e))
          where
            go : (o : Option ℕ) → (o >>= λ y. only (same (text_at t x) (text_at t y)) (text_at t x)) ≡ only (is_like t (text_at t x) o) (text_at t x)
            go None = refl
            go (Some y) = refl

        callee_unlike : b₁ ≡ false → Spelt s (callee_in t tab depths e) None
        unfolding only
        callee_unlike w = by_alias (nothing_spelt (spelt_so ∙ rw w))

        callee_like : b₁ ≡ true → Spelt s (callee_in t tab depths e) (Some x)
        unfolding only
        callee_like w = by_alias (just_spelt (spelt_so ∙ rw w) (below k.inside z))

        pub callee_asked : Spelt s (callee_in t tab depths e) (Rattle.std.specs.Bool.then_some b₁ x)
        callee_asked = go b₁ refl
          where
            go : (b : Bool) → b₁ ≡ b → Spelt s (callee_in t tab depths e) (Rattle.std.specs.Bool.then_some b x)
            go false w = callee_unlike w
            go true w = callee_like w

-- `try_hasattr_builtin_call`
two_parts : arity 1 ≡ 2
unfolding arity pick
two_parts = refl

pub call-parts : (t : Tree) (f : ℕ) {kind : ℕ} → kind ≡ (expr_at t f).kind → kind ≡ 1 → (k : ℕ) → k < 2 → k < arity (expr_at t f).kind
call-parts t f e h k l = rw (← e, h, two_parts) l

uncalled : (t : Tree) (tab : Tables) (f : ℕ) {kind : ℕ} → kind ≡ (expr_at t f).kind → (kind ≡ 1 → ⊥) → has_attr_call t tab f ≡ None
unfolding has_attr_call apply is_kind only ◌>>=◌
uncalled t tab f {kind} k h = rw (← k, ne_eqb kind 1 h)

module _ (s table bindings : List ℕ) (f : ℕ) {kind : ℕ} (k : kind ≡ (expr_at (decode s) f).kind) where
  pub no_call : (kind ≡ 1 → ⊥) → has_attr_call (decode s) (given table bindings) f ≡ None
  no_call h = uncalled (decode s) (given table bindings) f k h

  module _ (h : kind ≡ 1) {callee : ℕ} {name : Option ℕ} (p : callee ≡ (item_at (decode s) f 0).expression) (n : Spelt s (callee_in (decode s) (given table bindings) 4 callee) name) where
    pub no-callee : name ≡ None → has_attr_call (decode s) (given table bindings) f ≡ None
    unfolding has_attr_call apply is_kind only ◌>>=◌ callee_name part
    no-callee z = rw (← k, h, ← p, spelt_none n z)

    module _ {y : ℕ} (z : name ≡ Some y) {x : Text} {b : Bool} (e : x ≡ text_at (decode s) y) (q : b ≡ same x (bytes "hasAttr")) where
      pub other-callee : b ≡ false → has_attr_call (decode s) (given table bindings) f ≡ None
      unfolding has_attr_call apply is_kind only ◌>>=◌ callee_name part
      other-callee w = rw (← k, h, ← p, spelt_some n z, ← e, ← q, w)

      pub key-call : b ≡ true → {child : ℕ} → child ≡ (item_at (decode s) f 1).expression → has_attr_call (decode s) (given table bindings) f ≡ string (decode s) child
      unfolding has_attr_call apply is_kind only ◌>>=◌ callee_name part
      key-call w c = rw (← k, h, ← p, spelt_some n z, ← e, ← q, w, c)

-- `tests`
or-none : {A : Type 0} (o : Option A) → or_else o None ≡ o
unfolding or_else
or-none None = refl
or-none (Some p) = refl

or_same : {A : Type 0} (o : Option A) → or_else o o ≡ o
unfolding or_else
or_same None = refl
or_same (Some p) = refl

tested : Option Sort → Option Test
tested o = o >>= λ s. Some (is s)

module _ (t : Tree) (tab : Tables) (f : ℕ) where
  -- a key of the builtin set is a last key that counts
  key-last : (builtins_key t tab f ≡ None) ⊎ (builtins_key t tab f ≡ chain_key t tab f)
  key-last = go (builtins_key t tab f) refl
    where
      go : (o : Option Text) → builtins_key t tab f ≡ o → (builtins_key t tab f ≡ None) ⊎ (builtins_key t tab f ≡ chain_key t tab f)
      go None q = inl q
      go (Some x) q = inr (q ∙ sym (builtins-last t tab f x q))

  module _ {kind : ℕ} (k : kind ≡ (expr_at t f).kind) where
    -- of what is no Reference the lookup takes a key of the builtin set alone
    callee-key : (kind ≡ 10 → ⊥) → callee_name t tab f ≡ builtins_key t tab f
    unfolding callee_name direct_name global_name or_else ◌>>=◌
    callee-key h = callee_step t tab 3 f ∙ rw (no_alias t tab f (callee_in t tab 3) (no-reference t f k h), no-reference t f k h) (or-none (builtins_key t tab f))

    -- `predicate_name`
    pub name-called : kind ≡ 10 → predicate_name t tab f ≡ callee_name t tab f
    unfolding predicate_name or_else
    name-called h = rw (no-chain t tab f k (λ z. absurd (omega arith))) (or-none (callee_name t tab f))

    pub name-selected : kind ≡ 11 → predicate_name t tab f ≡ chain_key t tab f
    unfolding predicate_name or_else
    name-selected h = rw (callee-key (λ z. absurd (omega arith))) (⊎_elim (λ z. rw z) (λ z. rw z (or_same (chain_key t tab f))) key-last)

    pub no_name_lem : (kind ≡ 10 → ⊥) → (kind ≡ 11 → ⊥) → predicate_name t tab f ≡ None
    unfolding predicate_name or_else
    no_name_lem h g = rw (callee-key h, not_selected t tab f k g, no-chain t tab f k g)

    tests-named : kind ≡ 10 → tests t tab f ≡ tested (predicate_name t tab f >>= predicate)
    unfolding tests tested ◌>>=◌ or_else
    tests-named h =
        rw (name-called h, uncalled t tab f k (λ z. absurd (omega arith)), no-chain t tab f k (λ z. absurd (omega arith))) (or-none (tested (callee_name t tab f >>= predicate)))

    tests-selected : kind ≡ 11 → tests t tab f ≡ tested (predicate_name t tab f >>= predicate)
    unfolding tests tested ◌>>=◌ or_else
    tests-selected h =
        rw (name-selected h, uncalled t tab f k (λ z. absurd (omega arith)), callee-key (λ z. absurd (omega arith)))
        (⊎_elim (λ z. rw z) (λ z. rw z (or_same (tested (chain_key t tab f >>= predicate)))) key-last)

    tests-called : (kind ≡ 10 → ⊥) → (kind ≡ 11 → ⊥) → tests t tab f ≡ (has_attr_call t tab f >>= λ x. Some (has x))
    unfolding tests ◌>>=◌ or_else
    tests-called h g = rw (callee-key h, not_selected t tab f k g, no-chain t tab f k g) (or-none (has_attr_call t tab f >>= λ x. Some (has x)))

  -- a function with such a name is told by it, any other by `hasAttr`
  by_name : {x : Text} → predicate_name t tab f ≡ Some x → tests t tab f ≡ tested (predicate x)
  unfolding ◌>>=◌
  by_name h = elim (ℕ_discrete (expr_at t f).kind 10) [
    | yes k ↦ tests-named refl k ∙ rw h
    | no k ↦ elim (ℕ_discrete (expr_at t f).kind 11) [
      | yes j ↦ tests-selected refl j ∙ rw h
      | no j ↦ absurd (clash (sym (no_name_lem refl k j) ∙ h))
    ]
  ]

  unnamed : predicate_name t tab f ≡ None → tests t tab f ≡ (has_attr_call t tab f >>= λ x. Some (has x))
  unfolding ◌>>=◌ tested
  unnamed h = elim (ℕ_discrete (expr_at t f).kind 10) [
    | yes k ↦ tests-named refl k ∙ rw (h, uncalled t tab f refl (λ z. absurd (omega (arith, k, z))))
    | no k ↦ elim (ℕ_discrete (expr_at t f).kind 11) [
      | yes j ↦ tests-selected refl j ∙ rw (h, uncalled t tab f refl (λ z. absurd (omega (arith, j, z))))
      | no j ↦ tests-called refl k j
    ]
  ]

module _ (s table bindings : List ℕ) (f : ℕ) where
  abbrev Tests : Option NarrowPredicate → Type 0
  Tests r = r ≡ saying true (tests (decode s) (given table bindings) f)

  module _ {name : Option ℕ} (n : Spelt s (predicate_name (decode s) (given table bindings) f) name) where
    pub named-test : {x : ℕ} → name ≡ Some x → {y : Text} {r : Option NarrowPredicate} → y ≡ text_at (decode s) x → r ≡ passing (predicate y) → Tests r
    unfolding passing tested
    named-test h q p = p ∙ ap (saying true) (rw q (sym (by_name (decode s) (given table bindings) f (spelt_some n h))))

    module _ (h : name ≡ None) {key : Option ℕ} (k : Finds (text_count s) (has_attr_call (decode s) (given table bindings) f) key) where
      pub key-test : {x : ℕ} → key ≡ Some x → Tests (Some (HasField x))
      unfolding saying predicate_for ◌>>=◌
      key-test z = rw (unnamed (decode s) (given table bindings) f (spelt_none n h), found_some k z)

      pub no_test : key ≡ None → Tests None
      unfolding saying ◌>>=◌
      no_test z = rw (unnamed (decode s) (given table bindings) f (spelt_none n h), found_none k z)
