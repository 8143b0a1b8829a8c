-- What a given resolution table says of an expression, in the terms of the code.
use Rattle.std.specs.Prelude.{Option, Some, None}
use Rattle.std.specs.Bool.{then_some}
use Rattle.narrow_texts.specs.declared.words.PrimitiveTy.{PrimitiveTy}
use mathlib.Core.Path.{◌≡◌, refl, ap, sym, ◌∙◌}
use mathlib.Core.Bool.{Bool, true, false, cond, ◌&&◌}
use mathlib.Core.List.{List, [], ◌∷◌, map}
use Prim.Native.Nat.{ℕ, ◌+◌, ◌*◌, ◌≤◌, ◌<◌}
use native.Mathlib.Omega.{arith}
use lib.Dec.{eqb}
use lib.ListN.{length, get_or}
use borrow.Author.Tests.{eq-eqb, ne_eqb, eqb-true, eqb-false, ltb-true}
use Rattle.semantics.specs.Base.{pick, only, or_else, all, ◌>>=◌}
use Rattle.semantics.specs.Tree.{bytes, Text, Tree, same, expr_at, text_at, is_kind, reference}
use Rattle.semantics.specs.Words.{Sort, Null, Bool', Int, Float, String, Path, entry, globals}
use Rattle.semantics.specs.Resolution.{Resolution, unresolved, definition, builtin, within, entry_of}
use Rattle.semantics.specs.Narrow.{name_of, global_of, nothing, local_name, global_name, keyword, literal_sort}
use Rattle.semantics.proofs.BaseLaws.{true≢false, only-some, and_left, and_right, all-holds, pick_all, same-equal}
use Rattle.image_fields.specs.Image.{expr_count, name_count, text_count, decode}
use Rattle.image_fields.proofs.ImageLaws.{tree-names}
use Rattle.given.specs.Resolutions.{tag_of, value_of, resolution_in, value_fits, entry_fits, resolutions_fit}
use Rattle.resolve_builtins.proofs.BuiltinLaws.{place_in}
use Rattle.given.specs.Given.{given}
use Rattle.given.specs.declared.ResolveResult.{ResolveResult}
use Rattle.given.specs.declared.ResolveResult.TheVariants.{Definition, Builtin, WithExprs}
use Rattle.given.specs.Inside.Resolved.{tag_and_value}
use Rattle.given.proofs.EntryLaws.{is-definition, is-builtin, is_with, is-nothing}
use Rattle.narrow_texts.specs.declared.words.PrimitiveTy.TheVariants.{Null as null, Bool as bool}
use Rattle.narrow_texts.specs.Inside.Numbers.{Finds, Spelt}
use Rattle.narrow_texts.specs.Inside.Predicates.{primitive}
use Rattle.narrow_texts.specs.Inside.Texts.{keyword_place, keyword_at, keyword_primitive, literal_primitive}
use Rattle.narrow_texts.proofs.NumberLaws.{below, found_none, found_some, nothing-found, just_found, nothing_spelt, just_spelt}
use Rattle.narrow_texts.proofs.PathLaws.{no-reference, is-reference}

-- what the rule of the table gives
module _ (s table : List ℕ) (fit : resolutions_fit s table ≡ true) (e : ℕ) (l : e < expr_count s) where
  pub entry-inside : 2 * e + 2 ≤ length table
  unfolding resolutions_fit
  entry-inside = let z : length table ≡ 2 * expr_count s = eqb-true _ _ (and_left _ _ fit) in omega arith

  fits_here : entry_fits (decode s) table e ≡ true
  unfolding resolutions_fit
  fits_here = all-holds _ (expr_count s) e (and_right (eqb (length table) (2 * expr_count s)) _ fit) l

  value-fits : (expr_at (decode s) e).kind ≡ 10 → value_fits (decode s) (tag_of table e) (value_of table e) ≡ true
  unfolding entry_fits
  value-fits h = rw (eq-eqb _ 10 h) at fits_here

  -- "Only References may be nonzero."
  fits-other : eqb (expr_at (decode s) e).kind 10 ≡ false → (eqb (tag_of table e) 0 && eqb (value_of table e) 0) ≡ true
  unfolding entry_fits
  fits-other q = rw q at fits_here

  tagged : (tag_of table e ≡ 0 → ⊥) → (expr_at (decode s) e).kind ≡ 10
  tagged n = go (eqb (expr_at (decode s) e).kind 10) refl
    where
      go : (b : Bool) → eqb (expr_at (decode s) e).kind 10 ≡ b → (expr_at (decode s) e).kind ≡ 10
      go true q = eqb-true _ 10 q
      go false q = absurd (n (eqb-true (tag_of table e) 0 (and_left _ _ (fits-other q))))

  name_below : tag_of table e ≡ 1 → value_of table e < name_count s
  unfolding value_fits pick
  name_below q = rw (← tree-names s) (ltb-true _ _ (rw q at (value-fits (tagged (λ z. absurd (omega (arith, q, z)))))))

  place-below : tag_of table e ≡ 2 → value_of table e < 22
  unfolding value_fits pick
  place-below q = ltb-true _ _ (rw q at (value-fits (tagged (λ z. absurd (omega (arith, q, z))))))

  -- of the resolution: a definition is a name's and stands at a Reference, a builtin has a place
  module _ {P : Type 0} where
    tag_of_definition : {n : ℕ} → resolution_in table e ≡ definition n → (tag_of table e ≡ 1 → value_of table e ≡ n → P) → P
    unfolding resolution_in
    tag_of_definition {n} =
        pick_all (λ r. r ≡ definition n → (tag_of table e ≡ 1 → value_of table e ≡ n → P) → P) (tag_of table e) _ unresolved (
          λ q z f. f (eqb-true (tag_of table e) 1 q) cc,
          (λ q z f. absurd (let w : ◌≡◌ {A = ℕ} 0 1 = cc in omega arith), (λ q z f. absurd (let w : ◌≡◌ {A = ℕ} 0 1 = cc in omega arith), tt)),
        )
        (λ z f. absurd (let w : ◌≡◌ {A = ℕ} 0 1 = cc in omega arith))

    tag_of_builtin : {n : ℕ} → resolution_in table e ≡ builtin n → (tag_of table e ≡ 2 → value_of table e ≡ n → P) → P
    unfolding resolution_in
    tag_of_builtin {n} =
        pick_all (λ r. r ≡ builtin n → (tag_of table e ≡ 2 → value_of table e ≡ n → P) → P) (tag_of table e) _ unresolved (
          λ q z f. absurd (let w : ◌≡◌ {A = ℕ} 0 1 = cc in omega arith),
          (λ q z f. f (eqb-true (tag_of table e) 2 q) cc, (λ q z f. absurd (let w : ◌≡◌ {A = ℕ} 0 1 = cc in omega arith), tt)),
        )
        (λ z f. absurd (let w : ◌≡◌ {A = ℕ} 0 1 = cc in omega arith))

  definition-kind : {n : ℕ} → resolution_in table e ≡ definition n → (expr_at (decode s) e).kind ≡ 10
  definition-kind h = tag_of_definition h (λ q v. tagged (λ z. absurd (omega (arith, q, z))))

  definition-below : {n : ℕ} → resolution_in table e ≡ definition n → n < name_count s
  definition-below h = tag_of_definition h (λ q v. rw (← v) (name_below q))

  pub builtin-below : {n : ℕ} → resolution_in table e ≡ builtin n → n < 22
  builtin-below h = tag_of_builtin h (λ q v. rw (← v) (place-below q))

-- a step that finds nothing
pub then_none : {A B : Type 0} (o : Option A) (f : A → Option B) → ((a : A) → f a ≡ None) → (o >>= f) ≡ None
unfolding ◌>>=◌
then_none None f h = refl
then_none (Some a) f h = h a

-- `expr_as_local_name`
abbrev Local : List ℕ → List ℕ → List ℕ → ℕ → Option ℕ → Type 0
Local s table bindings e = Finds (name_count s) (local_name (decode s) (given table bindings) e)

module _ (s table bindings : List ℕ) (e : ℕ) (r : Option ResolveResult) (g : entry_of (resolution_in table e) ≡ tag_and_value r) where
  no_name_lem : name_of (resolution_in table e) ≡ None → Local s table bindings e None
  unfolding local_name
  no_name_lem h = nothing-found (then_none (reference (decode s) e) _ (λ x. h))

  pub local_builtin : {p : ℕ} → r ≡ Some (Builtin p) → Local s table bindings e None
  unfolding name_of
  local_builtin h = no_name_lem (rw (is-builtin _ (g ∙ ap tag_and_value h)))

  pub local_with : {w : ℕ} → r ≡ Some (WithExprs w) → Local s table bindings e None
  unfolding name_of
  local_with h = no_name_lem (rw (is_with _ (g ∙ ap tag_and_value h)))

  pub local_none : r ≡ None → Local s table bindings e None
  unfolding name_of
  local_none h = no_name_lem (rw (is-nothing _ (g ∙ ap tag_and_value h)))

  module _ (fit : resolutions_fit s table ≡ true) (l : e < expr_count s) where
    pub local_definition : {n : ℕ} → r ≡ Some (Definition n) → Local s table bindings e (Some n)
    unfolding local_name ◌>>=◌ name_of
    local_definition h =
        let d = is-definition _ (g ∙ ap tag_and_value h) in
        just_found (rw (is-reference (decode s) e refl (definition-kind s table fit e l d), d)) (definition-below s table fit e l d)

-- Texts: a text equals itself; the global builtins differ.
pub same_self : (x : Text) → same x x ≡ true
unfolding same
same_self [] = refl
same_self (y ∷ ys) = rw (eq-eqb y y refl, same_self ys)

own-places : all (λ p. eqb (place_in (get_or globals p []) globals) p) 22 ≡ true
unfolding all place_in globals same
own-places = refl

own-place : (p : ℕ) → p < 22 → place_in (get_or globals p []) globals ≡ p
own-place p l = eqb-true _ _ (all-holds _ 22 p own-places l)

-- a text that is the builtin at a place has that place
builtin-place : (x : Text) (p : ℕ) → p < 22 → get_or globals p [] ≡ x → place_in x globals ≡ p
builtin-place x p l h = ap (λ y. place_in y globals) (sym h) ∙ own-place p l

-- `global_name`
abbrev Global : List ℕ → List ℕ → List ℕ → ℕ → Option ℕ → Type 0
Global s table bindings e = Spelt s (global_name (decode s) (given table bindings) e)

module _ (s table bindings : List ℕ) (e : ℕ) {name : Option ℕ} (f : Finds (text_count s) (reference (decode s) e) name) where
  pub global_none : name ≡ None → Global s table bindings e None
  unfolding global_name ◌>>=◌
  global_none h = nothing_spelt (rw (found_none f h))

  module _ (r : Option ResolveResult) (g : entry_of (resolution_in table e) ≡ tag_and_value r) where
    no_global : global_of (resolution_in table e) ≡ None → Global s table bindings e None
    unfolding global_name ◌>>=◌
    no_global n = nothing_spelt (then_none (reference (decode s) e) _ (λ x. rw n refl))

    global_definition : {n : ℕ} → r ≡ Some (Definition n) → Global s table bindings e None
    unfolding global_of
    global_definition h = no_global (rw (is-definition _ (g ∙ ap tag_and_value h)))

    global_with : {w : ℕ} → r ≡ Some (WithExprs w) → Global s table bindings e None
    unfolding global_of
    global_with h = no_global (rw (is_with _ (g ∙ ap tag_and_value h)))

    pub global_unresolved : r ≡ None → Global s table bindings e None
    unfolding global_of
    global_unresolved h = no_global (rw (is-nothing _ (g ∙ ap tag_and_value h)))

    pub global_else : (found : ResolveResult) → r ≡ Some found → ((p : ℕ) → found ≡ Builtin p → ⊥) → Global s table bindings e None
    global_else (Definition n) h other = global_definition h
    global_else (Builtin p) h other = absurd (other p refl)
    global_else (WithExprs w) h other = global_with h

    module _ {value n : ℕ} (q : r ≡ Some (Builtin value)) (h : name ≡ Some n) where
      pub builtin_there : resolution_in table e ≡ builtin value
      builtin_there = is-builtin _ (g ∙ ap tag_and_value q)

      module _ {x : Text} (y : x ≡ text_at (decode s) n) {b : Bool} (p : b ≡ same x (get_or globals value [])) where
        global_test : global_name (decode s) (given table bindings) e ≡ only (same (get_or globals value []) x) (get_or globals value [])
        unfolding global_name ◌>>=◌ global_of
        global_test = rw (found_some f h, builtin_there, y)

        global_other : b ≡ false → Global s table bindings e None
        unfolding only
        global_other w = nothing_spelt (global_test ∙ go (same (get_or globals value []) x) refl)
          where
            go : (d : Bool) → same (get_or globals value []) x ≡ d → only d (get_or globals value []) ≡ None
            go true z = absurd (true≢false (rw (same-equal (get_or globals value []) x z) (same_self x)) (sym p ∙ w))
            go false z = refl

        global_is : b ≡ true → Global s table bindings e (Some n)
        unfolding only
        global_is w =
            let v : get_or globals value [] ≡ x = sym (same-equal x (get_or globals value []) (sym p ∙ w)) in
            just_spelt (global_test ∙ rw (v, same_self x, y)) (below f.inside h)

        pub global_asked : Global s table bindings e (then_some b n)
        global_asked = go b refl
          where
            go : (d : Bool) → b ≡ d → Global s table bindings e (then_some d n)
            go true w = global_is w
            go false w = global_other w

-- `expr_literal_primitive`
pick-map : {A B : Type 0} (f : A → B) (n : ℕ) (l : List (ℕ × A)) (d : A) → f (pick n l d) ≡ pick n (map (λ x. (x.0, f x.1)) l) (f d)
unfolding pick
pick-map f n [] d = refl
pick-map {A} {B} f n (x ∷ l) d = go (eqb n x.0) (pick-map f n l d)
  where
    go : (b : Bool) → f (pick n l d) ≡ pick n (map (λ y. (y.0, f y.1)) l) (f d)
        → f (elim b as (λ _. A) [ true ↦ x.1 | false ↦ pick n l d ]) ≡ (elim b as (λ _. B) [ true ↦ f x.1 | false ↦ pick n (map (λ y. (y.0, f y.1)) l) (f d) ])
    go true h = refl
    go false h = h

pub or_else-none : {A : Type 0} (o : Option A) → or_else o None ≡ o
unfolding or_else
or_else-none None = refl
or_else-none (Some a) = refl

-- null, true, false
abbrev words : List (Text × Sort)
words = (bytes "null", Null) ∷ (bytes "true", Bool') ∷ (bytes "false", Bool') ∷ []

-- `keyword` of a Reference of this text
keyword_of : Resolution → Text → Option Text
keyword_of ρ x = or_else (global_of ρ >>= λ b. only (same b x) b) (only (nothing ρ) x)

Small : Resolution → Type 0
Small ρ = (p : ℕ) → ρ ≡ builtin p → p < 22

module _ (x : Text) where
  -- a text that is the builtin at a place
  keyword-only : (k : ℕ) → k < 22 → get_or globals k [] ≡ x → (ρ : Resolution) → Small ρ → keyword_of ρ x ≡ only (keyword_at ρ k) x
  unfolding keyword_of keyword_at global_of nothing only or_else ◌>>=◌ Small
  keyword-only k l h unresolved m = refl
  keyword-only k l h (definition n) m = refl
  keyword-only k l h (within w) m = refl
  keyword-only k l h (builtin p) m = go (same (get_or globals p []) x) refl (eqb p k) refl
    where
      go : (b : Bool) → same (get_or globals p []) x ≡ b → (d : Bool) → eqb p k ≡ d → or_else (only b (get_or globals p [])) None ≡ only d x
      go true e true f = ap Some (same-equal _ _ e)
      go true e false f = absurd (eqb-false p k f (sym (builtin-place x p (m p refl) (same-equal _ _ e)) ∙ builtin-place x k l h))
      go false e true f = absurd (true≢false (rw (eqb-true p k f, h) (same_self x)) e)
      go false e false f = refl

  -- whatever a keyword is, it has the text of its Reference
  keyword_spelt : {B : Type 0} (f : Text → Option B) → f x ≡ None → (ρ : Resolution) → (keyword_of ρ x >>= f) ≡ None
  unfolding keyword_of global_of nothing only or_else ◌>>=◌
  keyword_spelt f h unresolved = h
  keyword_spelt f h (definition n) = refl
  keyword_spelt f h (within w) = refl
  keyword_spelt {B} f h (builtin p) = go (same (get_or globals p []) x) refl
    where
      go : (b : Bool) → same (get_or globals p []) x ≡ b → (or_else (only b (get_or globals p [])) None >>= f) ≡ None
      go true e = rw (same-equal _ _ e) h
      go false e = refl

  -- the three words and their places
  worded : (k : ℕ) (n : Option PrimitiveTy) → k < 22 → get_or globals k [] ≡ x → primitive (entry x words) ≡ n → (ρ : Resolution) → Small ρ → primitive (keyword_of ρ x >>= λ y. entry y words) ≡ cond (keyword_at ρ k) n None
  unfolding primitive ◌>>=◌ only
  worded k n l h q ρ m = ap (λ o. primitive (o >>= λ y. entry y words)) (keyword-only k l h ρ m) ∙ go (keyword_at ρ k)
    where
      go : (b : Bool) → primitive (only b x >>= λ y. entry y words) ≡ cond b n None
      go true = q
      go false = refl

  -- what is asked of the place that was found, if any
  by_place : Resolution → Option ℕ → Option PrimitiveTy
  by_place ρ None = None
  by_place ρ (Some k) = cond (keyword_at ρ k) (keyword_primitive k) None

  keyword_result : (ρ : Resolution) → Small ρ → primitive (keyword_of ρ x >>= λ y. entry y words) ≡ by_place ρ (keyword_place x)
  unfolding keyword_place keyword_primitive by_place pick entry or_else only primitive globals
  keyword_result ρ m = go (same x (bytes "null")) refl (same x (bytes "true")) refl (same x (bytes "false")) refl
    where
      go : (a : Bool) → same x (bytes "null") ≡ a → (b : Bool) → same x (bytes "true") ≡ b → (c : Bool) → same x (bytes "false") ≡ c
          → primitive (keyword_of ρ x >>= λ y. entry y words) ≡ by_place ρ (keyword_place x)
      go true e b f c g = rw e (worded 15 (Some null) (omega arith) (sym (same-equal x (bytes "null") e)) (rw e) ρ m)
      go false e true f c g = rw (e, f) (worded 21 (Some bool) (omega arith) (sym (same-equal x (bytes "true") f)) (rw (e, f)) ρ m)
      go false e false f true g = rw (e, f, g) (worded 5 (Some bool) (omega arith) (sym (same-equal x (bytes "false") g)) (rw (e, f, g)) ρ m)
      go false e false f false g = rw (e, f, g) (ap primitive (keyword_spelt (λ y. entry y words) (rw (e, f, g)) ρ))

module _ (s table bindings : List ℕ) (e : ℕ) {kind : ℕ} (k : kind ≡ (expr_at (decode s) e).kind) where
  keyword-none : (kind ≡ 10 → ⊥) → keyword (decode s) (given table bindings) e ≡ None
  unfolding keyword global_name or_else ◌>>=◌
  keyword-none h = rw (no-reference (decode s) e k h)

  abbrev Literal : Option PrimitiveTy
  Literal = primitive (literal_sort (decode s) (given table bindings) e)

  pub of_literal : kind ≡ 3 → {detail : ℕ} {r : Option PrimitiveTy} → detail ≡ (expr_at (decode s) e).detail → r ≡ literal_primitive detail → r ≡ Literal
  unfolding literal_sort is_kind only ◌>>=◌ literal_primitive primitive
  of_literal h {detail} d q =
      q ∙ rw (← k, h, keyword-none (λ z. absurd (omega arith)), ← d, or_else-none)
      (sym (pick-map primitive detail ((0, Some Float) ∷ (1, Some Int) ∷ (2, Some String) ∷ (3, Some Path) ∷ []) None))

  pub of_other : (kind ≡ 3 → ⊥) → (kind ≡ 10 → ⊥) → None ≡ Literal
  unfolding literal_sort is_kind only ◌>>=◌ or_else primitive
  of_other h g = rw (← k, ne_eqb kind 3 h, keyword-none g)

  module _ (fit : resolutions_fit s table ≡ true) (l : e < expr_count s) (h : kind ≡ 10) where
    small : Small (resolution_in table e)
    unfolding Small
    small p z = builtin-below s table fit e l z

    module _ {text : ℕ} (place : Option ℕ) {x : Text} (n : text ≡ (expr_at (decode s) e).text) (y : x ≡ text_at (decode s) text) (p : keyword_place x ≡ place) where
      result : Literal ≡ by_place x (resolution_in table e) (place)
      unfolding literal_sort is_kind only ◌>>=◌ or_else keyword global_name keyword_of
      result =
          rw (← k, h, is-reference (decode s) e k h, ← n, ← y)
          (keyword_result x (resolution_in table e) small ∙ ap (by_place x (resolution_in table e)) p)

      pub other_word : place ≡ None → None ≡ Literal
      unfolding by_place
      other_word z = sym (result ∙ rw z)

      module _ {at : ℕ} (z : place ≡ Some at) {b : Bool} (q : b ≡ keyword_at (resolution_in table e) at) where
        placed : Literal ≡ cond b (keyword_primitive at) None
        unfolding by_place
        placed = result ∙ rw (z, q)

        pub no_word : b ≡ false → None ≡ Literal
        no_word w = sym (placed ∙ rw w)

        pub is_word : b ≡ true → {r : Option PrimitiveTy} → r ≡ keyword_primitive at → r ≡ Literal
        is_word w g = g ∙ sym (placed ∙ rw w)

-- `is_keyword`
module _ (table : List ℕ) (e place : ℕ) (r : Option ResolveResult) (g : entry_of (resolution_in table e) ≡ tag_and_value r) where
  keyword-definition : {n : ℕ} → r ≡ Some (Definition n) → false ≡ keyword_at (resolution_in table e) place
  unfolding keyword_at
  keyword-definition h = rw (is-definition _ (g ∙ ap tag_and_value h))

  pub keyword-builtin : {p : ℕ} → r ≡ Some (Builtin p) → eqb p place ≡ keyword_at (resolution_in table e) place
  unfolding keyword_at
  keyword-builtin h = rw (is-builtin _ (g ∙ ap tag_and_value h))

  keyword_with : {w : ℕ} → r ≡ Some (WithExprs w) → false ≡ keyword_at (resolution_in table e) place
  unfolding keyword_at
  keyword_with h = rw (is_with _ (g ∙ ap tag_and_value h))

  pub keyword_else : (found : ResolveResult) → r ≡ Some found → ((p : ℕ) → found ≡ Builtin p → ⊥) → false ≡ keyword_at (resolution_in table e) place
  keyword_else (Definition n) h other = keyword-definition h
  keyword_else (Builtin p) h other = absurd (other p refl)
  keyword_else (WithExprs w) h other = keyword_with h

  pub keyword-unresolved : r ≡ None → true ≡ keyword_at (resolution_in table e) place
  unfolding keyword_at
  keyword-unresolved h = rw (is-nothing _ (g ∙ ap tag_and_value h))

-- what has the text of a Reference is one
pub reference-kind : (t : Tree) (e : ℕ) {x : ℕ} → reference t e ≡ Some x → (expr_at t e).kind ≡ 10
unfolding reference is_kind
reference-kind t e h = only-some _ h λ q z. eqb-true _ 10 q
