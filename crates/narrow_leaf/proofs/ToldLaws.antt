-- What a node tells, in the terms of the code.
use Rattle.std.specs.Prelude.{Option, Some, None}
use Rattle.std.proofs.lemmas.Option.{some_pair_parts}
use mathlib.Core.Path.{◌≡◌, refl, ap, sym, ◌∙◌}
use mathlib.Core.Bool.{Bool, true, false}
use mathlib.Core.List.{List, [], ◌∷◌}
use Prim.Native.Nat.{ℕ, ◌<◌}
use native.Mathlib.Omega.{arith}
use borrow.Author.Tests.{eqb-true}
use Rattle.semantics.specs.Base.{pick, only, or_else, single, ◌>>=◌}
use Rattle.semantics.specs.Tree.{Text, Tree, bytes, expr_at, item_at, part, path, string}
use Rattle.semantics.specs.Words.{Sort, Null, Bool', Int, Float, String, Path, List', Set, Function, sort_number, same_sort, number, entry}
use Rattle.semantics.specs.Resolution.{Tables}
use Rattle.semantics.specs.Narrow.{Test, is, numeric, has, singleton, compound, literal_test, literal_tells, test_tells, local_name, global_name, keyword, literal_sort, tests, literal_comparison}
use Rattle.semantics.specs.Narrow.{Condition, equal, not_equal, and, or, implies, call, invert, opaque, keyed, shape}
use Rattle.semantics.specs.Order.{arity}
use Rattle.semantics.proofs.BaseLaws.{clash, pick_all}
use Rattle.image_fields.specs.Image.{expr_count, name_count, text_count, decode}
use Rattle.image.specs.Inside.Accepted.{Accepted}
use Rattle.image.proofs.PathLaws.{asks_plain}
use Rattle.given.specs.Given.{given}
use Rattle.given.specs.Inside.Resolved.{resolved}
use Rattle.narrow_texts.specs.declared.words.PrimitiveTy.{PrimitiveTy}
use Rattle.narrow_texts.specs.declared.words.PrimitiveTy.TheVariants.{Null as null, Bool as bool, Int as int, Float as float, String as string', Path as path'}
use Rattle.narrow_texts.specs.declared.words.NarrowPredicate.{NarrowPredicate}
use Rattle.narrow_texts.specs.declared.words.NarrowPredicate.TheVariants.{HasField}
use Rattle.narrow_texts.specs.Inside.Numbers.{Finds}
use Rattle.narrow_texts.specs.Inside.Predicates.{primitive, predicate_for, saying}
use Rattle.narrow_texts.specs.Inside.Texts.{single_key}
use Rattle.narrow_leaf.specs.declared.told.NarrowInfo.{NarrowInfo}
use Rattle.narrow_leaf.specs.Inside.Told.{tells, nothing_told, turned, compared_tells, tested_tells, compared_told, told, else_of, equal_of, unequal_of, predicate_told, literal_told, typed, comparison}
use Rattle.narrow_texts.proofs.NumberLaws.{found_none, found_some}
use Rattle.narrow_texts.proofs.PathLaws.{no_default}
use Rattle.narrow_texts.proofs.NameLaws.{then_none}

-- The rules by the cases of the code are the definition's, of each sort and of a key.
unfoldable pub computed : Unit {0}
unfolding saying predicate_for else_of equal_of unequal_of predicate_told literal_told compared_tells tested_tells literal_test literal_tells test_tells only singleton compound number same_sort sort_number
computed = tt

test-told : (n : ℕ) (p : Test) → predicate_told n (predicate_for p true) ≡ tested_tells (Some n) (Some p)
unfolding computed
test-told n (is Null) = refl
test-told n (is Bool') = refl
test-told n (is Int) = refl
test-told n (is Float) = refl
test-told n (is String) = refl
test-told n (is Path) = refl
test-told n (is List') = refl
test-told n (is Set) = refl
test-told n (is Function) = refl
test-told n numeric = refl
test-told n (has k) = refl

-- `literal_info`
pub literal_told_lem : {name : ℕ} (prim : PrimitiveTy) {p : NarrowPredicate} {q : Option NarrowPredicate} → p ≡ equal_of prim → q ≡ unequal_of prim →
    tells name (Some p) q ≡ literal_told name prim
unfolding literal_told
literal_told_lem prim h g = rw (h, g)

-- what a comparison gives is what the definition tells of a sort with a type, and every literal's sort has one
Plain : Option Sort → Type 0
Plain o = primitive o ≡ None → o ≡ None

plain-or : (a b : Option Sort) → Plain a → Plain b → Plain (or_else a b)
unfolding or_else
plain-or None b h g = g
plain-or (Some s) b h g = h

plain-only : (b : Bool) (s : Sort) → Plain (Some s) → Plain (only b s)
unfolding Plain only primitive
plain-only true s h = h
plain-only false s h = λ q. refl

plain_then : {A : Type 0} (o : Option A) (f : A → Option Sort) → ((a : A) → Plain (f a)) → Plain (o >>= f)
unfolding Plain ◌>>=◌ primitive
plain_then None f h = λ q. refl
plain_then (Some a) f h = h a

typed-some : (s : Sort) (prim : PrimitiveTy) → primitive (Some s) ≡ Some prim → Plain (Some s)
unfolding Plain
typed-some s prim h q = absurd (let z : Some prim ≡ None = sym h ∙ q in let w : ◌≡◌ {A = ℕ} 0 1 = cc in omega arith)

literal_plain : (t : Tree) (tab : Tables) (e : ℕ) → Plain (literal_sort t tab e)
unfolding literal_sort primitive entry Plain
literal_plain t tab e =
    plain-or _ _ (plain_then _ _ (λ d. details d)) (plain_then (keyword t tab e) _ (λ x. words x))
  where
    details : (d : ℕ) → Plain (pick d ((0, Some Float) ∷ (1, Some Int) ∷ (2, Some String) ∷ (3, Some Path) ∷ []) None)
    details d = pick_all Plain d _ None (λ z. typed-some Float float refl, (λ z. typed-some Int int refl, (λ z. typed-some String string' refl, (λ z. typed-some Path path' refl, tt)))) (λ q. refl)

    words : (x : Text) → Plain (entry x ((bytes "null", Null) ∷ (bytes "true", Bool') ∷ (bytes "false", Bool') ∷ []))
    words x = plain-or _ _ (plain-only _ Null (typed-some Null null refl)) (plain-or _ _ (plain-only _ Bool' (typed-some Bool' bool refl)) (plain-or _ _ (plain-only _ Bool' (typed-some Bool' bool refl)) (λ q. refl)))

-- `try_literal_comparison`
module _ (s table : List ℕ) (x y : ℕ) {prim : Option PrimitiveTy} (q : prim ≡ primitive (literal_sort (decode s) (resolved table) y)) where
  abbrev Compares : Option (PrimitiveTy × ℕ) → Type 0
  Compares r = r ≡ comparison (literal_comparison (decode s) (resolved table) x y)

  pub no_literal : prim ≡ None → Compares None
  unfolding literal_comparison comparison ◌>>=◌ Plain
  no_literal h = rw (literal_plain (decode s) (resolved table) y (sym q ∙ h))

  module _ {name : Option ℕ} (f : Finds (name_count s) (local_name (decode s) (resolved table) x) name) where
    pub no_local : name ≡ None → Compares None
    unfolding comparison literal_comparison ◌>>=◌
    no_local h = ap comparison (sym (then_none (literal_sort (decode s) (resolved table) y) _ (λ z. nothing_here z)))
      where
        nothing_here : (z : Sort) → (◌>>=◌ {B = ℕ × Sort} (local_name (decode s) (resolved table) x) λ n. Some (n, z)) ≡ None
        nothing_here z = rw (found_none f h)

    pub literal_there : {w : PrimitiveTy} → prim ≡ Some w → {n : ℕ} → name ≡ Some n → Compares (Some (w, n))
    unfolding literal_comparison comparison typed primitive ◌>>=◌
    literal_there {w} h {n} g = go (literal_sort (decode s) (resolved table) y) (sym q ∙ h)
      where
        go : (o : Option Sort) → primitive o ≡ Some w → Some (w, n) ≡ comparison (o >>= λ z. local_name (decode s) (resolved table) x >>= λ m. Some (m, z))
        go None z = absurd (let v : None ≡ Some w = z in let u : ◌≡◌ {A = ℕ} 0 1 = cc in omega arith)
        go (Some v) z = rw (found_some f g, z)

-- `compared`
compares_sort : {w : PrimitiveTy} {n : ℕ} (m : ℕ) (s : Sort) → Some (w, n) ≡ typed m (primitive (Some s)) → literal_told n w ≡ compared_tells (Some (m, s))
unfolding typed primitive computed
compares_sort {w} {n} m Null h = let p = some_pair_parts w null n m h in rw (p.0, p.1)
compares_sort {w} {n} m Bool' h = let p = some_pair_parts w bool n m h in rw (p.0, p.1)
compares_sort {w} {n} m Int h = let p = some_pair_parts w int n m h in rw (p.0, p.1)
compares_sort {w} {n} m Float h = let p = some_pair_parts w float n m h in rw (p.0, p.1)
compares_sort {w} {n} m String h = let p = some_pair_parts w string' n m h in rw (p.0, p.1)
compares_sort {w} {n} m Path h = let p = some_pair_parts w path' n m h in rw (p.0, p.1)
compares_sort m List' h = absurd (let v : ◌≡◌ {A = ℕ} 0 1 = cc in omega arith)
compares_sort m Set h = absurd (let v : ◌≡◌ {A = ℕ} 0 1 = cc in omega arith)
compares_sort m Function h = absurd (let v : ◌≡◌ {A = ℕ} 0 1 = cc in omega arith)

compares : {w : PrimitiveTy} {n : ℕ} (o : Option (ℕ × Sort)) → Some (w, n) ≡ comparison o → literal_told n w ≡ compared_tells o
unfolding comparison
compares None h = absurd (let v : ◌≡◌ {A = ℕ} 0 1 = cc in omega arith)
compares (Some p) h = compares_sort p.0 p.1 h

untyped : (n : ℕ) (z : Option PrimitiveTy) → None ≡ typed n z → z ≡ None
unfolding typed
untyped n (Some w) h = absurd (let v : ◌≡◌ {A = ℕ} 0 1 = cc in omega arith)
untyped n None h = refl

uncompared : (t : Tree) (tab : Tables) (l r : ℕ) → None ≡ comparison (literal_comparison t tab l r) → literal_comparison t tab l r ≡ None
unfolding literal_comparison comparison Plain ◌>>=◌
uncompared t tab l r = go (literal_sort t tab r) (literal_plain t tab r) (local_name t tab l)
  where
    go : (o : Option Sort) → Plain o → (m : Option ℕ) → None ≡ comparison (o >>= λ s. m >>= λ n. Some (n, s)) → ◌≡◌ {A = Option (ℕ × Sort)} (o >>= λ s. m >>= λ n. Some (n, s)) None
    go None f m h = refl
    go (Some s) f None h = refl
    go (Some s) f (Some n) h = absurd (clash (sym (f (untyped n (primitive (Some s)) h))))

module _ (t : Tree) (tab : Tables) (l r : ℕ) {first : Option (PrimitiveTy × ℕ)} (e : first ≡ comparison (literal_comparison t tab l r)) where
  pub compared-first : {w : PrimitiveTy} {n : ℕ} → first ≡ Some (w, n) → {z : NarrowInfo} → z ≡ literal_told n w → z ≡ compared_told t tab l r
  unfolding compared_told or_else comparison
  compared-first {w} {n} h g = g ∙ go (literal_comparison t tab l r) (sym h ∙ e)
    where
      go : (o : Option (ℕ × Sort)) → Some (w, n) ≡ comparison o → literal_told n w ≡ compared_tells (or_else o (literal_comparison t tab r l))
      go None q = absurd (let v : ◌≡◌ {A = ℕ} 0 1 = cc in omega arith)
      go (Some p) q = compares (Some p) q

  module _ (h : first ≡ None) {second : Option (PrimitiveTy × ℕ)} (f : second ≡ comparison (literal_comparison t tab r l)) where
    other_way : compared_tells (literal_comparison t tab r l) ≡ compared_told t tab l r
    unfolding compared_told or_else
    other_way = rw (uncompared t tab l r (sym h ∙ e))

    pub compared-second : {w : PrimitiveTy} {n : ℕ} → second ≡ Some (w, n) → {z : NarrowInfo} → z ≡ literal_told n w → z ≡ compared_told t tab l r
    compared-second k g = g ∙ compares _ (sym k ∙ f) ∙ other_way

    pub compared_neither : second ≡ None → {z : NarrowInfo} → z ≡ nothing_told → z ≡ compared_told t tab l r
    unfolding compared_tells
    compared_neither k g = g ∙ rw (uncompared t tab r l (sym k ∙ f)) at_none ∙ other_way
      where
        at_none : nothing_told ≡ compared_tells None
        at_none = refl

-- The shape of a node by its kind, and by its detail.
module _ (t : Tree) (c : ℕ) where
  binary : Condition
  binary = pick (expr_at t c).detail ((8, not_equal (part t c 0) (part t c 1)) ∷ (9, equal (part t c 0) (part t c 1)) ∷ (10, and (part t c 0) (part t c 1)) ∷ (11, implies (part t c 0) (part t c 1)) ∷ (12, or (part t c 0) (part t c 1)) ∷ []) opaque

  shape_binary : (expr_at t c).kind ≡ 7 → shape t c ≡ binary
  unfolding shape pick binary
  shape_binary h = rw h

  shape_asked : (expr_at t c).kind ≡ 12 → shape t c ≡ keyed (part t c 0) (single (path t c) >>= string t)
  unfolding shape pick
  shape_asked h = rw h

  shape-call : (expr_at t c).kind ≡ 1 → shape t c ≡ call (part t c 0) (part t c 1)
  unfolding shape pick
  shape-call h = rw h

-- `comparison`
two_parts : arity 7 ≡ 2
unfolding arity pick
two_parts = refl

pub binary_parts : (t : Tree) (c : ℕ) → (expr_at t c).kind ≡ 7 → (k : ℕ) → k < 2 → k < arity (expr_at t c).kind
binary_parts t c h k l = rw (h, two_parts) l

module _ (t : Tree) (tab : Tables) (c : ℕ) (k : (expr_at t c).kind ≡ 7) {detail l r : ℕ} (d : detail ≡ (expr_at t c).detail) (p : l ≡ (item_at t c 0).expression) (q : r ≡ (item_at t c 1).expression) where
  pub of_equal : detail ≡ 9 → {z : NarrowInfo} → z ≡ compared_told t tab l r → z ≡ told t tab (shape t c)
  unfolding binary pick told part
  of_equal h e = e ∙ rw (shape_binary t c k, ← d, h, ← p, ← q)

  pub of_unequal : detail ≡ 8 → {y z : NarrowInfo} → y ≡ compared_told t tab l r → z ≡ turned y → z ≡ told t tab (shape t c)
  unfolding binary pick told part
  of_unequal h e f = f ∙ rw (shape_binary t c k, ← d, h, ← p, ← q, e)

  pub of_operator : (detail ≡ 9 → ⊥) → (detail ≡ 8 → ⊥) → {z : NarrowInfo} → z ≡ nothing_told → z ≡ told t tab (shape t c)
  unfolding binary told
  of_operator h g e =
      e ∙ rw (shape_binary t c k)
      (pick_all (λ sh. nothing_told ≡ told t tab sh) (expr_at t c).detail _ opaque
      (λ z. absurd (g (d ∙ eqb-true _ 8 z)), (λ z. absurd (h (d ∙ eqb-true _ 9 z)), (λ z. refl, (λ z. refl, (λ z. refl, tt))))) refl)

-- what asks no index is told by any
module _ (t : Tree) (table bindings : List ℕ) (c : ℕ) where
  same-told : Condition → Type 0
  same-told sh = told t (resolved table) sh ≡ told t (given table bindings) sh

  pub binary_any : (expr_at t c).kind ≡ 7 → told t (resolved table) (shape t c) ≡ told t (given table bindings) (shape t c)
  unfolding same-told binary told compared_told literal_comparison literal_sort keyword global_name local_name
  binary_any h =
      rw (shape_binary t c h)
      (pick_all same-told (expr_at t c).detail _ opaque (λ z. refl, (λ z. refl, (λ z. refl, (λ z. refl, (λ z. refl, tt))))) refl)

  pub asked_any : (expr_at t c).kind ≡ 12 → told t (resolved table) (shape t c) ≡ told t (given table bindings) (shape t c)
  unfolding keyed told local_name
  asked_any h = rw (shape_asked t c h) (go (single (path t c) >>= string t))
    where
      go : (o : Option ℕ) → told t (resolved table) (keyed (part t c 0) o) ≡ told t (given table bindings) (keyed (part t c 0) o)
      go None = refl
      go (Some k) = refl

-- `asked`
module _ (s table : List ℕ) (a : Accepted s) (c : ℕ) (l : c < expr_count s) (k : (expr_at (decode s) c).kind ≡ 12) {key : Option ℕ} (f : Finds (text_count s) (single_key (decode s) c) key) where
  key-shape : shape (decode s) c ≡ keyed (part (decode s) c 0) (single_key (decode s) c)
  key-shape = shape_asked (decode s) c k ∙ ap (keyed (part (decode s) c 0)) (sym (no_default s a c l (asks_plain s a c l k)))

  pub no_key : key ≡ None → {z : NarrowInfo} → z ≡ nothing_told → z ≡ told (decode s) (resolved table) (shape (decode s) c)
  unfolding keyed told
  no_key h e = e ∙ rw (key-shape, found_none f h)

  module _ {set : ℕ} {name : Option ℕ} (p : set ≡ (item_at (decode s) c 0).expression) (n : Finds (name_count s) (local_name (decode s) (resolved table) set) name) {x : ℕ} (h : key ≡ Some x) where
    pub no-set : name ≡ None → {z : NarrowInfo} → z ≡ nothing_told → z ≡ told (decode s) (resolved table) (shape (decode s) c)
    unfolding keyed told part tested_tells
    no-set g e = e ∙ rw (key-shape, found_some f h, ← p, found_none n g)

    pub key_there : {m : ℕ} → name ≡ Some m → {z : NarrowInfo} → z ≡ predicate_told m (HasField x) → z ≡ told (decode s) (resolved table) (shape (decode s) c)
    unfolding keyed told part predicate_for
    key_there {m} g e = e ∙ test-told m (has x) ∙ rw (key-shape, found_some f h, ← p, found_some n g)

-- `called`
module _ (s table bindings : List ℕ) (f a : ℕ) {name : Option ℕ} (n : Finds (name_count s) (local_name (decode s) (resolved table) a) name) where
  abbrev Called : NarrowInfo → Type 0
  Called r = r ≡ tested_tells (local_name (decode s) (given table bindings) a) (tests (decode s) (given table bindings) f)

  local_any : local_name (decode s) (given table bindings) a ≡ local_name (decode s) (resolved table) a
  unfolding local_name
  local_any = refl

  pub no_argument : name ≡ None → {r : NarrowInfo} → r ≡ nothing_told → Called r
  unfolding tested_tells
  no_argument h e = e ∙ rw (local_any ∙ found_none n h)

  module _ {m : ℕ} (g : name ≡ Some m) where
    put : (r : NarrowInfo) → r ≡ tested_tells (Some m) (tests (decode s) (given table bindings) f) → Called r
    put r e = e ∙ rw (local_any ∙ found_some n g)

    pub no_test : None ≡ saying true (tests (decode s) (given table bindings) f) → {r : NarrowInfo} → r ≡ nothing_told → Called r
    unfolding saying tested_tells
    no_test t {r} e = put r (e ∙ go (tests (decode s) (given table bindings) f) t)
      where
        go : (o : Option Test) → None ≡ saying true o → nothing_told ≡ tested_tells (Some m) o
        go None q = refl
        go (Some p) q = absurd (let v : ◌≡◌ {A = ℕ} 0 1 = cc in omega arith)

    pub some-test : {p : NarrowPredicate} → Some p ≡ saying true (tests (decode s) (given table bindings) f) → {r : NarrowInfo} → r ≡ predicate_told m p → Called r
    unfolding saying
    some-test {p} t {r} e = put r (e ∙ go (tests (decode s) (given table bindings) f) t)
      where
        go : (o : Option Test) → Some p ≡ saying true o → predicate_told m p ≡ tested_tells (Some m) o
        go None q = absurd (let v : ◌≡◌ {A = ℕ} 0 1 = cc in omega arith)
        go (Some x) q = let v : p ≡ predicate_for x true = cc in rw v (test-told m x)

-- `told`
module _ (s table bindings : List ℕ) (c : ℕ) {kind : ℕ} (e : kind ≡ (expr_at (decode s) c).kind) where
  pub of_binary : kind ≡ 7 → {r : NarrowInfo} → r ≡ told (decode s) (resolved table) (shape (decode s) c) → r ≡ told (decode s) (given table bindings) (shape (decode s) c)
  of_binary h q = q ∙ binary_any (decode s) table bindings c (sym e ∙ h)

  pub of_asked : kind ≡ 12 → {r : NarrowInfo} → r ≡ told (decode s) (resolved table) (shape (decode s) c) → r ≡ told (decode s) (given table bindings) (shape (decode s) c)
  of_asked h q = q ∙ asked_any (decode s) table bindings c (sym e ∙ h)

  pub of_call : kind ≡ 1 → {f a : ℕ} → f ≡ (item_at (decode s) c 0).expression → a ≡ (item_at (decode s) c 1).expression → {r : NarrowInfo}
      → r ≡ tested_tells (local_name (decode s) (given table bindings) a) (tests (decode s) (given table bindings) f) → r ≡ told (decode s) (given table bindings) (shape (decode s) c)
  unfolding told part
  of_call h p q g = g ∙ rw (shape-call (decode s) c (sym e ∙ h), p, q)

  pub of_other : (kind ≡ 7 → ⊥) → (kind ≡ 12 → ⊥) → (kind ≡ 1 → ⊥) → {r : NarrowInfo} → r ≡ nothing_told → r ≡ told (decode s) (given table bindings) (shape (decode s) c)
  unfolding shape told
  of_other h g f q =
      q ∙ pick_all (λ sh. nothing_told ≡ told (decode s) (given table bindings) sh) (expr_at (decode s) c).kind _ opaque
      (λ z. absurd (f (e ∙ eqb-true _ 1 z)), (λ z. absurd (h (e ∙ eqb-true _ 7 z)), (λ z. inner, (λ z. absurd (g (e ∙ eqb-true _ 12 z)), tt)))) refl
    where
      inner : nothing_told ≡ told (decode s) (given table bindings) (pick (expr_at (decode s) c).detail ((0, invert (part (decode s) c 0)) ∷ []) opaque)
      inner = pick_all (λ sh. nothing_told ≡ told (decode s) (given table bindings) sh) (expr_at (decode s) c).detail _ opaque (λ z. refl, tt) refl
