-- The models of specs/Gallery.antt meet the premises, and what their conditions tell is true.
use mathlib.Core.Path.{◌≡◌, refl, ap, sym}
use mathlib.Core.Bool.{Bool, true, false}
use mathlib.Core.Logic.{inl, inr}
use mathlib.Core.List.{List, [], ◌∷◌, map}
use Prim.Native.Nat.{ℕ}
use Rattle.semantics.specs.Base.{Given, All}
use Rattle.semantics.specs.Tree.{Text, bytes}
use Rattle.semantics.specs.Words.{Sort, Null, Int, same_sort}
use Rattle.semantics.specs.Resolution.{own}
use Rattle.semantics.specs.Narrow.{Narrowing}
use Rattle.semantics.specs.Points.{told}
use Rattle.semantics.specs.Values.{Builtin, test, has_attr, has_attr_of, Value, function, bool, set, builtin, sort, outcome, TrueIn, CameOut}
use Rattle.semantics.specs.Premises.{Gives, Laws, Indexed, Agrees}
use Rattle.semantics.specs.Gallery.{Exhibit, tree_of, model_of, Shown, came, passes, fails, attr, list_of, fields, field, tested}
use Rattle.semantics.specs.Gallery.{tests, keys, attributes, equals, numbers, comparing, float_equal, integer_equal, ands, ors, arrows, nots, calls, indexed, keywords, redefined, selected, own_test, own_helper, others, gallery, NothingGuarded}
use Rattle.semantics.proofs.BaseLaws.{true≢false}
use Rattle.semantics.proofs.ModelLaws.{Rows, by_rows, ◌also◌, names-none, is_null_named, nothing_asked, given_by, function-none, set-none, different}
use Rattle.semantics.proofs.Cases.{computed_Cases}

unfoldable computed_Gallery : Unit {0}
unfolding computed_Cases told tree_of model_of came passes fails attr list_of fields field tested comparing
computed_Gallery = tt

module _ (x : Exhibit) where
  -- what is asked at each expression that has a value, and at each name
  abbrev LawRows : Type 0
  LawRows = Rows (Laws (tree_of x) (own (tree_of x)) (model_of x)) (map (λ r. r.1) x.exprs)

  abbrev NameRows : Type 0
  NameRows = Rows (λ n v. Given ((own (tree_of x)).index n) (Indexed (tree_of x) (own (tree_of x)) (model_of x) v)) (map (λ r. r.1) x.names)

  meets : LawRows → NameRows → Agrees (tree_of x) (own (tree_of x)) (model_of x)
  unfolding model_of
  meets ls ns = record {
    exprs = by_rows (Laws (tree_of x) (own (tree_of x)) (model_of x)) (map (λ r. r.1) x.exprs) ls;
    names = by_rows (λ n v. Given ((own (tree_of x)).index n) (Indexed (tree_of x) (own (tree_of x)) (model_of x) v)) (map (λ r. r.1) x.names) ns;
  }

  shown : LawRows → NameRows → All (λ g. CameOut (model_of x) g.0) x.tells
      → map (λ g. told (tree_of x) (own (tree_of x)) g.0) x.tells ≡ map (λ g. g.1) x.tells
      → All (λ g. All (TrueIn (tree_of x) (model_of x)) g.1) x.tells → Shown x
  shown ls ns c d t = record { agrees = meets ls ns; came_out = c; tells = d; true = t }

  -- an expression's value: for `search`, which looks for the value that a part has
  value : (e : ℕ) → (model_of x).expr e ≡ (model_of x).expr e
  value e = refl

  -- what a built-in function gives in it
  gives : (γ : Builtin) (a : ℕ) (w : Value) → Gives (tree_of x) (own (tree_of x)) (model_of x) γ a w → (β : Builtin) → builtin γ ≡ builtin β →
      Gives (tree_of x) (own (tree_of x)) (model_of x) β a w
  gives γ a w g β h = given_by (tree_of x) (own (tree_of x)) (model_of x) γ a w g β h

  -- of another function, and of a set that is called, nothing is asked
  function_gives : (a : ℕ) (w : Value) (β : Builtin) → function ≡ builtin β → Gives (tree_of x) (own (tree_of x)) (model_of x) β a w
  function_gives a w β h = absurd (function-none β h)

  set_gives : (ks : List Text) (a : ℕ) (w : Value) (β : Builtin) → set ks ≡ builtin β → Gives (tree_of x) (own (tree_of x)) (model_of x) β a w
  set_gives ks a w β h = absurd (set-none ks β h)

-- a key of `builtins` that is not hasAttr
other_key : (v : Value) → false ≡ true → v ≡ builtin has_attr
other_key v h = absurd (true≢false refl (sym h))

calls_shown : Shown calls
unfolding calls computed_Gallery
calls_shown =
    shown calls
    ((search) also (search) also (search) also (search) also (search) also (search is_null_named) also (search (value calls 0, function_gives calls 4))
    also (search (value calls 0, function_gives calls 3)) also (search (value calls 0, function_gives calls 0)) also (search)
    also (search (value calls 1, set_gives calls (bytes "__functor" ∷ []) 3)) also (search (value calls 2, gives calls (test Null) 3, value calls 3))
    also (search (value calls 5, gives calls (test Null) 3, value calls 3)) also (search) also (search) also (search) also tt)
    (search) (search) refl
    (tt also tt also tt also tt also ((_, refl, refl) also tt) also tt)

keys_shown : Shown keys
unfolding keys computed_Gallery
keys_shown =
    shown keys
    ((search) also (search) also (search) also (search) also (search is_null_named) also (search (value keys 0)) also (search (value keys 0))
    also (search (value keys 1)) also (search (value keys 4)) also (search) also (search) also tt)
    (search) (search) refl
    (((_, refl, refl) also tt) also ((_, refl, refl) also tt) also ((_, refl, refl) also tt) also tt also tt)

attributes_shown : Shown attributes
unfolding attributes computed_Gallery
attributes_shown =
    shown attributes
    ((search) also (search) also (search) also (search (names-none (bytes "builtins") refl refl)) also (search) also (search)
    also (search (value attributes 5, gives attributes has_attr 2)) also (search) also (search (value attributes 5, gives attributes has_attr 7))
    also (search) also (search (value attributes 5, gives attributes has_attr 9))
    also (search (value attributes 8, gives attributes (has_attr_of (bytes "k")) 0, value attributes 0))
    also (search (value attributes 10, gives attributes (has_attr_of (bytes "z")) 0, value attributes 0))
    also (search (value attributes 8, gives attributes (has_attr_of (bytes "k")) 1, value attributes 1)) also (search) also (search) also (search)
    also tt)
    (search) (search) refl
    (((_, refl, refl) also tt) also ((_, refl, refl) also tt) also ((_, refl, refl) also tt) also tt)

equals_shown : Shown equals
unfolding equals computed_Gallery
equals_shown =
    shown equals
    ((search) also (search) also (search) also (search (names-none (bytes "null") refl refl)) also (search) also (search) also (search) also (search)
    also (search (inl, value equals 0)) also (search (inl, value equals 3)) also (search (different, value equals 3, value equals 1))
    also (search (different, value equals 1, value equals 3)) also (search (inl, value equals 1)) also (search (different, value equals 5))
    also (search (inl, value equals 2)) also (search (different, value equals 2)) also (search (different, value equals 2, value equals 4))
    also (search (inl, value equals 3)) also (search) also (search) also tt)
    (search) (search) refl
    (((_, refl, refl) also tt) also ((_, refl, refl) also tt) also ((_, refl, refl) also tt) also ((_, refl, refl) also tt)
    also ((_, refl, refl) also tt) also tt also ((_, refl, refl) also tt) also tt also tt also tt also tt)

numbers_shown : Shown numbers
unfolding numbers computed_Gallery
numbers_shown =
    shown numbers
    ((search) also (search) also (search) also (search) also (search) also (search) also (search (value numbers 3, function_gives numbers 4))
    also (search) also (search (inr, value numbers 0, value numbers 1)) also (search (different, value numbers 2, value numbers 0))
    also (search (inr, value numbers 4, value numbers 5)) also (search (inr, value numbers 5, value numbers 4))
    also (search (inr, value numbers 6, value numbers 4)) also (search (inl, value numbers 1))
    also (search (different, value numbers 1, value numbers 7)) also (search (inr, value numbers 4, value numbers 2))
    also (search (different, value numbers 1, value numbers 7)) also (search) also (search) also tt)
    (search) (search) refl
    (tt also tt also tt also tt also tt also ((_, refl, refl) also tt) also tt also ((_, refl, refl) also tt) also tt also tt)

float-equal_shown : Shown float_equal
unfolding float_equal computed_Gallery
float-equal_shown =
    shown float_equal
    ((search) also (search) also (search (inr, value float_equal 0, value float_equal 1)) also (search) also tt)
    (search) (search) refl
    (((_, refl, refl) also tt) also tt)

integer-equal_shown : Shown integer_equal
unfolding integer_equal computed_Gallery
integer-equal_shown =
    shown integer_equal
    ((search) also (search) also (search (inr, value integer_equal 0, value integer_equal 1)) also (search) also tt)
    (search) (search) refl
    (((_, refl, refl) also tt) also tt)

ands_shown : Shown ands
unfolding ands computed_Gallery
ands_shown =
    shown ands
    ((search) also (search) also (search) also (search) also (search (names-none (bytes "null") refl refl)) also (search (inl, value ands 0))
    also (search) also (search) also (search) also (search) also (search) also (search) also (search) also tt)
    (search) (search) refl
    (((_, refl, refl) also tt) also tt also tt also tt also tt)

ors_shown : Shown ors
unfolding ors computed_Gallery
ors_shown =
    shown ors
    ((search) also (search) also (search) also (search) also (search (names-none (bytes "null") refl refl)) also (search (inl, value ors 0))
    also (search) also (search) also (search) also (search) also (search) also (search) also (search) also tt)
    (search) (search) refl
    (((_, refl, refl) also tt) also tt also tt also tt also tt)

arrows_shown : Shown arrows
unfolding arrows computed_Gallery
arrows_shown =
    shown arrows
    ((search) also (search) also (search) also (search) also (search (names-none (bytes "null") refl refl)) also (search (inl, value arrows 0))
    also (search (inl, value arrows 0)) also (search) also (search) also (search) also (search) also (search) also (search) also (search) also tt)
    (search) (search) refl
    (((_, refl, refl) also (_, refl, refl) also tt) also tt also tt also tt also tt)

nots_shown : Shown nots
unfolding nots computed_Gallery
nots_shown =
    shown nots
    ((search) also (search) also (search) also (search (names-none (bytes "null") refl refl)) also (search (inl, value nots 0)) also (search)
    also (search (different, value nots 1, value nots 3)) also (search) also (search) also (search) also (search) also tt)
    (search) (search) refl
    (((_, refl, refl) also tt) also ((_, refl, refl) also tt) also tt)

indexed_shown : Shown indexed
unfolding indexed computed_Gallery
indexed_shown =
    shown indexed
    ((search) also (search) also (search) also (search (names-none (bytes "throw") refl refl)) also (search) also (search) also (search) also (search)
    also (search (inl, value indexed 6)) also (search) also (search) also (search) also (search) also tt)
    (tt also (search inl) also tt also (search (inr, value indexed 0)) also (search (inr, value indexed 0)) also tt) (search) refl
    (((_, refl, refl) also tt) also tt)

keywords_shown : Shown keywords
unfolding keywords computed_Gallery
keywords_shown =
    shown keywords
    ((search) also (search) also (search) also (search) also (search) also (search (names-none (bytes "null") refl refl))
    also (search (names-none (bytes "true") refl refl)) also (search (names-none (bytes "false") refl refl)) also (search) also (search) also tt)
    ((search inl) also tt) (search) refl
    (tt also tt also tt also tt also tt)

redefined_shown : Shown redefined
unfolding redefined computed_Gallery
redefined_shown =
    shown redefined
    ((search) also (search) also (search (inl, value redefined 0)) also (search) also (search) also (search) also tt)
    (tt also (search inl) also tt) (search) refl
    (tt also tt)

selected_shown : Shown selected
unfolding selected computed_Gallery
selected_shown =
    shown selected
    ((search) also (search) also (search (names-none (bytes "builtins") refl refl)) also (search) also (search) also (search) also (search)
    also (search) also (search (value selected 7, gives selected (test Null) 1, value selected 1)) also (search)
    also (search (value selected 9, gives selected (test Int) 1, value selected 1)) also (search) also (search) also (search) also (search other_key)
    also (search) also (search) also tt)
    (search) (search) refl
    (((_, refl, refl) also tt) also ((_, refl, refl) also tt) also tt)

own-test_shown : Shown own_test
unfolding own_test computed_Gallery
own-test_shown =
    shown own_test
    ((search) also (search) also (search) also (search) also (search) also (search) also (search (value own_test 5, function_gives own_test 1))
    also (search) also (search (value own_test 7, gives own_test (test Int) 1, value own_test 1)) also (search) also (search) also (search) also tt)
    (search) (search) refl
    (tt also tt also tt)

own_helper_shown : Shown own_helper
unfolding own_helper computed_Gallery
own_helper_shown =
    shown own_helper
    ((search) also (search) also (search (names-none (bytes "null") refl refl)) also (search) also (search)
    also (search (different, value own_helper 1, value own_helper 2)) also (search (value own_helper 4, function_gives own_helper 5)) also (search)
    also (search (value own_helper 6, function_gives own_helper 7)) also (search) also tt)
    (search) (search) refl
    (((_, refl, refl) also tt) also tt)

pub nothing-guarded : NothingGuarded
unfolding own_helper computed_Gallery
nothing-guarded = refl

others_shown : Shown others
unfolding others computed_Gallery
others_shown =
    shown others
    ((search) also (search) also (search) also (search) also (search) also (search) also (search) also (search) also (search) also tt)
    (search) (search) refl
    (tt also tt also tt also tt also tt also tt)

-- one proof for all tests, but for what is computed of each: that its text names its sort, what it gives, and what that tells
module _ (p : Text) (s : Sort) (v : Value) (b : Bool) (ns : List Narrowing) where
  abbrev x : Exhibit
  x = tested p s v b ns

  test_shown : Laws (tree_of x) (own (tree_of x)) (model_of x) 3 (builtin (test s)) → bool b ≡ bool (same_sort (sort v) s)
      → told (tree_of x) (own (tree_of x)) (record { condition = 4; outcome = b }) ≡ ns → All (TrueIn (tree_of x) (model_of x)) ns → Shown x
  unfolding computed_Gallery
  test_shown named g t n =
      shown x
      ((search (nothing_asked (outcome v))) also (search (names-none (bytes "builtins") refl refl)) also (search) also named
      also (search (value x 3, gives x (test s) 0, value x 0, g)) also (search) also tt)
      (tt also tt) (refl also tt) (ap (λ z. z ∷ []) t) (n also tt)

tests_shown : All Shown tests
unfolding tests computed_Gallery
tests_shown =
    test_shown _ _ _ _ _ (search other_key) refl refl ((_, refl, refl) also tt)
    also test_shown _ _ _ _ _ (search other_key) refl refl ((_, refl, refl) also tt)
    also test_shown _ _ _ _ _ (search other_key) refl refl ((_, refl, refl) also tt)
    also test_shown _ _ _ _ _ (search other_key) refl refl ((_, refl, refl) also tt)
    also test_shown _ _ _ _ _ (search other_key) refl refl ((_, refl, refl) also tt)
    also test_shown _ _ _ _ _ (search other_key) refl refl ((_, refl, refl) also tt)
    also test_shown _ _ _ _ _ (search other_key) refl refl ((_, refl, refl) also tt)
    also test_shown _ _ _ _ _ (search other_key) refl refl ((_, refl, refl) also tt)
    also test_shown _ _ _ _ _ (search other_key) refl refl ((_, refl, refl) also tt)
    also test_shown _ _ _ _ _ (search other_key) refl refl ((_, refl, refl) also tt)
    also test_shown _ _ _ _ _ (search other_key) refl refl ((_, refl, refl) also tt)
    also test_shown _ _ _ _ _ (search other_key) refl refl ((_, refl, refl) also tt)
    also test_shown _ _ _ _ _ (search other_key) refl refl ((_, refl, refl) also tt)
    also test_shown _ _ _ _ _ (search other_key) refl refl ((_, refl, refl) also tt)
    also test_shown _ _ _ _ _ (search other_key) refl refl tt
    also test_shown _ _ _ _ _ (search other_key) refl refl ((_, refl, refl) also tt)
    also test_shown _ _ _ _ _ (search other_key) refl refl tt
    also test_shown _ _ _ _ _ (search other_key) refl refl ((_, refl, refl) also tt)
    also test_shown _ _ _ _ _ (search other_key) refl refl ((_, refl, refl) also tt)
    also test_shown _ _ _ _ _ (search other_key) refl refl tt
    also tt

pub gallery_shown : All Shown gallery
unfolding gallery
gallery_shown =
    calls_shown also keys_shown also attributes_shown also equals_shown also numbers_shown also float-equal_shown also integer-equal_shown also ands_shown also ors_shown also arrows_shown also nots_shown also indexed_shown
    also keywords_shown also redefined_shown also selected_shown also own-test_shown also own_helper_shown also others_shown also tests_shown
