-- Models that document 01 allows ("Premises of demand 3"), each with a small tree: they meet the premises, so no premise says more than its sentence, and
-- what their conditions tell is true of them (proofs/Gallery.antt).
use Rattle.std.specs.Prelude.{◌≡◌, Bool, true, false, List, [], ◌∷◌, ◌++◌, map, ℕ, ◌-◌, length, get_or, Option, Some, None}
use Rattle.semantics.specs.Codes.{none_number, kinds, details, roles, name_kinds}
use Rattle.semantics.specs.Base.{All}
use Rattle.semantics.specs.Tree.{Text, Expr, Name, Tree, bytes}
use Rattle.semantics.specs.Words.{Sort, Null, Bool', Int, Float, String, Path, List', Set, Function}
use Rattle.semantics.specs.Resolution.{own}
use Rattle.semantics.specs.Narrow.{Test, is, numeric, has, Narrowing}
use Rattle.semantics.specs.Walk.{Guard}
use Rattle.semantics.specs.Points.{told, NothingInForce}
use Rattle.semantics.specs.Values.{test, has_attr, has_attr_of, Value, null, integer, float, string, path, list, function, bool, set, builtin, Model, TrueIn, CameOut}
use Rattle.semantics.specs.Premises.{Agrees}
use Rattle.semantics.specs.Cases.{item, child, key, owner, reference, bin_op, not, apply, select, lambda, let_in, name, string as text, integer as int, float as point}

-- A tree with a model: beside each expression and each name its value, none where it fails; the entry is the last expression. And conditions of the
-- tree with how they came out, each with the narrowings that it tells then.
pub record Exhibit : Type 0 where
  pub exprs : List (Expr × Option Value)
  pub names : List (Name × Option Value)
  pub texts : List Text
  pub tells : List (Guard × List Narrowing)

-- its tree
unfoldable pub tree_of : Exhibit → Tree
tree_of x = record { exprs = map (λ r. r.0) x.exprs; names = map (λ r. r.0) x.names; texts = x.texts; entry = length x.exprs - 1 }

-- its model
unfoldable pub model_of : Exhibit → Model
model_of x = record { name = λ n. get_or (map (λ r. r.1) x.names) n None; expr = λ e. get_or (map (λ r. r.1) x.exprs) e None }

-- What is shown of it: the model meets the premises over the tree's own tables, the conditions came out so, they tell that, and it is true.
pub record Shown (x : Exhibit) : Type 0 where
  pub agrees : Agrees (tree_of x) (own (tree_of x)) (model_of x)
  pub came_out : All (λ g. CameOut (model_of x) g.0) x.tells
  pub tells : map (λ g. told (tree_of x) (own (tree_of x)) g.0) x.tells ≡ map (λ g. g.1) x.tells
  pub true : All (λ g. All (TrueIn (tree_of x) (model_of x)) g.1) x.tells

-- How they are written: a condition that came out so, with what it tells
unfoldable pub came : ℕ → Bool → List Narrowing → Guard × List Narrowing
came c b ns = (record { condition = c; outcome = b }, ns)

-- a name's value passes a test, does not
unfoldable pub passes : ℕ → Test → Narrowing
passes n p = record { name = n; test = p; passes = true }

unfoldable pub fails : ℕ → Test → Narrowing
fails n p = record { name = n; test = p; passes = false }

-- e ? k, by the numbers of two expressions
unfoldable pub attr : ℕ → ℕ → Expr
attr e k = owner kinds.HasAttr (child e ∷ key k ∷ [])

-- a list
unfoldable pub list_of : List ℕ → Expr
list_of es = owner kinds.List (map child es)

-- a function of a set with these names
unfoldable pub fields : List ℕ → ℕ → Expr
fields ns e = owner kinds.Lambda (map (λ n. item roles.PatternField n none_number) ns ++ child e ∷ [])

-- a name of such a set by its text
unfoldable pub field : ℕ → Name
field x = name x name_kinds.PatField

-- x: builtins.TEST x, for a test by its text and its sort, and a value of x: it comes out so, and tells that
unfoldable pub tested : Text → Sort → Value → Bool → List Narrowing → Exhibit
tested p s v b ns = record {
  exprs = (reference 0, Some v)  -- 0 x
      ∷ (reference 1, Some (set (p ∷ []))) ∷ (text 2, Some string)  -- 1 builtins, 2 the key
      ∷ (select 1 2, Some (builtin (test s)))  -- 3 builtins.TEST
      ∷ (apply 3 0, Some (bool b))  -- 4 builtins.TEST x
      ∷ (lambda 0 4, Some function) ∷ [];
  names = (name 0 name_kinds.Param, Some v) ∷ [];
  texts = bytes "x" ∷ bytes "builtins" ∷ p ∷ [];
  tells = came 4 b ns ∷ [];
}

-- Each test is true of its sort and false of another; that a value is no list, no set and no function is not told.
unfoldable pub tests : List Exhibit
tests =
    tested (bytes "isNull") Null null true (passes 0 (is Null) ∷ [])
    ∷ tested (bytes "isNull") Null integer false (fails 0 (is Null) ∷ [])
    ∷ tested (bytes "isBool") Bool' (bool true) true (passes 0 (is Bool') ∷ [])
    ∷ tested (bytes "isBool") Bool' (bool false) true (passes 0 (is Bool') ∷ [])
    ∷ tested (bytes "isBool") Bool' null false (fails 0 (is Bool') ∷ [])
    ∷ tested (bytes "isInt") Int integer true (passes 0 (is Int) ∷ [])
    ∷ tested (bytes "isInt") Int float false (fails 0 (is Int) ∷ [])
    ∷ tested (bytes "isFloat") Float float true (passes 0 (is Float) ∷ [])
    ∷ tested (bytes "isFloat") Float integer false (fails 0 (is Float) ∷ [])
    ∷ tested (bytes "isString") String string true (passes 0 (is String) ∷ [])
    ∷ tested (bytes "isString") String path false (fails 0 (is String) ∷ [])
    ∷ tested (bytes "isPath") Path path true (passes 0 (is Path) ∷ [])
    ∷ tested (bytes "isPath") Path string false (fails 0 (is Path) ∷ [])
    ∷ tested (bytes "isList") List' list true (passes 0 (is List') ∷ [])
    ∷ tested (bytes "isList") List' (set []) false []
    ∷ tested (bytes "isAttrs") Set (set []) true (passes 0 (is Set) ∷ [])
    ∷ tested (bytes "isAttrs") Set list false []
    ∷ tested (bytes "isFunction") Function function true (passes 0 (is Function) ∷ [])
    ∷ tested (bytes "isFunction") Function (builtin (test Null)) true (passes 0 (is Function) ∷ [])
    ∷ tested (bytes "isFunction") Function (set []) false []
    ∷ []

-- { g, a, h, i, y }: a function of the tree gives anything for anything, or fails; so does a set that is called (`__functor`). Of a name h that is the
-- builtin isNull nothing is told. Of isNull by its own name it is, but the call fails where its argument does.
unfoldable pub calls : Exhibit
calls = record {
  exprs = (reference 0, Some function) ∷ (reference 1, Some (set (bytes "__functor" ∷ []))) ∷ (reference 2, Some (builtin (test Null)))  -- 0 g, 1 a, 2 h
      ∷ (reference 3, Some integer) ∷ (reference 4, None) ∷ (reference 5, Some (builtin (test Null)))  -- 3 i, 4 y, 5 isNull
      ∷ (apply 0 4, Some (bool false))  -- 6 g y
      ∷ (apply 0 3, Some (bool true))  -- 7 g i
      ∷ (apply 0 0, Some null)  -- 8 g g
      ∷ (apply 0 1, None)  -- 9 g a
      ∷ (apply 1 3, Some (bool true))  -- 10 a i
      ∷ (apply 2 3, Some (bool false))  -- 11 h i
      ∷ (apply 5 3, Some (bool false))  -- 12 isNull i
      ∷ (apply 5 4, None)  -- 13 isNull y
      ∷ (list_of (6 ∷ 7 ∷ 8 ∷ 9 ∷ 10 ∷ 11 ∷ 12 ∷ 13 ∷ []), Some list) ∷ (fields (0 ∷ 1 ∷ 2 ∷ 3 ∷ 4 ∷ []) 14, Some function) ∷ [];
  names = (field 0, Some function) ∷ (field 1, Some (set (bytes "__functor" ∷ []))) ∷ (field 2, Some (builtin (test Null))) ∷ (field 3, Some integer)
      ∷ (field 4, None) ∷ [];
  texts = bytes "g" ∷ bytes "a" ∷ bytes "h" ∷ bytes "i" ∷ bytes "y" ∷ bytes "isNull" ∷ [];
  tells = came 6 false [] ∷ came 7 true [] ∷ came 10 true [] ∷ came 11 false [] ∷ came 12 false (fails 3 (is Null) ∷ []) ∷ [];
}

-- { a, x }: `?` is true of a set that holds the key, false of one that does not, and false of what is no set
unfoldable pub keys : Exhibit
keys = record {
  exprs = (reference 0, Some (set (bytes "k" ∷ bytes "m" ∷ []))) ∷ (reference 1, Some integer) ∷ (text 2, Some string)  -- 0 a, 1 x, 2 "k"
      ∷ (text 3, Some string) ∷ (reference 4, Some (builtin (test Null)))  -- 3 "z", 4 isNull
      ∷ (attr 0 2, Some (bool true))  -- 5 a ? k
      ∷ (attr 0 3, Some (bool false))  -- 6 a ? z
      ∷ (attr 1 2, Some (bool false))  -- 7 x ? k
      ∷ (attr 4 2, Some (bool false))  -- 8 isNull ? k
      ∷ (list_of (5 ∷ 6 ∷ 7 ∷ 8 ∷ []), Some list) ∷ (fields (0 ∷ 1 ∷ []) 9, Some function) ∷ [];
  names = (field 0, Some (set (bytes "k" ∷ bytes "m" ∷ []))) ∷ (field 1, Some integer) ∷ [];
  texts = bytes "a" ∷ bytes "x" ∷ bytes "k" ∷ bytes "z" ∷ bytes "isNull" ∷ [];
  tells = came 5 true (passes 0 (has 2) ∷ []) ∷ came 6 false (fails 0 (has 3) ∷ []) ∷ came 7 false (fails 1 (has 2) ∷ []) ∷ came 8 false [] ∷ [];
}

-- { a, x, y }: hasAttr tells what `?` does; it is a function of its first argument whatever that is, even where that fails (y does)
unfoldable pub attributes : Exhibit
attributes = record {
  exprs = (reference 0, Some (set (bytes "k" ∷ []))) ∷ (reference 1, Some list) ∷ (reference 2, None)  -- 0 a, 1 x, 2 y
      ∷ (reference 3, Some (set (bytes "hasAttr" ∷ []))) ∷ (text 4, Some string) ∷ (select 3 4, Some (builtin has_attr))  -- 5 builtins.hasAttr
      ∷ (apply 5 2, Some function)  -- 6 hasAttr y
      ∷ (text 5, Some string) ∷ (apply 5 7, Some (builtin (has_attr_of (bytes "k"))))  -- 8 hasAttr "k"
      ∷ (text 6, Some string) ∷ (apply 5 9, Some (builtin (has_attr_of (bytes "z"))))  -- 10 hasAttr "z"
      ∷ (apply 8 0, Some (bool true))  -- 11 hasAttr "k" a
      ∷ (apply 10 0, Some (bool false))  -- 12 hasAttr "z" a
      ∷ (apply 8 1, Some (bool false))  -- 13 hasAttr "k" x
      ∷ (apply 8 2, None)  -- 14 hasAttr "k" y
      ∷ (list_of (6 ∷ 11 ∷ 12 ∷ 13 ∷ 14 ∷ []), Some list) ∷ (fields (0 ∷ 1 ∷ 2 ∷ []) 15, Some function) ∷ [];
  names = (field 0, Some (set (bytes "k" ∷ []))) ∷ (field 1, Some list) ∷ (field 2, None) ∷ [];
  texts = bytes "a" ∷ bytes "x" ∷ bytes "y" ∷ bytes "builtins" ∷ bytes "hasAttr" ∷ bytes "k" ∷ bytes "z" ∷ [];
  tells = came 11 true (passes 0 (has 5) ∷ []) ∷ came 12 false (fails 0 (has 6) ∷ []) ∷ came 13 false (fails 1 (has 5) ∷ []) ∷ [];
}

-- { n, i, s }: two nulls are equal; values of two sorts are unequal; two of one sort are equal or unequal
unfoldable pub equals : Exhibit
equals = record {
  exprs = (reference 0, Some null) ∷ (reference 1, Some integer) ∷ (reference 2, Some string) ∷ (reference 3, Some null)  -- 0 n, 1 i, 2 s, 3 null
      ∷ (int, Some integer) ∷ (int, Some integer) ∷ (text 4, Some string) ∷ (text 5, Some string)  -- 4 1, 5 2, 6 "a", 7 "b"
      ∷ (bin_op details.Equal 0 3, Some (bool true))  -- 8 n == null
      ∷ (bin_op details.NotEqual 3 0, Some (bool false))  -- 9 null != n
      ∷ (bin_op details.Equal 3 1, Some (bool false))  -- 10 null == i
      ∷ (bin_op details.NotEqual 1 3, Some (bool true))  -- 11 i != null
      ∷ (bin_op details.Equal 1 4, Some (bool true))  -- 12 i == 1
      ∷ (bin_op details.Equal 5 1, Some (bool false))  -- 13 2 == i
      ∷ (bin_op details.NotEqual 2 6, Some (bool false))  -- 14 s != "a"
      ∷ (bin_op details.NotEqual 2 7, Some (bool true))  -- 15 s != "b"
      ∷ (bin_op details.NotEqual 2 4, Some (bool true))  -- 16 s != 1
      ∷ (bin_op details.Equal 3 3, Some (bool true))  -- 17 null == null
      ∷ (list_of (8 ∷ 9 ∷ 10 ∷ 11 ∷ 12 ∷ 13 ∷ 14 ∷ 15 ∷ 16 ∷ 17 ∷ []), Some list) ∷ (fields (0 ∷ 1 ∷ 2 ∷ []) 18, Some function) ∷ [];
  names = (field 0, Some null) ∷ (field 1, Some integer) ∷ (field 2, Some string) ∷ [];
  texts = bytes "n" ∷ bytes "i" ∷ bytes "s" ∷ bytes "null" ∷ bytes "a" ∷ bytes "b" ∷ [];
  tells = came 8 true (passes 0 (is Null) ∷ []) ∷ came 9 false (passes 0 (is Null) ∷ []) ∷ came 10 false (fails 1 (is Null) ∷ [])
      ∷ came 11 true (fails 1 (is Null) ∷ []) ∷ came 12 true (passes 1 numeric ∷ []) ∷ came 13 false [] ∷ came 14 false (passes 2 (is String) ∷ [])
      ∷ came 15 true [] ∷ came 16 true [] ∷ came 17 true [] ∷ [];
}

-- { i, f, h, g }: an integer and a float compare either way, whichever of them is a name's and whichever a literal
unfoldable pub numbers : Exhibit
numbers = record {
  exprs = (reference 0, Some integer) ∷ (reference 1, Some float) ∷ (reference 2, Some float) ∷ (reference 3, Some function)  -- 0 i, 1 f, 2 h, 3 g
      ∷ (int, Some integer) ∷ (point, Some float) ∷ (apply 3 4, Some float) ∷ (int, Some integer)  -- 4 1, 5 1.0, 6 g 1, 7 2
      ∷ (bin_op details.Equal 0 1, Some (bool true))  -- 8 i == f
      ∷ (bin_op details.Equal 2 0, Some (bool false))  -- 9 h == i
      ∷ (bin_op details.Equal 4 5, Some (bool true))  -- 10 1 == 1.0
      ∷ (bin_op details.Equal 5 4, Some (bool true))  -- 11 1.0 == 1
      ∷ (bin_op details.Equal 6 4, Some (bool true))  -- 12 g 1 == 1
      ∷ (bin_op details.Equal 1 5, Some (bool true))  -- 13 f == 1.0
      ∷ (bin_op details.Equal 1 7, Some (bool false))  -- 14 f == 2
      ∷ (bin_op details.NotEqual 4 2, Some (bool false))  -- 15 1 != h
      ∷ (bin_op details.NotEqual 1 7, Some (bool true))  -- 16 f != 2
      ∷ (list_of (8 ∷ 9 ∷ 10 ∷ 11 ∷ 12 ∷ 13 ∷ 14 ∷ 15 ∷ 16 ∷ []), Some list) ∷ (fields (0 ∷ 1 ∷ 2 ∷ 3 ∷ []) 17, Some function) ∷ [];
  names = (field 0, Some integer) ∷ (field 1, Some float) ∷ (field 2, Some float) ∷ (field 3, Some function) ∷ [];
  texts = bytes "i" ∷ bytes "f" ∷ bytes "h" ∷ bytes "g" ∷ [];
  tells = came 8 true [] ∷ came 9 false [] ∷ came 10 true [] ∷ came 11 true [] ∷ came 12 true [] ∷ came 13 true (passes 1 numeric ∷ [])
      ∷ came 14 false [] ∷ came 15 false (passes 2 numeric ∷ []) ∷ came 16 true [] ∷ [];
}

-- x: x == LITERAL, for a literal and its value, and a value of x: they came out equal, and x is a number ("A tariff writes `step == 1`, the scale
-- delivers 1.0, and the manual says they are equal.")
unfoldable pub comparing : Expr → Value → Value → Exhibit
comparing l w v = record {
  exprs = (reference 0, Some v) ∷ (l, Some w) ∷ (bin_op details.Equal 0 1, Some (bool true)) ∷ (lambda 0 2, Some function) ∷ [];
  names = (name 0 name_kinds.Param, Some v) ∷ [];
  texts = bytes "x" ∷ [];
  tells = came 2 true (passes 0 numeric ∷ []) ∷ [];
}

-- x == 1 where x is 1.0, and x == 1.0 where x is 1
unfoldable pub float_equal : Exhibit
float_equal = comparing int integer float

unfoldable pub integer_equal : Exhibit
integer_equal = comparing point float integer

-- { n, b, c, y }: && is true of two that are true, and false if either is false, whatever the other: y fails
unfoldable pub ands : Exhibit
ands = record {
  exprs = (reference 0, Some null) ∷ (reference 1, Some (bool true)) ∷ (reference 2, Some (bool false)) ∷ (reference 3, None)  -- 0 n, 1 b, 2 c, 3 y
      ∷ (reference 4, Some null) ∷ (bin_op details.Equal 0 4, Some (bool true))  -- 4 null, 5 n == null
      ∷ (bin_op details.And 5 1, Some (bool true))  -- 6 n == null && b
      ∷ (bin_op details.And 2 3, Some (bool false))  -- 7 c && y
      ∷ (bin_op details.And 1 2, Some (bool false))  -- 8 b && c
      ∷ (bin_op details.And 2 1, Some (bool false))  -- 9 c && b
      ∷ (bin_op details.And 1 3, None)  -- 10 b && y
      ∷ (list_of (6 ∷ 7 ∷ 8 ∷ 9 ∷ 10 ∷ []), Some list) ∷ (fields (0 ∷ 1 ∷ 2 ∷ 3 ∷ []) 11, Some function) ∷ [];
  names = (field 0, Some null) ∷ (field 1, Some (bool true)) ∷ (field 2, Some (bool false)) ∷ (field 3, None) ∷ [];
  texts = bytes "n" ∷ bytes "b" ∷ bytes "c" ∷ bytes "y" ∷ bytes "null" ∷ [];
  tells = came 6 true (passes 0 (is Null) ∷ []) ∷ came 7 false [] ∷ came 8 false [] ∷ came 9 false [] ∷ [];
}

-- { n, b, c, y }: || is false of two that are false, and true if either is true, whatever the other: y fails
unfoldable pub ors : Exhibit
ors = record {
  exprs = (reference 0, Some null) ∷ (reference 1, Some (bool true)) ∷ (reference 2, Some (bool false)) ∷ (reference 3, None)  -- 0 n, 1 b, 2 c, 3 y
      ∷ (reference 4, Some null) ∷ (bin_op details.NotEqual 0 4, Some (bool false))  -- 4 null, 5 n != null
      ∷ (bin_op details.Or 5 2, Some (bool false))  -- 6 n != null || c
      ∷ (bin_op details.Or 1 3, Some (bool true))  -- 7 b || y
      ∷ (bin_op details.Or 1 2, Some (bool true))  -- 8 b || c
      ∷ (bin_op details.Or 2 1, Some (bool true))  -- 9 c || b
      ∷ (bin_op details.Or 2 3, None)  -- 10 c || y
      ∷ (list_of (6 ∷ 7 ∷ 8 ∷ 9 ∷ 10 ∷ []), Some list) ∷ (fields (0 ∷ 1 ∷ 2 ∷ 3 ∷ []) 11, Some function) ∷ [];
  names = (field 0, Some null) ∷ (field 1, Some (bool true)) ∷ (field 2, Some (bool false)) ∷ (field 3, None) ∷ [];
  texts = bytes "n" ∷ bytes "b" ∷ bytes "c" ∷ bytes "y" ∷ bytes "null" ∷ [];
  tells = came 6 false (passes 0 (is Null) ∷ []) ∷ came 7 true [] ∷ came 8 true [] ∷ came 9 true [] ∷ [];
}

-- { n, b, c, y }: -> is false where its left side is true and its right side false, and true of a left side that is false, whatever the right: y fails
unfoldable pub arrows : Exhibit
arrows = record {
  exprs = (reference 0, Some null) ∷ (reference 1, Some (bool true)) ∷ (reference 2, Some (bool false)) ∷ (reference 3, None)  -- 0 n, 1 b, 2 c, 3 y
      ∷ (reference 4, Some null) ∷ (bin_op details.Equal 0 4, Some (bool true)) ∷ (bin_op details.NotEqual 0 4, Some (bool false))  -- 5 n == null, 6 n != null
      ∷ (bin_op details.Implication 5 6, Some (bool false))  -- 7 n == null -> n != null
      ∷ (bin_op details.Implication 2 3, Some (bool true))  -- 8 c -> y
      ∷ (bin_op details.Implication 1 1, Some (bool true))  -- 9 b -> b
      ∷ (bin_op details.Implication 2 2, Some (bool true))  -- 10 c -> c
      ∷ (bin_op details.Implication 1 3, None)  -- 11 b -> y
      ∷ (list_of (7 ∷ 8 ∷ 9 ∷ 10 ∷ 11 ∷ []), Some list) ∷ (fields (0 ∷ 1 ∷ 2 ∷ 3 ∷ []) 12, Some function) ∷ [];
  names = (field 0, Some null) ∷ (field 1, Some (bool true)) ∷ (field 2, Some (bool false)) ∷ (field 3, None) ∷ [];
  texts = bytes "n" ∷ bytes "b" ∷ bytes "c" ∷ bytes "y" ∷ bytes "null" ∷ [];
  tells = came 7 false (passes 0 (is Null) ∷ passes 0 (is Null) ∷ []) ∷ came 8 true [] ∷ came 9 true [] ∷ came 10 true [] ∷ [];
}

-- { n, i, s }: ! is true of what is false, false of what is true, and fails of what is no bool
unfoldable pub nots : Exhibit
nots = record {
  exprs = (reference 0, Some null) ∷ (reference 1, Some integer) ∷ (reference 2, Some string) ∷ (reference 3, Some null)  -- 0 n, 1 i, 2 s, 3 null
      ∷ (bin_op details.Equal 0 3, Some (bool true)) ∷ (not 4, Some (bool false))  -- 5 !(n == null)
      ∷ (bin_op details.Equal 1 3, Some (bool false)) ∷ (not 6, Some (bool true))  -- 7 !(i == null)
      ∷ (not 2, None)  -- 8 !s
      ∷ (list_of (5 ∷ 7 ∷ 8 ∷ []), Some list) ∷ (fields (0 ∷ 1 ∷ 2 ∷ []) 9, Some function) ∷ [];
  names = (field 0, Some null) ∷ (field 1, Some integer) ∷ (field 2, Some string) ∷ [];
  texts = bytes "n" ∷ bytes "i" ∷ bytes "s" ∷ bytes "null" ∷ [];
  tells = came 5 false (passes 0 (is Null) ∷ []) ∷ came 7 true (fails 1 (is Null) ∷ []) ∷ [];
}

-- a: let d = 1; e = throw d; inherit (a) c f; in [ .. ]: d has its expression's value, e fails as its expression does, c and f are selected from a
unfoldable pub indexed : Exhibit
indexed = record {
  exprs = (reference 0, Some (set (bytes "c" ∷ bytes "f" ∷ []))) ∷ (int, Some integer) ∷ (reference 1, Some integer)  -- 0 a, 1 1, 2 d
      ∷ (reference 5, Some function) ∷ (apply 3 2, None) ∷ (reference 2, None) ∷ (reference 3, Some string)  -- 3 throw, 4 throw d, 5 e, 6 c
      ∷ (text 6, Some string) ∷ (bin_op details.Equal 6 7, Some (bool true)) ∷ (reference 4, Some function)  -- 8 c == "s", 9 f
      ∷ (list_of (0 ∷ 5 ∷ 8 ∷ 9 ∷ []), Some list)
      ∷ (owner kinds.LetIn (item roles.StaticExpr 1 1 ∷ item roles.StaticExpr 2 4 ∷ item roles.InheritFrom 3 0 ∷ item roles.InheritFrom 4 0 ∷ child 10 ∷ []), Some list)
      ∷ (lambda 0 11, Some function) ∷ [];
  names = (name 0 name_kinds.Param, Some (set (bytes "c" ∷ bytes "f" ∷ []))) ∷ (name 1 name_kinds.LetIn, Some integer) ∷ (name 2 name_kinds.LetIn, None)
      ∷ (name 3 name_kinds.LetIn, Some string) ∷ (name 4 name_kinds.LetIn, Some function) ∷ [];
  texts = bytes "a" ∷ bytes "d" ∷ bytes "e" ∷ bytes "c" ∷ bytes "f" ∷ bytes "throw" ∷ bytes "s" ∷ [];
  tells = came 8 true (passes 3 (is String) ∷ []) ∷ [];
}

-- let inherit ([ null true false ]) c; in [ c null true false ]: where they are unresolved (no scope visit) and where they are builtins
unfoldable pub keywords : Exhibit
keywords = record {
  exprs = (reference 0, Some null) ∷ (reference 1, Some (bool true)) ∷ (reference 2, Some (bool false))  -- unresolved
      ∷ (list_of (0 ∷ 1 ∷ 2 ∷ []), Some list) ∷ (reference 3, Some list)  -- 4 c
      ∷ (reference 0, Some null) ∷ (reference 1, Some (bool true)) ∷ (reference 2, Some (bool false))  -- builtins
      ∷ (list_of (4 ∷ 5 ∷ 6 ∷ 7 ∷ []), Some list) ∷ (owner kinds.LetIn (item roles.InheritFrom 0 3 ∷ child 8 ∷ []), Some list) ∷ [];
  names = (name 3 name_kinds.LetIn, Some list) ∷ [];
  texts = bytes "null" ∷ bytes "true" ∷ bytes "false" ∷ bytes "c" ∷ [];
  tells = came 1 true [] ∷ came 2 false [] ∷ came 6 true [] ∷ came 7 false [] ∷ [];
}

-- x: let null = 1; in x == null: a null that is defined here is what it is defined as
unfoldable pub redefined : Exhibit
redefined = record {
  exprs = (reference 0, Some integer) ∷ (reference 1, Some integer) ∷ (bin_op details.Equal 0 1, Some (bool true)) ∷ (int, Some integer)
      ∷ (let_in 1 3 2, Some (bool true)) ∷ (lambda 0 4, Some function) ∷ [];
  names = (name 0 name_kinds.Param, Some integer) ∷ (name 1 name_kinds.LetIn, Some integer) ∷ [];
  texts = bytes "x" ∷ bytes "null" ∷ [];
  tells = came 2 true [] ∷ [];
}

-- { lib, i }: a selection by its last key is the test, or fails; with a default it may be another value, and so may one with another key. hasAttr counts
-- so of `builtins` alone.
unfoldable pub selected : Exhibit
selected = record {
  exprs = (reference 0, Some (set (bytes "isNull" ∷ bytes "length" ∷ bytes "hasAttr" ∷ []))) ∷ (reference 1, Some integer)  -- 0 lib, 1 i
      ∷ (reference 2, Some (set (bytes "length" ∷ []))) ∷ (text 3, Some string) ∷ (text 4, Some string)  -- 2 builtins, 3 "isNull", 4 "isInt"
      ∷ (text 5, Some string) ∷ (text 6, Some string)  -- 5 "hasAttr", 6 "length"
      ∷ (select 0 3, Some (builtin (test Null))) ∷ (apply 7 1, Some (bool false))  -- 7 lib.isNull, 8 lib.isNull i
      ∷ (owner kinds.Select (child 0 ∷ key 6 ∷ key 4 ∷ []), Some (builtin (test Int))) ∷ (apply 9 1, Some (bool true))  -- 10 lib.length.isInt i
      ∷ (select 0 4, None)  -- 11 lib.isInt
      ∷ (owner kinds.Select (child 0 ∷ key 4 ∷ item roles.Default none_number 1 ∷ []), Some integer)  -- 12 lib.isInt or i
      ∷ (select 0 5, Some string)  -- 13 lib.hasAttr
      ∷ (select 2 6, Some function)  -- 14 builtins.length
      ∷ (list_of (8 ∷ 10 ∷ 11 ∷ 12 ∷ 13 ∷ 14 ∷ []), Some list) ∷ (fields (0 ∷ 1 ∷ []) 15, Some function) ∷ [];
  names = (field 0, Some (set (bytes "isNull" ∷ bytes "length" ∷ bytes "hasAttr" ∷ []))) ∷ (field 1, Some integer) ∷ [];
  texts = bytes "lib" ∷ bytes "i" ∷ bytes "builtins" ∷ bytes "isNull" ∷ bytes "isInt" ∷ bytes "hasAttr" ∷ bytes "length" ∷ [];
  tells = came 8 false (fails 1 (is Null) ∷ []) ∷ came 10 true (passes 1 (is Int) ∷ []) ∷ [];
}

-- { a, b }: what is no operator and no call may come out true or false, and tells nothing: a name, a With, an IfThenElse, `?` with two keys
unfoldable pub others : Exhibit
others = record {
  exprs = (reference 0, Some (set (bytes "w" ∷ []))) ∷ (reference 1, Some (bool true)) ∷ (reference 2, Some (bool false))  -- 0 a, 1 b, 2 w
      ∷ (owner kinds.With (child 0 ∷ child 2 ∷ []), Some (bool false))  -- 3 with a; w
      ∷ (owner kinds.IfThenElse (child 1 ∷ child 3 ∷ child 0 ∷ []), Some (bool false))  -- 4 if b then with a; w else a
      ∷ (text 2, Some string) ∷ (owner kinds.HasAttr (child 0 ∷ key 5 ∷ key 5 ∷ []), Some (bool false))  -- 6 a ? w.w
      ∷ (list_of (4 ∷ 6 ∷ []), Some list) ∷ (fields (0 ∷ 1 ∷ []) 7, Some function) ∷ [];
  names = (field 0, Some (set (bytes "w" ∷ []))) ∷ (field 1, Some (bool true)) ∷ [];
  texts = bytes "a" ∷ bytes "b" ∷ bytes "w" ∷ [];
  tells = came 1 true [] ∷ came 2 false [] ∷ came 3 false [] ∷ came 4 false [] ∷ came 6 false [] ∷ [];
}

-- { builtins, x }: of a profile's own `builtins` nothing is known: its isString may be any function, and so may one further in; its hasAttr may be a number
unfoldable pub own_test : Exhibit
own_test = record {
  exprs = (reference 0, Some (set (bytes "isString" ∷ bytes "f" ∷ bytes "hasAttr" ∷ []))) ∷ (reference 1, Some integer)  -- 0 builtins, 1 x
      ∷ (text 2, Some string) ∷ (text 3, Some string) ∷ (text 4, Some string)  -- 2 "isString", 3 "f", 4 "hasAttr"
      ∷ (select 0 2, Some function) ∷ (apply 5 1, Some (bool true))  -- 6 builtins.isString x
      ∷ (owner kinds.Select (child 0 ∷ key 3 ∷ key 2 ∷ []), Some (builtin (test Int))) ∷ (apply 7 1, Some (bool true))  -- 8 builtins.f.isString x
      ∷ (select 0 4, Some integer)  -- 9 builtins.hasAttr
      ∷ (list_of (6 ∷ 8 ∷ 9 ∷ []), Some list) ∷ (fields (0 ∷ 1 ∷ []) 10, Some function) ∷ [];
  names = (field 0, Some (set (bytes "isString" ∷ bytes "f" ∷ bytes "hasAttr" ∷ []))) ∷ (field 1, Some integer) ∷ [];
  texts = bytes "builtins" ∷ bytes "x" ∷ bytes "isString" ∷ bytes "f" ∷ bytes "hasAttr" ∷ [];
  tells = came 6 true [] ∷ came 8 true [] ∷ [];
}

-- { builtins, x }: its optional may use its argument always, here x, which is not null
unfoldable pub own_helper : Exhibit
own_helper = record {
  exprs = (reference 0, Some (set (bytes "optional" ∷ []))) ∷ (reference 1, Some integer) ∷ (reference 2, Some null)  -- 0 builtins, 1 x, 2 null
      ∷ (text 3, Some string) ∷ (select 0 3, Some function)  -- 4 builtins.optional
      ∷ (bin_op details.Equal 1 2, Some (bool false)) ∷ (apply 4 5, Some function) ∷ (reference 1, Some integer)  -- 5 x == null, 7 x
      ∷ (apply 6 7, Some list) ∷ (fields (0 ∷ 1 ∷ []) 8, Some function) ∷ [];  -- 8 builtins.optional (x == null) x
  names = (field 0, Some (set (bytes "optional" ∷ []))) ∷ (field 1, Some integer) ∷ [];
  texts = bytes "builtins" ∷ bytes "x" ∷ bytes "null" ∷ bytes "optional" ∷ [];
  tells = came 5 false (fails 1 (is Null) ∷ []) ∷ [];
}

-- so at no point of its walk is anything in force
abbrev pub NothingGuarded : Type 0
NothingGuarded = NothingInForce (tree_of own_helper)

-- all of them
unfoldable pub gallery : List Exhibit
gallery =
    calls ∷ keys ∷ attributes ∷ equals ∷ numbers ∷ float_equal ∷ integer_equal ∷ ands ∷ ors ∷ arrows ∷ nots ∷ indexed ∷ keywords ∷ redefined ∷ selected ∷ own_test ∷ own_helper ∷ others ∷ tests
