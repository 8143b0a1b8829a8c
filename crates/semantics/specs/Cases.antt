-- The cases of document 01: the printed case of `survey`, and "Conditions and what they give" as one table (proofs/Cases.antt).
use Rattle.std.specs.Prelude.{◌≡◌, true, false, List, [], ◌∷◌, ◌++◌, map, ℕ, ◌+◌, ◌*◌, Option, Some, None}
use Rattle.semantics.specs.Codes.{none_number, kinds, details, roles, name_kinds, sorts, types, widths}
use Rattle.semantics.specs.Base.{pick, numbered, All}
use Rattle.semantics.specs.Tree.{Tree, Item, Expr, Name, bytes}
use Rattle.semantics.specs.Scopes.{resolve_steps, resolve_need}
use Rattle.semantics.specs.Resolution.{Tables, Resolution, unresolved, definition, builtin, own}
use Rattle.semantics.specs.Narrow.{coded, analyze}
use Rattle.semantics.specs.Walk.{edges, recorded, name_expr, walk_steps, walk_need}

-- How trees are written here: an item by its role, its name and its expression
unfoldable pub item : ℕ → ℕ → ℕ → Item
item r n e = record { role = r; name = n; expression = e }

-- a child
unfoldable pub child : ℕ → Item
child e = item roles.Child none_number e

-- a path key
unfoldable pub key : ℕ → Item
key e = item roles.PathKey none_number e

-- an expression by its kind, its detail, its text and its items
unfoldable pub expr : ℕ → ℕ → ℕ → List Item → Expr
expr k d x is = record { kind = k; detail = d; text = x; items = is }

-- one by its kind and its items, with detail 0 and no text
unfoldable pub owner : ℕ → List Item → Expr
owner k is = expr k 0 none_number is

-- a Reference by its text
unfoldable pub reference : ℕ → Expr
reference x = expr kinds.Reference 0 x []

-- a String literal by its text
unfoldable pub string : ℕ → Expr
string x = expr kinds.Literal details.String x []

-- an integer literal
unfoldable pub integer : Expr
integer = expr kinds.Literal details.Integer none_number []

-- a float literal
unfoldable pub float : Expr
float = expr kinds.Literal details.Float none_number []

-- !e
unfoldable pub not : ℕ → Expr
not e = owner kinds.UnaryOp (child e ∷ [])

-- a BinOp by its detail and its sides
unfoldable pub bin_op : ℕ → ℕ → ℕ → Expr
bin_op d l r = expr kinds.BinOp d none_number (child l ∷ child r ∷ [])

-- an Apply by its function and its argument
unfoldable pub apply : ℕ → ℕ → Expr
apply f a = owner kinds.Apply (child f ∷ child a ∷ [])

-- a Select of one key
unfoldable pub select : ℕ → ℕ → Expr
select e k = owner kinds.Select (child e ∷ key k ∷ [])

-- a Lambda by its parameter and its body
unfoldable pub lambda : ℕ → ℕ → Expr
lambda n e = owner kinds.Lambda (item roles.Parameter n none_number ∷ child e ∷ [])

-- a LetIn of one static Expr, by its name, that and its body
unfoldable pub let_in : ℕ → ℕ → ℕ → Expr
let_in n d e = owner kinds.LetIn (item roles.StaticExpr n d ∷ child e ∷ [])

-- a name by its text and its kind
unfoldable pub name : ℕ → ℕ → Name
name x k = record { text = x; kind = k }

-- "`x: if x == null then let y = x; in y else x` (146 bytes, expressions 0 to 8 children first, names x 0, y 1)"
unfoldable pub survey : Tree
survey = record {
  exprs = reference 0 ∷ reference 1 ∷ bin_op details.Equal 0 1 ∷ reference 0 ∷ reference 2 ∷ let_in 1 3 4 ∷ reference 0
      ∷ owner kinds.IfThenElse (child 2 ∷ child 5 ∷ child 6 ∷ []) ∷ lambda 0 7 ∷ [];
  names = name 0 name_kinds.Param ∷ name 2 name_kinds.LetIn ∷ [];
  texts = bytes "x" ∷ bytes "null" ∷ bytes "y" ∷ [];
  entry = 8;
}

-- What the calls answer on a tree over its own tables.
pub record Answers : Type 0 where
  pub bindings : List (Option ℕ)
  pub resolved : List Resolution
  pub resolve_steps : ℕ
  pub resolve_need : ℕ
  pub edges : List (ℕ × ℕ)
  pub exprs : List (Option ℕ)
  pub narrowings : List (ℕ × (ℕ × ℕ × ℕ))
  pub walk_steps : ℕ
  pub walk_need : ℕ

-- f at the number of each element of a list
unfoldable pub at_each : {A B : Type 0} → (ℕ → B) → List A → List B
at_each f l = map (λ x. f x.0) (numbered 0 l)

-- the answers by the definitions
unfoldable pub answers : Tree → Answers
answers t = record {
  bindings = at_each (own t).index t.names;
  resolved = at_each (own t).resolution t.exprs;
  resolve_steps = resolve_steps t;
  resolve_need = resolve_need t;
  edges = edges t (own t);
  exprs = at_each (name_expr t (own t)) t.names;
  narrowings = map (λ r. (r.0, coded r.1)) (recorded t (own t));
  walk_steps = walk_steps t (own t);
  walk_need = walk_need t (own t);
}

-- "resolve 9, 0 def 0, 1 builtin 15, 3 def 0, 4 def 1, 6 def 0, walk 10, edge 1 0, bind 1 3, narrow 1 0 0 0"
unfoldable pub survey_answers : Answers
survey_answers = record {
  bindings = None ∷ Some 3 ∷ [];
  resolved = definition 0 ∷ builtin 15 ∷ unresolved ∷ definition 0 ∷ definition 1 ∷ unresolved ∷ definition 0 ∷ unresolved ∷ unresolved ∷ [];
  resolve_steps = 9;
  resolve_need = widths.scope_number * 9 + widths.scope * 3;
  edges = (1, 0) ∷ [];
  exprs = None ∷ Some 3 ∷ [];
  narrowings = (1, (0, sorts.IsType, types.Null)) ∷ [];
  walk_steps = 10;
  walk_need = widths.narrowing;
}

-- x: lib.optionalString (x == null) (if x != null then x else let y = x; in y)
unfoldable pub helped : Tree
helped = record {
  exprs = reference 3 ∷ string 4 ∷ select 0 1 ∷ reference 0 ∷ reference 1 ∷ bin_op details.Equal 3 4 ∷ apply 2 5 ∷ reference 0 ∷ reference 1 ∷ bin_op details.NotEqual 7 8
      ∷ reference 0 ∷ reference 0 ∷ reference 2 ∷ let_in 1 11 12 ∷ owner kinds.IfThenElse (child 9 ∷ child 10 ∷ child 13 ∷ []) ∷ apply 6 14 ∷ lambda 0 15 ∷ [];
  names = name 0 name_kinds.Param ∷ name 2 name_kinds.LetIn ∷ [];
  texts = bytes "x" ∷ bytes "null" ∷ bytes "y" ∷ bytes "lib" ∷ bytes "optionalString" ∷ [];
  entry = 16;
}

-- both narrowings are in force at y: x is null by the call, and by the else branch
unfoldable pub helped_answers : Answers
helped_answers = record {
  bindings = None ∷ Some 11 ∷ [];
  resolved = unresolved ∷ unresolved ∷ unresolved ∷ definition 0 ∷ builtin 15 ∷ unresolved ∷ unresolved ∷ definition 0 ∷ builtin 15
      ∷ unresolved ∷ definition 0 ∷ definition 0 ∷ definition 1 ∷ unresolved ∷ unresolved ∷ unresolved ∷ unresolved ∷ [];
  resolve_steps = 17;
  resolve_need = widths.scope_number * 17 + widths.scope * 3;
  edges = (1, 0) ∷ [];
  exprs = None ∷ Some 11 ∷ [];
  narrowings = (1, (0, sorts.IsType, types.Null)) ∷ (1, (0, sorts.IsType, types.Null)) ∷ [];
  walk_steps = 19;
  walk_need = widths.narrowing * 2;
}

-- x: y: rec { inherit x; a = x; inherit (y) b; ${"k"} = a; }, with rec or without, by its detail and the kind of its names
unfoldable pub inheriting : ℕ → ℕ → Tree
inheriting d k = record {
  exprs = reference 0 ∷ reference 0 ∷ reference 1 ∷ string 3 ∷ select 2 3 ∷ reference 1 ∷ string 4 ∷ reference 2
      ∷ expr kinds.AttrSet d none_number (item roles.Inherit 2 0 ∷ item roles.StaticExpr 3 1 ∷ item roles.InheritFrom 4 4 ∷ item roles.InheritBase none_number 5
      ∷ item roles.DynamicKey none_number 6 ∷ item roles.DynamicValue none_number 7 ∷ []) ∷ lambda 1 8 ∷ lambda 0 9 ∷ [];
  names = name 0 name_kinds.Param ∷ name 1 name_kinds.Param ∷ name 0 k ∷ name 2 k ∷ name 3 k ∷ [];
  texts = bytes "x" ∷ bytes "y" ∷ bytes "a" ∷ bytes "b" ∷ bytes "k" ∷ [];
  entry = 10;
}

-- with rec: x, a and b are names of the walk, and the x of `a = x` is the inherited one
unfoldable pub rec_answers : Answers
rec_answers = record {
  bindings = None ∷ None ∷ None ∷ Some 1 ∷ Some 4 ∷ [];
  resolved = definition 0 ∷ definition 2 ∷ unresolved ∷ unresolved ∷ unresolved ∷ definition 1 ∷ unresolved ∷ definition 3 ∷ unresolved ∷ unresolved ∷ unresolved ∷ [];
  resolve_steps = 8;
  resolve_need = widths.scope_number * 11 + widths.scope * 4;
  edges = (2, 0) ∷ (3, 2) ∷ [];
  exprs = None ∷ None ∷ Some 0 ∷ Some 1 ∷ Some 4 ∷ [];
  narrowings = [];
  walk_steps = 10;
  walk_need = 0;
}

-- without rec: no names of the walk, and x is the parameter
unfoldable pub plain_answers : Answers
plain_answers = record {
  bindings = None ∷ None ∷ None ∷ Some 1 ∷ Some 4 ∷ [];
  resolved = definition 0 ∷ definition 0 ∷ unresolved ∷ unresolved ∷ unresolved ∷ definition 1 ∷ unresolved ∷ unresolved ∷ unresolved ∷ unresolved ∷ unresolved ∷ [];
  resolve_steps = 8;
  resolve_need = widths.scope_number * 11 + widths.scope * 3;
  edges = [];
  exprs = None ∷ None ∷ None ∷ None ∷ None ∷ [];
  narrowings = [];
  walk_steps = 8;
  walk_need = 0;
}

-- assert (z: z); z, with one shared Reference: its last scope is the condition's
unfoldable pub shared : Tree
shared = record {
  exprs = reference 0 ∷ lambda 0 0 ∷ owner kinds.Assert (child 1 ∷ child 0 ∷ []) ∷ [];
  names = name 0 name_kinds.Param ∷ [];
  texts = bytes "z" ∷ [];
  entry = 2;
}

-- z is the parameter, by its last visit
unfoldable pub shared_answers : Answers
shared_answers = record {
  bindings = None ∷ [];
  resolved = definition 0 ∷ unresolved ∷ unresolved ∷ [];
  resolve_steps = 4;
  resolve_need = widths.scope_number * 3 + widths.scope * 2;
  edges = [];
  exprs = None ∷ [];
  narrowings = [];
  walk_steps = 5;
  walk_need = 0;
}

-- x: y: if x == null -> y == null then x else let z = x; in z; names x 0, y 1, z 2
unfoldable pub implied : Tree
implied = record {
  exprs = reference 0 ∷ reference 1 ∷ bin_op details.Equal 0 1 ∷ reference 2 ∷ bin_op details.Equal 3 1 ∷ bin_op details.Implication 2 4
      ∷ reference 3 ∷ let_in 2 0 6 ∷ owner kinds.IfThenElse (child 5 ∷ child 0 ∷ child 7 ∷ []) ∷ lambda 1 8 ∷ lambda 0 9 ∷ [];
  names = name 0 name_kinds.Param ∷ name 2 name_kinds.Param ∷ name 3 name_kinds.LetIn ∷ [];
  texts = bytes "x" ∷ bytes "null" ∷ bytes "y" ∷ bytes "z" ∷ [];
  entry = 10;
}

-- at z the left side's then list is in force, then the right side's else list; the three nodes are steps
unfoldable pub implied_answers : Answers
implied_answers = record {
  bindings = None ∷ None ∷ Some 0 ∷ [];
  resolved = definition 0 ∷ builtin 15 ∷ unresolved ∷ definition 1 ∷ unresolved ∷ unresolved ∷ definition 2 ∷ unresolved ∷ unresolved ∷ unresolved
      ∷ unresolved ∷ [];
  resolve_steps = 14;
  resolve_need = widths.scope_number * 11 + widths.scope * 4;
  edges = (2, 0) ∷ [];
  exprs = None ∷ None ∷ Some 0 ∷ [];
  narrowings = (2, (0, sorts.IsType, types.Null)) ∷ (2, (1, sorts.IsNotType, types.Null)) ∷ [];
  walk_steps = 17;
  walk_need = widths.narrowing * 2;
}

-- whole answers on trees
unfoldable pub answered : List (Tree × Answers)
answered =
    (survey, survey_answers)
    ∷ (helped, helped_answers)
    ∷ (inheriting details.Rec name_kinds.RecAttrset, rec_answers)
    ∷ (inheriting 0 name_kinds.PlainAttrset, plain_answers)
    ∷ (shared, shared_answers)
    ∷ (implied, implied_answers)
    ∷ []

-- each tree of a table has its answers
abbrev pub Answered : List (Tree × Answers) → Type 0
Answered cs = All (λ c. answers c.0 ≡ c.1) cs

-- A case: a condition over tables, with its then list and its else list as (name, sort, value).
pub record Case : Type 0 where
  pub tree : Tree
  pub tables : Tables
  pub condition : ℕ
  pub thens : List (ℕ × ℕ × ℕ)
  pub elses : List (ℕ × ℕ × ℕ)

-- x: y: [ .. ], a list of the conditions 2 3 5 7 10 12 20 21 25; names x 0, y 1
unfoldable pub conditions : Tree
conditions = record {
  exprs = reference 0 ∷ reference 1
      ∷ bin_op details.Equal 0 1 ∷ bin_op details.NotEqual 1 0  -- 2 x == null, 3 null != x
      ∷ integer ∷ bin_op details.Equal 0 4  -- 5 x == 1
      ∷ string 2 ∷ bin_op details.NotEqual 0 6  -- 7 x != "a"
      ∷ string 3 ∷ owner kinds.HasAttr (child 0 ∷ key 8 ∷ []) ∷ not 9  -- 10 !(x ? f)
      ∷ string 4 ∷ owner kinds.HasAttr (child 0 ∷ key 6 ∷ key 11 ∷ [])  -- 12 x ? a.b
      ∷ reference 5 ∷ apply 13 0 ∷ reference 6 ∷ string 7 ∷ select 15 16 ∷ reference 8 ∷ apply 17 18
      ∷ bin_op details.And 14 19  -- 20 isNull x && builtins.isList y
      ∷ bin_op details.Or 2 2  -- 21 x == null || x == null
      ∷ reference 9 ∷ string 10 ∷ select 22 23 ∷ apply 24 0  -- 25 foo.isString x
      ∷ owner kinds.List (map child (2 ∷ 3 ∷ 5 ∷ 7 ∷ 10 ∷ 12 ∷ 20 ∷ 21 ∷ 25 ∷ [])) ∷ lambda 1 26 ∷ lambda 0 27 ∷ [];
  names = name 0 name_kinds.Param ∷ name 8 name_kinds.Param ∷ [];
  texts = bytes "x" ∷ bytes "null" ∷ bytes "a" ∷ bytes "f" ∷ bytes "b" ∷ bytes "isNull" ∷ bytes "builtins" ∷ bytes "isList" ∷ bytes "y" ∷ bytes "foo" ∷ bytes "isString" ∷ [];
  entry = 28;
}

-- x: let null = 1; in x == null
unfoldable pub shadowed : Tree
shadowed = record {
  exprs = reference 0 ∷ reference 1 ∷ bin_op details.Equal 0 1 ∷ integer ∷ let_in 1 3 2 ∷ lambda 0 4 ∷ [];
  names = name 0 name_kinds.Param ∷ name 1 name_kinds.LetIn ∷ [];
  texts = bytes "x" ∷ bytes "null" ∷ [];
  entry = 5;
}

-- x: y: [ .. ], the two sides of each law of order 7 over x == null, 2, and y == null, 4
unfoldable pub rewritten : Tree
rewritten = record {
  exprs = reference 0 ∷ reference 1 ∷ bin_op details.Equal 0 1 ∷ reference 2 ∷ bin_op details.Equal 3 1 ∷ not 2 ∷ not 4  -- 5 !a, 6 !b
      ∷ bin_op details.Or 2 4 ∷ not 7 ∷ bin_op details.And 5 6  -- 8 !(a || b), 9 !a && !b
      ∷ bin_op details.And 2 4 ∷ not 10 ∷ bin_op details.Or 5 6  -- 11 !(a && b), 12 !a || !b
      ∷ not 5  -- 13 !(!a)
      ∷ bin_op details.Implication 2 4 ∷ bin_op details.Or 5 4  -- 14 a -> b, 15 !a || b
      ∷ not 14 ∷ bin_op details.And 2 6  -- 16 !(a -> b), 17 a && !b
      ∷ owner kinds.List (map child (8 ∷ 9 ∷ 11 ∷ 12 ∷ 13 ∷ 15 ∷ 16 ∷ 17 ∷ [])) ∷ lambda 1 18 ∷ lambda 0 19 ∷ [];
  names = name 0 name_kinds.Param ∷ name 2 name_kinds.Param ∷ [];
  texts = bytes "x" ∷ bytes "null" ∷ bytes "y" ∷ [];
  entry = 20;
}

-- x: [ (x != 1.5) (1.0 != x) (foo.isInt x) (foo.isFloat x) ]
unfoldable pub measured : Tree
measured = record {
  exprs = reference 0 ∷ float ∷ bin_op details.NotEqual 0 1 ∷ float ∷ bin_op details.NotEqual 3 0  -- 2 x != 1.5, 4 1.0 != x
      ∷ reference 1 ∷ string 2 ∷ select 5 6 ∷ apply 7 0  -- 8 foo.isInt x
      ∷ string 3 ∷ select 5 9 ∷ apply 10 0  -- 11 foo.isFloat x
      ∷ owner kinds.List (map child (2 ∷ 4 ∷ 8 ∷ 11 ∷ [])) ∷ lambda 0 12 ∷ [];
  names = name 0 name_kinds.Param ∷ [];
  texts = bytes "x" ∷ bytes "foo" ∷ bytes "isInt" ∷ bytes "isFloat" ∷ [];
  entry = 13;
}

-- x: with x; x == null
unfoldable pub under : Tree
under = record {
  exprs = reference 0 ∷ reference 1 ∷ bin_op details.Equal 0 1 ∷ reference 0 ∷ owner kinds.With (child 3 ∷ child 2 ∷ []) ∷ lambda 0 4 ∷ [];
  names = name 0 name_kinds.Param ∷ [];
  texts = bytes "x" ∷ bytes "null" ∷ [];
  entry = 5;
}

-- isNull x: the References 3, 4, 5, 6 are spelt isNull and lead through 1, 2, 3, 4 names, all spelt so, to `builtins.is_null`, the Select 2
unfoldable pub aliased : Tree
aliased = record {
  exprs = reference 1 ∷ string 0 ∷ select 0 1 ∷ reference 0 ∷ reference 0 ∷ reference 0 ∷ reference 0 ∷ reference 2 ∷ apply 5 7 ∷ apply 6 7 ∷ [];
  names = name 2 name_kinds.Param ∷ name 0 name_kinds.LetIn ∷ name 0 name_kinds.LetIn ∷ name 0 name_kinds.LetIn ∷ name 0 name_kinds.LetIn ∷ [];
  texts = bytes "isNull" ∷ bytes "builtins" ∷ bytes "x" ∷ [];
  entry = 9;
}

-- "given tables lead through three names, all spelt isNull, to `builtins.is_null`, whose `builtins` has tag 2 and value 2"
unfoldable pub leading : Tables
leading = record {
  index = λ n. pick n ((1, Some 2) ∷ (2, Some 3) ∷ (3, Some 4) ∷ (4, Some 5) ∷ []) None;
  resolution = λ e.
      pick e ((0, builtin 2) ∷ (3, definition 1) ∷ (4, definition 2) ∷ (5, definition 3) ∷ (6, definition 4) ∷ (7, definition 0) ∷ []) unresolved;
}

-- x: let NAME = builtins.isNull; in NAME x, in a role, with the items behind it and with the text of the name (0 isNull, 3 y)
unfoldable pub renamed : ℕ → List Item → ℕ → Tree
renamed r is n = record {
  exprs = reference 1 ∷ string 0 ∷ select 0 1 ∷ reference n ∷ reference 2 ∷ apply 3 4 ∷ owner kinds.LetIn (item r 1 2 ∷ is ++ child 5 ∷ []) ∷ lambda 0 6
      ∷ [];
  names = name 2 name_kinds.Param ∷ name n name_kinds.LetIn ∷ [];
  texts = bytes "isNull" ∷ bytes "builtins" ∷ bytes "x" ∷ bytes "y" ∷ [];
  entry = 7;
}

-- a case over a tree's own tables
unfoldable pub owned : Tree → ℕ → List (ℕ × ℕ × ℕ) → List (ℕ × ℕ × ℕ) → Case
owned t c a b = record { tree = t; tables = own t; condition = c; thens = a; elses = b }

-- "Marked * are proved, as a table of cases under one theorem."
unfoldable pub starred : List Case
starred =
    owned conditions 2 ((0, sorts.IsType, types.Null) ∷ []) ((0, sorts.IsNotType, types.Null) ∷ [])  -- "x == null: IsType Null; IsNotType Null"
    ∷ owned conditions 3 ((0, sorts.IsNotType, types.Null) ∷ []) ((0, sorts.IsType, types.Null) ∷ [])  -- "null != x: the reverse"
    ∷ owned conditions 5 ((0, sorts.IsNumber, 0) ∷ []) []  -- document 02, order 5: "The case x == 1 changes to match": IsNumber; none
    ∷ owned conditions 7 [] ((0, sorts.IsType, types.String) ∷ [])  -- "x != "a": none; String"
    ∷ owned conditions 10 ((0, sorts.NotHasField, 3) ∷ []) ((0, sorts.HasField, 3) ∷ [])  -- "!(x ? f): NotHasField; HasField"
    ∷ owned conditions 12 [] []  -- "x ? a.b: none"
    ∷ owned conditions 20 ((0, sorts.IsType, types.Null) ∷ (1, sorts.IsList, 0) ∷ []) []  -- "isNull x && builtins.isList y: both, in order; none"
    ∷ owned conditions 21 [] ((0, sorts.IsNotType, types.Null) ∷ (0, sorts.IsNotType, types.Null) ∷ [])  -- "x == null || x == null: none; two records"
    ∷ record { tree = aliased; tables = leading; condition = 8; thens = (0, sorts.IsType, types.Null) ∷ []; elses = (0, sorts.IsNotType, types.Null) ∷ [] }  -- "through three names ..: found"
    ∷ record { tree = aliased; tables = leading; condition = 9; thens = []; elses = [] }  -- "through four: none"
    ∷ owned shadowed 2 [] []  -- "null locally defined, x == null: none"
    ∷ owned conditions 25 ((0, sorts.IsType, types.String) ∷ []) ((0, sorts.IsNotType, types.String) ∷ [])  -- "foo.isString x: String; not String"
    ∷ []

-- Cases that document 01 does not mark.
unfoldable pub further : List Case
further =
    owned conditions 19 ((1, sorts.IsList, 0) ∷ []) []  -- builtins.isList y: IsList; none
    ∷ owned rewritten 8 ((0, sorts.IsNotType, types.Null) ∷ (1, sorts.IsNotType, types.Null) ∷ []) []  -- !(a || b)
    ∷ owned rewritten 9 ((0, sorts.IsNotType, types.Null) ∷ (1, sorts.IsNotType, types.Null) ∷ []) []  -- !a && !b
    ∷ owned rewritten 11 [] ((0, sorts.IsType, types.Null) ∷ (1, sorts.IsType, types.Null) ∷ [])  -- !(a && b)
    ∷ owned rewritten 12 [] ((0, sorts.IsType, types.Null) ∷ (1, sorts.IsType, types.Null) ∷ [])  -- !a || !b
    ∷ owned rewritten 13 ((0, sorts.IsType, types.Null) ∷ []) ((0, sorts.IsNotType, types.Null) ∷ [])  -- !(!a)
    ∷ owned rewritten 14 [] ((0, sorts.IsType, types.Null) ∷ (1, sorts.IsNotType, types.Null) ∷ [])  -- a -> b
    ∷ owned rewritten 15 [] ((0, sorts.IsType, types.Null) ∷ (1, sorts.IsNotType, types.Null) ∷ [])  -- !a || b
    ∷ owned rewritten 16 ((0, sorts.IsType, types.Null) ∷ (1, sorts.IsNotType, types.Null) ∷ []) []  -- !(a -> b)
    ∷ owned rewritten 17 ((0, sorts.IsType, types.Null) ∷ (1, sorts.IsNotType, types.Null) ∷ []) []  -- a && !b
    ∷ owned measured 2 [] ((0, sorts.IsNumber, 0) ∷ [])  -- x != 1.5: none; IsNumber
    ∷ owned measured 4 [] ((0, sorts.IsNumber, 0) ∷ [])  -- 1.0 != x: none; IsNumber
    ∷ owned measured 8 ((0, sorts.IsType, types.Int) ∷ []) ((0, sorts.IsNotType, types.Int) ∷ [])  -- foo.isInt x: Int; not Int
    ∷ owned measured 11 ((0, sorts.IsType, types.Float) ∷ []) ((0, sorts.IsNotType, types.Float) ∷ [])  -- foo.isFloat x: Float; not Float
    ∷ owned under 2 ((0, sorts.IsType, types.Null) ∷ []) ((0, sorts.IsNotType, types.Null) ∷ [])  -- a With does not shadow null
    ∷ owned (renamed roles.StaticExpr [] 0) 5 ((0, sorts.IsType, types.Null) ∷ []) ((0, sorts.IsNotType, types.Null) ∷ [])  -- an alias by a static Expr
    ∷ owned (renamed roles.InheritFrom (item roles.InheritBase none_number 0 ∷ []) 0) 5 ((0, sorts.IsType, types.Null) ∷ [])
    ((0, sorts.IsNotType, types.Null) ∷ [])  -- by an InheritFrom, whose `builtins` is the InheritBase: inherit (builtins) isNull
    ∷ owned (renamed roles.InheritFrom [] 0) 5 [] []  -- by an InheritFrom alone: no visit reaches its `builtins`, so nothing resolves it
    ∷ owned (renamed roles.StaticExpr [] 3) 5 [] []  -- under another name: none
    ∷ []

-- the lists that the definitions give
unfoldable pub lists : Case → List (ℕ × ℕ × ℕ) × List (ℕ × ℕ × ℕ)
lists c = (map coded (analyze c.tree c.tables true c.condition), map coded (analyze c.tree c.tables false c.condition))

-- each case of a table has its lists
abbrev pub Hold : List Case → Type 0
Hold cs = map lists cs ≡ map (λ c. (c.thens, c.elses)) cs
