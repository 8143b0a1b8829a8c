-- Cases of document 02, order 2, "a profile with its own `builtins`": what selections from it tell, and which calls are recognised (proofs/OwnBuiltins.antt).
use Rattle.std.specs.Prelude.{◌≡◌, true, false, List, [], ◌∷◌, ◌++◌, map, ℕ, ◌+◌, length, Option, Some, None}
use Rattle.semantics.specs.Codes.{none_number, kinds, details, roles, name_kinds, sorts, types}
use Rattle.semantics.specs.Base.{pick}
use Rattle.semantics.specs.Tree.{Text, Expr, Tree, bytes}
use Rattle.semantics.specs.Resolution.{Tables, Resolution, unresolved, definition, builtin, within, own}
use Rattle.semantics.specs.Narrow.{coded, analyze}
use Rattle.semantics.specs.Walk.{condition_at}
use Rattle.semantics.specs.Points.{NothingInForce}
use Rattle.semantics.specs.Cases.{item, child, key, expr, owner, reference, string, integer, bin_op, apply, select, lambda, let_in, name}

-- x: .. [ .. ], where SET is spelt so, and what stands around the list begins at expression 28; names x 0, SET 1, y 2
unfoldable pub asking : Text → List Expr → Tree
asking set around = record {
  exprs = (reference 0 ∷ reference 1 ∷ string 2 ∷ select 1 2 ∷ apply 3 0  -- 4 SET.isNull x
      ∷ string 3 ∷ owner kinds.Select (child 1 ∷ key 5 ∷ key 2 ∷ []) ∷ apply 6 0  -- 7 SET.f.isNull x
      ∷ select 1 5 ∷ select 8 2 ∷ apply 9 0  -- 10 (SET.f).isNull x
      ∷ string 4 ∷ select 1 11 ∷ apply 12 5 ∷ apply 13 0  -- 14 SET.hasAttr "f" x
      ∷ reference 5 ∷ bin_op details.Equal 0 15 ∷ string 6 ∷ select 1 17 ∷ apply 18 16 ∷ apply 19 0  -- 20 SET.optional (x == null) x
      ∷ owner kinds.Select (child 1 ∷ key 5 ∷ key 17 ∷ []) ∷ apply 21 16 ∷ apply 22 0  -- 23 SET.f.optional (x == null) x
      ∷ select 8 17 ∷ apply 24 16 ∷ apply 25 0  -- 26 (SET.f).optional (x == null) x
      ∷ owner kinds.List (map child (4 ∷ 7 ∷ 10 ∷ 14 ∷ 20 ∷ 23 ∷ 26 ∷ [])) ∷ []) ++ around ++ lambda 0 (27 + length around) ∷ [];
  names = name 0 name_kinds.Param ∷ name 1 name_kinds.LetIn ∷ name 7 name_kinds.LetIn ∷ [];
  texts = bytes "x" ∷ set ∷ bytes "isNull" ∷ bytes "f" ∷ bytes "hasAttr" ∷ bytes "null" ∷ bytes "optional" ∷ bytes "y" ∷ [];
  entry = 28 + length around;
}

-- What one of these trees gives: the lists of its four conditions, and the condition of each of its three calls.
pub record Reading : Type 0 where
  pub lists : List (List (ℕ × ℕ × ℕ) × List (ℕ × ℕ × ℕ))
  pub calls : List (Option ℕ)

unfoldable pub reading : Tree → Tables → Reading
reading t tab = record {
  lists = map (λ c. (map coded (analyze t tab true c), map coded (analyze t tab false c))) (4 ∷ 7 ∷ 10 ∷ 14 ∷ []);
  calls = map (condition_at t tab) (20 ∷ 23 ∷ 26 ∷ []);
}

-- that x is null, or is not; that it has the field f, or has not; nothing
unfoldable pub null_told : List (ℕ × ℕ × ℕ) × List (ℕ × ℕ × ℕ)
null_told = ((0, sorts.IsType, types.Null) ∷ [], (0, sorts.IsNotType, types.Null) ∷ [])

unfoldable pub field_told : List (ℕ × ℕ × ℕ) × List (ℕ × ℕ × ℕ)
field_told = ((0, sorts.HasField, 3) ∷ [], (0, sorts.NotHasField, 3) ∷ [])

unfoldable pub nothing_told : List (ℕ × ℕ × ℕ) × List (ℕ × ℕ × ℕ)
nothing_told = ([], [])

-- SET is the builtin: "other chains keep both"
unfoldable pub from_builtins : Reading
from_builtins = record { lists = null_told ∷ null_told ∷ null_told ∷ field_told ∷ []; calls = Some 16 ∷ Some 16 ∷ Some 16 ∷ [] }

-- SET is "a reference of that text not so resolved": only the chain whose set is itself a selection keeps its last key
unfoldable pub from_another : Reading
from_another = record { lists = nothing_told ∷ nothing_told ∷ null_told ∷ nothing_told ∷ []; calls = None ∷ None ∷ Some 16 ∷ [] }

-- SET has another text: last keys count, and it is no callee
unfoldable pub from_other : Reading
from_other = record { lists = null_told ∷ null_told ∷ null_told ∷ nothing_told ∷ []; calls = Some 16 ∷ Some 16 ∷ Some 16 ∷ [] }

-- given tables in which x is itself and SET resolves so
unfoldable pub given : Resolution → Tables
given r = record { index = λ n. None; resolution = λ e. pick e ((0, definition 0) ∷ (1, r) ∷ []) unresolved }

-- with x; ..
unfoldable pub under_with : List Expr
under_with = owner kinds.With (child 0 ∷ child 27 ∷ []) ∷ []

-- a tree with its own tables and what it gives
unfoldable pub own_tables : Text → List Expr → Reading → (Tree × Tables) × Reading
own_tables set around r = ((asking set around, own (asking set around)), r)

-- a tree with given tables and what it gives
unfoldable pub given_tables : Text → List Expr → Resolution → Reading → (Tree × Tables) × Reading
given_tables set around e r = ((asking set around, given e), r)

-- the ways in which `builtins` may be defined, or not, and in which given tables may resolve it
unfoldable pub own_builtins : List ((Tree × Tables) × Reading)
own_builtins =
    own_tables (bytes "builtins") [] from_builtins  -- nowhere
    ∷ own_tables (bytes "builtins") under_with from_builtins  -- a With does not shadow it
    ∷ own_tables (bytes "builtins") (let_in 1 0 27 ∷ []) from_another  -- let builtins = x; in ..
    ∷ own_tables (bytes "builtins") (lambda 1 27 ∷ []) from_another  -- builtins: ..
    ∷ own_tables (bytes "builtins") (reference 1 ∷ owner kinds.LetIn (item roles.Inherit 1 28 ∷ child 27 ∷ []) ∷ []) from_another  -- let inherit builtins; in ..
    ∷ own_tables (bytes "builtins")
    (string 1 ∷ select 0 28 ∷ owner kinds.LetIn (item roles.InheritFrom 1 29 ∷ item roles.InheritBase none_number 0 ∷ child 27 ∷ []) ∷ [])
    from_another  -- let inherit (x) builtins; in ..
    ∷ own_tables (bytes "builtins")
    (expr kinds.AttrSet details.Rec none_number (item roles.StaticExpr 1 0 ∷ item roles.StaticExpr 2 27 ∷ []) ∷ [])
    from_another  -- rec { builtins = x; y = ..; }
    ∷ given_tables (bytes "builtins") [] (builtin 2) from_builtins
    ∷ given_tables (bytes "builtins") [] (builtin 3) from_another
    ∷ given_tables (bytes "builtins") under_with (within 28) from_another
    ∷ given_tables (bytes "builtins") [] unresolved from_another
    ∷ own_tables (bytes "foo") [] from_other
    ∷ given_tables (bytes "foo") [] (builtin 2) from_other
    ∷ []

-- each of them gives that
abbrev pub Read : List ((Tree × Tables) × Reading) → Type 0
Read rs = map (λ r. reading r.0.0 r.0.1) rs ≡ map (λ r. r.1) rs

-- let builtins = { isString = q: true; }; x = 1; in if builtins.isString x then x else 0
unfoldable pub untrue : Tree
untrue = record {
  exprs = reference 0 ∷ lambda 0 0 ∷ owner kinds.AttrSet (item roles.StaticExpr 1 1 ∷ []) ∷ integer  -- 2 { isString = q: true; }, 3 1
      ∷ reference 1 ∷ string 2 ∷ select 4 5 ∷ reference 3 ∷ apply 6 7  -- 8 builtins.isString x
      ∷ reference 3 ∷ integer ∷ owner kinds.IfThenElse (child 8 ∷ child 9 ∷ child 10 ∷ [])
      ∷ owner kinds.LetIn (item roles.StaticExpr 2 2 ∷ item roles.StaticExpr 3 3 ∷ child 11 ∷ []) ∷ [];
  names = name 4 name_kinds.Param ∷ name 2 name_kinds.PlainAttrset ∷ name 1 name_kinds.LetIn ∷ name 3 name_kinds.LetIn ∷ [];
  texts = bytes "true" ∷ bytes "builtins" ∷ bytes "isString" ∷ bytes "x" ∷ bytes "q" ∷ [];
  entry = 12;
}

-- there x is no string, though the guard comes out true: nothing may be in force
abbrev pub NothingUntrue : Type 0
NothingUntrue = NothingInForce untrue
