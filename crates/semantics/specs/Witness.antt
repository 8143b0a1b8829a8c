-- Demand 3 says something: its premises can be met, and without the guards it is false (proofs/Witness.antt).
use Rattle.std.specs.Prelude.{◌≡◌, Bool, true, false, List, [], ◌∷◌, get_or, Option, Some, None}
use Rattle.semantics.specs.Codes.{kinds, details, name_kinds}
use Rattle.semantics.specs.Base.{◌∈◌}
use Rattle.semantics.specs.Tree.{Tree, bytes}
use Rattle.semantics.specs.Words.{Null}
use Rattle.semantics.specs.Resolution.{Tables, own}
use Rattle.semantics.specs.Narrow.{is, has, Narrowing}
use Rattle.semantics.specs.Walk.{Guard, Visit, guards, walk}
use Rattle.semantics.specs.Values.{test, has_attr, has_attr_of, Value, null, integer, string, function, bool, set, builtin, Model, TrueIn, CameOut}
use Rattle.semantics.specs.Premises.{Agrees}
use Rattle.semantics.specs.Cases.{child, owner, reference, bin_op, not, apply, select, lambda, let_in, name, string as string_literal}

-- x: let isNull = builtins.isNull; in if isNull x && !(builtins.hasAttr "f" x) && x == null then x else x; names x 0, isNull 1
unfoldable pub guarded : Tree
guarded = record {
  exprs = reference 0 ∷ reference 2 ∷ string_literal 1 ∷ select 1 2  -- 0 x, 1 builtins, 3 builtins.isNull
      ∷ reference 1 ∷ apply 4 0  -- 4 isNull, 5 isNull x
      ∷ string_literal 3 ∷ select 1 6 ∷ string_literal 4 ∷ apply 7 8 ∷ apply 9 0  -- 7 builtins.hasAttr, 9 hasAttr "f", 10 hasAttr "f" x
      ∷ not 10 ∷ bin_op details.And 5 11  -- 11 !, 12 &&
      ∷ reference 5 ∷ bin_op details.Equal 0 13 ∷ bin_op details.And 12 14  -- 13 null, 14 x == null, 15 &&
      ∷ owner kinds.IfThenElse (child 15 ∷ child 0 ∷ child 0 ∷ []) ∷ let_in 1 3 16 ∷ lambda 0 17 ∷ [];  -- 16 if, 17 let, 18 the function
  names = name 0 name_kinds.Param ∷ name 1 name_kinds.LetIn ∷ [];
  texts = bytes "x" ∷ bytes "isNull" ∷ bytes "builtins" ∷ bytes "hasAttr" ∷ bytes "f" ∷ bytes "null" ∷ [];
  entry = 18;
}

-- the visit of the then branch, with three narrowings in force: x is null, x is no set that holds f, x is null
unfoldable pub then_branch : Visit
then_branch = record {
  expr = 0;
  binding = None;
  opens = false;
  way = (18, 1) ∷ (17, 1) ∷ (16, 1) ∷ [];
  in_force = record { name = 0; test = is Null; passes = true } ∷ record { name = 0; test = has 4; passes = false }
      ∷ record { name = 0; test = is Null; passes = true } ∷ [];
}

-- The values of the names and of the expressions where x has a value v, which is no set that holds f, and the condition comes out as b.
unfoldable pub names_at : Value → List (Option Value)
names_at v = Some v ∷ Some (builtin (test Null)) ∷ []

-- of the expressions
unfoldable pub values_at : Value → Bool → List (Option Value)
values_at v b =
    Some v ∷ Some (set (bytes "isNull" ∷ bytes "hasAttr" ∷ [])) ∷ Some string ∷ Some (builtin (test Null)) ∷ Some (builtin (test Null)) ∷ Some (bool b)
    ∷ Some string ∷ Some (builtin has_attr) ∷ Some string ∷ Some (builtin (has_attr_of (bytes "f"))) ∷ Some (bool false) ∷ Some (bool true) ∷ Some (bool b)
    ∷ Some null ∷ Some (bool b) ∷ Some (bool b) ∷ Some v ∷ Some v ∷ Some function ∷ []

-- that model
unfoldable pub model_at : Value → Bool → Model
model_at v b = record { name = λ n. get_or (names_at v) n None; expr = λ e. get_or (values_at v b) e None }

-- x is null, and the condition true
unfoldable pub at_null : Model
at_null = model_at null true

-- x is an integer, and the condition false
unfoldable pub at_integer : Model
at_integer = model_at integer false

-- The premises can be met at a visit that has a guard, which came out the way that leads there, and narrowings in force.
pub record Met : Type 0 where
  pub agrees : Agrees guarded (own guarded) at_null
  pub visited : then_branch ∈ walk guarded (own guarded)
  pub one_guard : guards guarded (own guarded) then_branch ≡ record { condition = 15; outcome = true } ∷ []
  pub came_out : (g : Guard) → g ∈ guards guarded (own guarded) then_branch → CameOut at_null g

-- what demand 3 would say if it did not ask how the guards came out
abbrev pub Unguarded : Tree → Tables → Model → Type 0
Unguarded t tab m = (v : Visit) → v ∈ walk t tab → (r : Narrowing) → r ∈ v.in_force → TrueIn t m r

-- That is false: the premises are met, the guard did not come out that way, and x is not null in the then branch.
pub record Needed : Type 0 where
  pub agrees : Agrees guarded (own guarded) at_integer
  pub fails : Unguarded guarded (own guarded) at_integer → ⊥
