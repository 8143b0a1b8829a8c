-- The two models of specs/Witness.antt meet the premises.
use mathlib.Core.Path.{◌≡◌, refl, ap, sym, subst}
use mathlib.Core.Bool.{Bool, true, false}
use mathlib.Core.Logic.{inl}
use mathlib.Core.List.Memᴰ
use mathlib.Core.List.{List, [], ◌∷◌}
use Prim.Native.Nat.{ℕ, zero, suc, ◌<◌}
use native.Mathlib.Omega.{arith}
use lib.ListN.{length, get_or}
use Rattle.semantics.specs.Base.{Given, ◌∈◌}
use Rattle.semantics.specs.Tree.{bytes}
use Rattle.semantics.specs.Words.{Null, same_sort}
use Rattle.semantics.specs.Resolution.{own}
use Rattle.semantics.specs.Narrow.{Narrowing, is, and}
use Rattle.semantics.specs.Walk.{Guard, guards, walk}
use Rattle.semantics.specs.Values.{test, has_attr, has_attr_of, Value, null, integer, bool, builtin, sort, holds, outcome, Model, TrueIn, CameOut}
use Rattle.semantics.specs.Premises.{Allowed, Outcome, Gives, Laws, Indexed, Agrees}
use Rattle.semantics.specs.Witness.{guarded, then_branch, names_at, values_at, model_at, at_null, at_integer, Met, Needed}
use Rattle.semantics.proofs.BaseLaws.{true≢false, some_inj, All-at}
use Rattle.semantics.proofs.ModelLaws.{Rows, by_rows, ◌also◌, names-none, nothing_asked, given_by, different}
use Rattle.semantics.proofs.Cases.{computed_Cases}
use Rattle.semantics.proofs.Soundness.{sound}

-- what stands at a place of a list is in it
placed : {A : Type 0} (l : List A) (k : ℕ) (d : A) {a : A} → k < length l → get_or l k d ≡ a → a ∈ l
placed [] k d h e = absurd (omega arith)
placed (x ∷ l) zero d h e = Memᴰ.head (sym e)
placed (x ∷ l) (suc k) d h e = let m : k < length l = omega arith in Memᴰ.tail (placed l k d m e)

module _ (v : Value) (b : Bool) (null? : b ≡ same_sort (sort v) Null) (keyless : holds (102 ∷ []) v ≡ false)
    (equals : Allowed b v null) where
  abbrev model : Model
  model = model_at v b

  -- && is true if both parts are
  both : (b : Bool) → Outcome guarded (own guarded) (model_at v b) (and 5 11) b × Outcome guarded (own guarded) (model_at v b) (and 12 14) b
  unfolding model_at values_at
  both true = ((refl, refl), (refl, refl))
  both false = (tt, tt)

  null-given : Gives guarded (own guarded) model (test Null) 0 (bool b)
  unfolding model_at values_at
  null-given = (v, refl, ap bool null?)

  key-given : Gives guarded (own guarded) model has_attr 8 (builtin (has_attr_of (102 ∷ [])))
  unfolding guarded computed_Cases
  key-given = refl

  has-given : Gives guarded (own guarded) model (has_attr_of (102 ∷ [])) 0 (bool false)
  unfolding model_at values_at
  has-given = (v, refl, ap bool (sym keyless))

  laws : Rows (Laws guarded (own guarded) model) (values_at v b)
  unfolding guarded model_at names_at values_at computed_Cases
  laws =
      record { names = refl; builtins = tt; literals = tt; predicates = tt; has_attrs = tt; calls = tt; operators = nothing_asked (outcome v) }
      also record { names = tt; builtins = names-none (bytes "builtins") refl refl _; literals = tt; predicates = tt; has_attrs = tt; calls = tt; operators = tt }
      also record { names = tt; builtins = tt; literals = refl; predicates = tt; has_attrs = tt; calls = tt; operators = tt }
      also record { names = tt; builtins = tt; literals = tt; predicates = refl; has_attrs = λ h. absurd (true≢false refl (sym h)); calls = tt; operators = tt }
      also record { names = refl; builtins = tt; literals = tt; predicates = tt; has_attrs = tt; calls = tt; operators = tt }
      also record {
        names = tt;
        builtins = tt;
        literals = tt;
        predicates = tt;
        has_attrs = tt;
        calls = (builtin (test Null), refl, given_by guarded (own guarded) model (test Null) 0 (bool b) null-given);
        operators = tt;
      }
      also record { names = tt; builtins = tt; literals = refl; predicates = tt; has_attrs = tt; calls = tt; operators = tt }
      also record { names = tt; builtins = tt; literals = tt; predicates = tt; has_attrs = λ h. refl; calls = tt; operators = tt }
      also record { names = tt; builtins = tt; literals = refl; predicates = tt; has_attrs = tt; calls = tt; operators = tt }
      also record {
        names = tt;
        builtins = tt;
        literals = tt;
        predicates = tt;
        has_attrs = tt;
        calls = (builtin has_attr, refl, given_by guarded (own guarded) model has_attr 8 _ key-given);
        operators = tt;
      }
      also record {
        names = tt;
        builtins = tt;
        literals = tt;
        predicates = tt;
        has_attrs = tt;
        calls = (builtin (has_attr_of (102 ∷ [])), refl, given_by guarded (own guarded) model (has_attr_of (102 ∷ [])) 0 (bool false) has-given);
        operators = tt;
      }
      also record { names = tt; builtins = tt; literals = tt; predicates = tt; has_attrs = tt; calls = tt; operators = refl }
      also record { names = tt; builtins = tt; literals = tt; predicates = tt; has_attrs = tt; calls = tt; operators = (both b).0 }
      also record { names = tt; builtins = names-none (bytes "null") refl refl _; literals = refl; predicates = tt; has_attrs = tt; calls = tt; operators = tt }
      also record { names = tt; builtins = tt; literals = tt; predicates = tt; has_attrs = tt; calls = tt; operators = (v, null, refl, refl, equals) }
      also record { names = tt; builtins = tt; literals = tt; predicates = tt; has_attrs = tt; calls = tt; operators = (both b).1 }
      also record { names = tt; builtins = tt; literals = tt; predicates = tt; has_attrs = tt; calls = tt; operators = nothing_asked (outcome v) }
      also record { names = tt; builtins = tt; literals = tt; predicates = tt; has_attrs = tt; calls = tt; operators = nothing_asked (outcome v) }
      also record { names = tt; builtins = tt; literals = tt; predicates = tt; has_attrs = tt; calls = tt; operators = tt }
      also tt

  -- of the two names isNull is indexed
  indexed : Rows (λ n w. Given ((own guarded).index n) (Indexed guarded (own guarded) model w)) (names_at v)
  unfolding guarded model_at names_at values_at computed_Cases
  indexed = tt also inl refl also tt

  agrees : Agrees guarded (own guarded) model
  unfolding model_at
  agrees = record {
    exprs = by_rows (Laws guarded (own guarded) model) (values_at v b) laws;
    names = by_rows (λ n w. Given ((own guarded).index n) (Indexed guarded (own guarded) model w)) (names_at v) indexed;
  }

-- the visit of the then branch is the last but one
visited : then_branch ∈ walk guarded (own guarded)
unfolding then_branch guarded computed_Cases
visited = placed (walk guarded (own guarded)) 22 then_branch (omega arith) refl

came_out_lem : (g : Guard) → g ∈ guards guarded (own guarded) then_branch → CameOut at_null g
unfolding then_branch guarded at_null model_at values_at computed_Cases
came_out_lem g h = All-at (CameOut at_null) (guards guarded (own guarded) then_branch) (refl, tt) h

pub met : Met
unfolding then_branch guarded at_null computed_Cases
met = record { agrees = agrees null true refl refl (inl refl); visited = visited; one_guard = refl; came_out = came_out_lem }

-- so the three narrowings are true of x
pub narrowed : (r : Narrowing) → r ∈ then_branch.in_force → TrueIn guarded at_null r
narrowed = sound guarded at_null met.agrees then_branch met.visited met.came_out

not_null : TrueIn guarded at_integer (record { name = 0; test = is Null; passes = true }) → ⊥
unfolding guarded at_integer model_at names_at computed_Cases
not_null h = true≢false h.2 (subst (λ z. same_sort (sort z) Null ≡ false) (some_inj h.1) refl)

pub needed : Needed
unfolding at_integer then_branch computed_Cases
needed = record {
  agrees = agrees integer false refl refl (λ h k. different refl h);
  fails = λ u. not_null (u then_branch visited (record { name = 0; test = is Null; passes = true }) (Memᴰ.head refl));
}
