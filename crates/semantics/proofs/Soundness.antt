-- Demand 3 proved: where each guard around a visit came out the way that leads there, each narrowing in force there is true.
use Rattle.std.specs.Prelude.{Some}
use mathlib.Core.Path.{◌≡◌, refl, sym, ap, subst, ◌∙◌}
use mathlib.Core.Bool.{Bool, true, false, not, cond}
use mathlib.Core.Logic.{◌⊎◌, inl, inr, ⊎_elim}
use mathlib.Core.List.{List}
use Prim.Native.Nat.{ℕ, zero, suc}
use Rattle.semantics.specs.Base.{only, or_else, All, ◌>>=◌}
use Rattle.semantics.specs.Tree.{Text, Tree, bytes, same, text_at, is_kind, reference, apply, string as string_literal}
use Rattle.semantics.specs.Words.{Sort, Null, same_sort, number, predicate}
use Rattle.semantics.specs.Resolution.{Tables, own}
use Rattle.semantics.specs.Narrow.{Test, is, numeric, has, Narrowing, Condition, equal, not_equal, and, or, implies, call, has_key, invert, opaque, shape}
use Rattle.semantics.specs.Narrow.{singleton, literal_test, literal_tells, test_tells, narrowing, local_name, global_name, literal_sort, builtins_key, chain_key, alias_depths, callee_in}
use Rattle.semantics.specs.Narrow.{callee_name, has_attr_call, tests, literal_comparison, compared, node, analyze_in, analyze}
use Rattle.semantics.specs.Walk.{guards}
use Rattle.semantics.specs.Values.{Builtin, test, has_attr, has_attr_of, Value, bool, set, builtin, sort, outcome, passed}
use Rattle.semantics.specs.Values.{Model, TrueIn, CameOut}
use Rattle.semantics.specs.Premises.{Names, called, Allowed, Compared, Outcome, Gives, Called, Indexed, Agrees}
use Rattle.semantics.specs.Points.{told}
use Rattle.semantics.specs.Soundness.{SoundWith, ConditionSound, Sound}
use Rattle.semantics.proofs.BaseLaws.{true≢false, clash, some_inj, only-some, either, after, then, of, pick_first}
use Rattle.semantics.proofs.BaseLaws.{All-++, All-found, All-at, All_of, All_each'}
use Rattle.semantics.proofs.NarrowLaws.{same_sort-refl, null_is, not_null, narrowing-all, test-told}
use Rattle.semantics.proofs.ChainLaws.{builtins-last}
use Rattle.semantics.proofs.PointLaws.{in_force_lem}
use Rattle.semantics.proofs.NodeLaws.{True, outcome-is, node-true}

module _ (t : Tree) (tab : Tables) (m : Model) (ok : Agrees t tab m) where
  -- the lists of a condition are true, by the way that it came out
  analyze_in-true : (k : ℕ) (b : Bool) (c : ℕ) → m.expr c ≡ Some (bool b) → All (True t tab m ok) (analyze_in t tab k b c)
  unfolding analyze_in
  analyze_in-true zero b c h = tt
  analyze_in-true (suc k) b c h = node-true t tab m ok (analyze_in t tab k) (analyze_in-true k) c b (shape t c) refl h (outcome-is t tab m ok c b h)

  analyze-true : (b : Bool) (c : ℕ) → m.expr c ≡ Some (bool b) → All (True t tab m ok) (analyze t tab b c)
  unfolding analyze
  analyze-true b c h = analyze_in-true (suc c) b c h

-- what is in force is what the guards tell, and each tells the truth if it came out
pub sound_with : SoundWith
unfolding told
sound_with t tab m ok v hv hg r hr =
    All-at (TrueIn t m) v.in_force
    (subst (All (TrueIn t m)) (sym (in_force_lem t tab v hv))
    (All_each' (TrueIn t m) (CameOut m) (told t tab) (guards t tab v) (All_of (CameOut m) (guards t tab v) hg) λ g c.
    analyze-true t tab m ok g.outcome g.condition c))
    hr

pub condition-sound : ConditionSound
condition-sound t tab m ok b c h r i = All-at (TrueIn t m) (analyze t tab b c) (analyze-true t tab m ok b c h) i

pub sound : Sound
sound t m ok = sound_with t (own t) m ok
