-- How a model that is written down as two lists of values is shown to meet the premises: law by law, expression by expression.
use Rattle.std.specs.Prelude.{Option, Some, None}
use mathlib.Core.Path.{◌≡◌, refl, ap, sym, subst, ◌∙◌}
use mathlib.Core.Bool.{Bool, false}
use mathlib.Core.List.{List, [], ◌∷◌}
use Prim.Native.Nat.{ℕ, zero, suc}
use native.Mathlib.Omega.{arith}
use lib.ListN.{get_or}
use Rattle.semantics.specs.Base.{Given}
use Rattle.semantics.specs.Tree.{Text, Tree, bytes, same}
use Rattle.semantics.specs.Words.{Sort, Null, same_sort, predicate}
use Rattle.semantics.specs.Resolution.{Tables}
use Rattle.semantics.specs.Values.{Builtin, test, has_attr, has_attr_of, Value, function, set, builtin, Model}
use Rattle.semantics.specs.Premises.{Names, Gives}
use Rattle.semantics.proofs.BaseLaws.{true≢false, clash, some_inj, of}
use Rattle.semantics.proofs.NarrowLaws.{same_sort-refl}
use Rattle.semantics.proofs.Compute.{computed}

-- a law of each value in a list, by its place
abbrev pub Rows : (ℕ → Value → Type 0) → List (Option Value) → Type 0
Rows P [] = Unit {0}
Rows P (x ∷ r) = Given x (P 0) × Rows (λ e. P (suc e)) r

pub by_rows : (P : ℕ → Value → Type 0) (rows : List (Option Value)) → Rows P rows → (e : ℕ) (v : Value) → get_or rows e None ≡ Some v → P e v
by_rows P [] r e v h = absurd (clash h)
by_rows P (x ∷ rows) r zero v h = of (P 0) x r.0 h
by_rows P (x ∷ rows) r (suc e) v h = by_rows (λ e. P (suc e)) rows r.1 e v h

-- one row and the rows after it
infixr 5 ◌also◌
pub ◌also◌ : {A B : Type 0} → A → B → A × B
a also b = (a, b)

builtin_inj : {a b : Builtin} → builtin a ≡ builtin b → a ≡ b
builtin_inj h = cc

-- a text that names no built-in function, and isNull
pub names-none : (x : Text) → predicate x ≡ None → same x (bytes "hasAttr") ≡ false → (v : Value) (β : Builtin) → Names x β → v ≡ builtin β
names-none x p q v (test s) h = absurd (clash (sym p ∙ h))
names-none x p q v has_attr h = absurd (true≢false h q)
names-none x p q v (has_attr_of k) h = absurd h

pub is_null_named : (β : Builtin) → Names (bytes "isNull") β → builtin (test Null) ≡ builtin β
unfolding computed
is_null_named (test s) h = ap (λ z. builtin (test z)) (some_inj h)
is_null_named has_attr h = absurd (true≢false refl (sym h))
is_null_named (has_attr_of x) h = absurd h

-- nothing is asked of a condition that is none of the operators
pub nothing_asked : (o : Option Bool) → Given o (λ b. Unit {0})
nothing_asked None = tt
nothing_asked (Some b) = tt

-- what a call of a known built-in function gives
pub given_by : (t : Tree) (tab : Tables) (m : Model) (γ : Builtin) (a : ℕ) (w : Value) → Gives t tab m γ a w → (β : Builtin) → builtin γ ≡ builtin β →
    Gives t tab m β a w
given_by t tab m γ a w g β h = subst (λ z. Gives t tab m z a w) (builtin_inj h) g

-- another function, and a set, is no built-in function
pub function-none : (β : Builtin) → function ≡ builtin β → ⊥
function-none β h = let z : ◌≡◌ {A = ℕ} 0 1 = cc in omega arith

pub set-none : (ks : List Text) (β : Builtin) → set ks ≡ builtin β → ⊥
set-none ks β h = let z : ◌≡◌ {A = ℕ} 0 1 = cc in omega arith

-- two sorts
pub different : {a b : Sort} → same_sort a b ≡ false → a ≡ b → ⊥
different {a} q h = true≢false (same_sort-refl a) (rw (← h) at q)
