-- What a resolution leads to is there: a name of the tree, a place among the builtins, a With.
use Rattle.std.specs.Prelude.{Option, Some, None}
use mathlib.Core.Path.{◌≡◌, refl, subst}
use mathlib.Core.Bool.{Bool, true, false}
use mathlib.Core.List.{List, [], ◌∷◌}
use Prim.Native.Nat.{ℕ, suc, ◌+◌, ◌≤◌, ◌<◌}
use native.Mathlib.Omega.{arith}
use native.Mathlib.Decide.{dec_lt}
use lib.Dec.{eqb}
use lib.ListN.{length, get_or-eq_default}
use borrow.Author.Tests.{eqb-true, ne_eqb}
use Rattle.semantics.specs.Base.{final, first, numbered, only, All, ◌>>=◌}
use Rattle.semantics.specs.Tree.{Text, Tree, no_expr, same, expr_at, name_at, text_at, is_kind, reference}
use Rattle.semantics.specs.Words.{globals}
use Rattle.semantics.specs.Scopes.{Scope, defined}
use Rattle.semantics.specs.Resolution.{Resolution, unresolved, definition, builtin, within, definition_of, place_of, with_of, resolve_in, scope_of, resolve}
use Rattle.semantics.proofs.BaseLaws.{true≢false, clash, some_inj, either, after, first-all, final-all, All_of}

-- a place is one of the table
place-below : (i : ℕ) (ws : List Text) → All (λ g. g.0 < i + length ws) (numbered i ws)
unfolding numbered
place-below i [] = tt
place-below i (v ∷ ws) = (omega arith, (let e : suc i + length ws ≡ i + length (v ∷ ws) = omega arith in subst (λ n. All (λ g. g.0 < n) (numbered (suc i) ws)) e (place-below (suc i) ws)))

many : length globals ≡ 22
unfolding globals
many = refl

pub place-few : (x : Text) (m : ℕ) → place_of x ≡ Some m → m < 22
unfolding place_of
place-few x m h =
    after (first (λ g. same x g.1) (numbered 0 globals)) _ h λ v q r.
    omega (arith, some_inj r, many, first-all (λ u. u.0 < 0 + length globals) (λ u. u.0 < 0 + length globals) (λ u. same x u.1) (numbered 0 globals) (λ u p l. l) (place-below 0 globals) q)

-- a With, which is no Missing and so stands in the tree
pub with_is : (t : Tree) (c : Scope) (w : ℕ) → with_of t c ≡ Some w → (expr_at t w).kind ≡ 13
unfolding with_of is_kind
with_is t c w h = first-all (λ e. Unit {0}) (λ e. (expr_at t e).kind ≡ 13) (is_kind t 13) c (λ e p u. eqb-true _ 13 p) (All_of (λ e. Unit {0}) c (λ e m. tt)) h

pub past_end : (t : Tree) (e : ℕ) → length t.exprs ≤ e → expr_at t e ≡ no_expr
unfolding expr_at
past_end t e h = get_or-eq_default t.exprs no_expr h

with_there : (t : Tree) (w : ℕ) → (expr_at t w).kind ≡ 13 → w < length t.exprs
with_there t w h = elim (dec_lt w (length t.exprs)) [
  | yes l ↦ l
  | no l ↦ absurd (let z : no_expr.kind ≡ 13 = rw (past_end t w (omega (arith, l))) at h in omega (arith, z))
]

-- "1 definition (a name below N), 2 builtin (place 0 to 21 ..), 3 the innermost With (an expression of that kind)"
abbrev pub Fits : Tree → Resolution → Type 0
Fits t unresolved = Unit {0}
Fits t (definition n) = n < length t.names
Fits t (builtin p) = p < 22
Fits t (within w) = (w < length t.exprs) × ((expr_at t w).kind ≡ 13)

-- where the names that expressions define are below n, so is a definition that is found
module _ (t : Tree) (n : ℕ) (named : (e : ℕ) → All (λ m. m < n) (defined t e)) (x : Text) where
  pub found_below : (e m : ℕ) → final (λ k. same x (text_at t (name_at t k).text)) (defined t e) ≡ Some m → m < n
  found_below e m h = final-all (λ k. k < n) (λ k. k < n) _ (defined t e) (λ k p l. l) (named e) h

  pub definition-below : (c : Scope) (m : ℕ) → definition_of t x c ≡ Some m → m < n
  unfolding definition_of
  definition-below [] m h = absurd (clash h)
  definition-below (e ∷ c) m h = either (final _ (defined t e)) h (found_below e m) (definition-below c m)

module _ (t : Tree) (named : (e : ℕ) → All (λ m. m < length t.names) (defined t e)) where
  fits_in : (x : Text) (c : Scope) (r : Resolution) → resolve_in t x c ≡ Some r → Fits t r
  unfolding resolve_in
  fits_in x c r h =
      either (definition_of t x c >>= λ n. Some (definition n)) h
      (λ g. after (definition_of t x c) _ g λ n q e. subst (Fits t) (some_inj e) (definition-below t (length t.names) named x c n q))
      λ g. either (place_of x >>= λ p. Some (builtin p)) g
      (λ k. after (place_of x) _ k λ p q e. subst (Fits t) (some_inj e) (place-few x p q))
      λ k. after (with_of t c) _ k λ w q e. subst (Fits t) (some_inj e) (with_there t w (with_is t c w q), with_is t c w q)

  -- so does our own resolution
  pub resolve-fits : (e : ℕ) → Fits t (resolve t e)
  unfolding resolve
  resolve-fits e = go (reference t e >>= λ x. scope_of t e >>= resolve_in t (text_at t x)) refl
    where
      go : (o : Option Resolution) → (reference t e >>= λ x. scope_of t e >>= resolve_in t (text_at t x)) ≡ o → Fits t (elim o [ None ↦ unresolved | Some r ↦ r ])
      go None q = tt
      go (Some r) q = after (reference t e) _ q λ x hx h. after (scope_of t e) _ h λ c hc g. fits_in (text_at t x) c r g

-- "Only References may be nonzero."
pub others-unresolved : (t : Tree) (e : ℕ) → ((expr_at t e).kind ≡ 10 → ⊥) → resolve t e ≡ unresolved
unfolding resolve reference is_kind only ◌>>=◌
others-unresolved t e h = go (eqb (expr_at t e).kind 10) (ne_eqb (expr_at t e).kind 10 h)
  where
    go : (b : Bool) → b ≡ false
        → ◌≡◌ {A = Resolution} (elim (only b (expr_at t e).text >>= λ x. scope_of t e >>= resolve_in t (text_at t x)) [ None ↦ unresolved | Some r ↦ r ]) unresolved
    go true q = absurd (true≢false refl q)
    go false q = refl
