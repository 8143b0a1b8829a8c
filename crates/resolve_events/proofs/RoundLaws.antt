-- The rounds over an expression's items, with the end between them, are the pass below it.
use mathlib.Core.Path.{◌≡◌, refl, ap, sym, ◌∙◌}
use mathlib.Core.Logic.{◌⊎◌, inl, inr}
use mathlib.Core.Bool.{Bool, true, false}
use mathlib.Core.List.{List, [], ◌∷◌, ◌++◌}
use Prim.Native.Nat.{ℕ, suc, ◌<◌}
use native.Mathlib.Omega.{arith}
use native.Mathlib.Decide.{ℕ_discrete}
use lib.ListN.{length, get_or, drop}
use lib.Seq.{drop-cons}
use borrow.Author.Tests.{ne_eqb}
use Rattle.semantics.specs.Base.{pick, each}
use Rattle.semantics.specs.Tree.{Tree, Item, no_item, expr_at, is_kind}
use Rattle.semantics.specs.Scopes.{Scope, ScopeVisit, inside, visiting, children, inherited, enclosed}
use Rattle.semantics.proofs.BaseLaws.{true≢false}
use Rattle.image_fields.specs.Image.{expr_count, decode}
use Rattle.image.specs.Inside.Accepted.{Accepted}
use Rattle.resolve_events.specs.Inside.Turns.{has_bindings}
use Rattle.resolve_laws.specs.Inside.Last.{parts_of}
use Rattle.resolve_laws.specs.Inside.Logged.{closing}
use Rattle.resolve_laws.proofs.LastLaws.{split}
use Rattle.resolve_events.specs.Inside.Pass.{Trail, pass_all, ended, pass_below}
use Rattle.resolve_events.proofs.PassLaws.{pass_all-++, pass_all-none, ended-not}
use Rattle.resolve_events.proofs.TurnLaws.{first_turns, second_turns, turn_visit, each-visit, outside_test, inside-test, any-test, binding-kind, no-binding, of_both, of_all, second-both, second_none, turns_all}

-- the visits of turns
unfoldable pub visits_of : Tree → ℕ → Scope → List (Bool × Item) → List ScopeVisit
visits_of t e c us = each (turn_visit t e c) us

module _ (t : Tree) (e : ℕ) (c : Scope) where
  pub visits_nil : visits_of t e c [] ≡ []
  unfolding visits_of each
  visits_nil = refl

  -- one turn more
  module _ (us : List (Bool × Item)) (k : ℕ) (l : k < length us) {u : Bool × Item} (q : get_or us k (true, no_item) ≡ u) where
    next : visits_of t e c (drop k us) ≡ turn_visit t e c u ++ visits_of t e c (drop (suc k) us)
    unfolding visits_of each
    next = ap (each (turn_visit t e c)) (drop-cons us k (true, no_item) l ∙ ap (λ z. z ∷ drop (suc k) us) q)

    pub pass-next : (x : Trail) → pass_all t (visits_of t e c (drop k us)) x ≡ pass_all t (turn_visit t e c u) (pass_all t (visits_of t e c (drop (suc k) us)) x)
    pass-next x = ap (λ z. pass_all t z x) next ∙ pass_all-++ t (turn_visit t e c u) (visits_of t e c (drop (suc k) us)) x

    pub none-next : turn_visit t e c u ≡ [] → visits_of t e c (drop (suc k) us) ≡ [] → visits_of t e c (drop k us) ≡ []
    none-next h r = next ∙ ap (λ z. z ++ visits_of t e c (drop (suc k) us)) h ∙ r

-- the parts of bindings and of a Lambda
parts-bindings : (t : Tree) (e : ℕ) → ((expr_at t e).kind ≡ 5) ⊎ ((expr_at t e).kind ≡ 8) → parts_of t e ≡ (children t e inherited, children t e enclosed)
unfolding parts_of pick
parts-bindings t e (inl h) = rw h
parts-bindings t e (inr h) = rw h

parts-lambda : (t : Tree) (e : ℕ) → (expr_at t e).kind ≡ 4 → parts_of t e ≡ ([], children t e λ i. true)
unfolding parts_of pick
parts-lambda t e h = rw h

-- what an end is logged of
closing-bindings : (t : Tree) (e : ℕ) → ((expr_at t e).kind ≡ 5) ⊎ ((expr_at t e).kind ≡ 8) → closing t e ≡ true
unfolding closing is_kind
closing-bindings t e (inl h) = rw h
closing-bindings t e (inr h) = rw h

pub closing-both : (t : Tree) (e : ℕ) → has_bindings (expr_at t e).kind ≡ true → closing t e ≡ true
closing-both t e h = closing-bindings t e (binding-kind (expr_at t e).kind h)

pub closing-lambda : (t : Tree) (e : ℕ) → (expr_at t e).kind ≡ 4 → closing t e ≡ true
unfolding closing is_kind
closing-lambda t e h = rw h

closing-not : (t : Tree) (e : ℕ) → ((expr_at t e).kind ≡ 4 → ⊥) → ((expr_at t e).kind ≡ 5 → ⊥) → ((expr_at t e).kind ≡ 8 → ⊥) → closing t e ≡ false
unfolding closing is_kind
closing-not t e n₄ n₅ n₈ = rw (ne_eqb _ 4 n₄, ne_eqb _ 5 n₅, ne_eqb _ 8 n₈)

pub closing-other : (t : Tree) (e : ℕ) → has_bindings (expr_at t e).kind ≡ false → ((expr_at t e).kind ≡ 4 → ⊥) → closing t e ≡ false
closing-other t e h k = closing-not t e k (no-binding (expr_at t e).kind h).0 (no-binding (expr_at t e).kind h).1

lambda-plain : (kind : ℕ) → kind ≡ 4 → has_bindings kind ≡ false
unfolding has_bindings
lambda-plain kind h = rw h

pub bindings-no-lambda : (kind : ℕ) → has_bindings kind ≡ true → kind ≡ 4 → ⊥
bindings-no-lambda kind h k = true≢false h (lambda-plain kind k)

module _ (s : List ℕ) (a : Accepted s) (e : ℕ) (l : e < expr_count s) where
  abbrev t : Tree
  t = decode s

  abbrev kind : ℕ
  kind = (expr_at (decode s) e).kind

  abbrev items : List Item
  items = (expr_at (decode s) e).items

  -- after the first round, its end, and the second
  unfoldable pub both_rounds : Scope → Trail → Trail
  both_rounds c x = pass_all t (visits_of t e c (second_turns t e)) (ended (closing t e) e (length x.events) (pass_all t (visits_of t e c (first_turns t e)) x))

  both-done : has_bindings kind ≡ true → (c : Scope) (x : Trail) → both_rounds c x ≡ pass_below t e c x
  unfolding both_rounds pass_below visits_of children
  both-done h c x =
      ap (λ z. pass_all t z (ended (closing t e) e (length x.events) (pass_all t (each (turn_visit t e c) (first_turns t e)) x)))
      (ap (each (turn_visit t e c)) (second-both s a e l h) ∙ each-visit t e c false inherited items (λ i. outside_test kind i h) ∙ ap (λ z. visiting c z.0) (sym parts))
      ∙ ap (λ z. pass_all t (visiting c (parts_of t e).0) (ended (closing t e) e (length x.events) (pass_all t z x)))
      (ap (each (turn_visit t e c)) (of_both s a e l h) ∙ each-visit t e c true enclosed items (λ i. inside-test kind i h) ∙ ap (λ z. visiting (inside t e c) z.1) (sym parts))
    where
      parts : parts_of t e ≡ (children t e inherited, children t e enclosed)
      parts = parts-bindings t e (binding-kind kind h)

  lambda-done : kind ≡ 4 → (c : Scope) (x : Trail) → both_rounds c x ≡ pass_below t e c x
  unfolding both_rounds pass_below visits_of children visiting each
  lambda-done k c x =
      ap (λ z. pass_all t z (ended (closing t e) e (length x.events) (pass_all t (each (turn_visit t e c) (first_turns t e)) x)))
      (ap (each (turn_visit t e c)) (second_none s a e l plain) ∙ ap (λ z. visiting c z.0) (sym (parts-lambda t e k)))
      ∙ ap (λ z. pass_all t (visiting c (parts_of t e).0) (ended (closing t e) e (length x.events) (pass_all t z x)))
      (ap (each (turn_visit t e c)) (of_all s a e l plain (λ q. omega (arith, k, q)) (λ q. omega (arith, k, q)))
      ∙ each-visit t e c true (λ i. true) items (λ i. any-test kind i true plain) ∙ ap (λ z. visiting (inside t e c) z.1) (sym (parts-lambda t e k)))
    where
      plain : has_bindings kind ≡ false
      plain = lambda-plain kind k

  other-done : has_bindings kind ≡ false → (kind ≡ 4 → ⊥) → (c : Scope) (x : Trail) → both_rounds c x ≡ pass_below t e c x
  unfolding both_rounds pass_below visits_of
  other-done h k c x =
      ap (λ z. pass_all t z (ended (closing t e) e (length x.events) (pass_all t (visits_of t e c (first_turns t e)) x)))
      (ap (visits_of t e c) (second_none s a e l h) ∙ visits_nil t e c)
      ∙ pass_all-none t (ended (closing t e) e (length x.events) (pass_all t (visits_of t e c (first_turns t e)) x))
      ∙ ap (λ b. ended b e (length x.events) (pass_all t (visits_of t e c (first_turns t e)) x)) no_end
      ∙ ended-not e (length x.events) (pass_all t (visits_of t e c (first_turns t e)) x)
      ∙ ap (λ z. pass_all t z x) (turns_all s a e l h c ∙ split t e c)
      ∙ pass_all-++ t (visiting c (parts_of t e).0) (visiting (inside t e c) (parts_of t e).1) x
      ∙ ap (pass_all t (visiting c (parts_of t e).0)) (sym (ended-not e (length x.events) (pass_all t (visiting (inside t e c) (parts_of t e).1) x)))
      ∙ ap (λ b. pass_all t (visiting c (parts_of t e).0) (ended b e (length x.events) (pass_all t (visiting (inside t e c) (parts_of t e).1) x))) (sym no_end)
    where
      no_end : closing t e ≡ false
      no_end = closing-other t e h k

  pub rounds_done : (c : Scope) (x : Trail) → both_rounds c x ≡ pass_below t e c x
  rounds_done c x = go (has_bindings kind) refl
    where
      go : (b : Bool) → has_bindings kind ≡ b → both_rounds c x ≡ pass_below t e c x
      go true h = both-done h c x
      go false h = elim (ℕ_discrete kind 4) [ yes k ↦ lambda-done k c x | no k ↦ other-done h k c x ]
