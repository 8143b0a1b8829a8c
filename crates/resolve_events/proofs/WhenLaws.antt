-- What a round over the items of an expression makes of an item: whether it is visited, in which scope, below which With, and what ends after it.
use Rattle.std.specs.Prelude.{Some}
use mathlib.Core.Path.{◌≡◌, refl, ap, sym, ◌∙◌}
use mathlib.Core.Logic.{◌⊎◌, inl, inr}
use mathlib.Core.Bool.{Bool, true, false, cond, not, ◌||◌}
use mathlib.Core.List.{[], ◌∷◌}
use Prim.Native.Nat.{ℕ, ◌≤◌}
use native.Mathlib.Omega.{arith}
use native.Mathlib.Decide.{ℕ_discrete}
use lib.Dec.{eqb, ltb}
use borrow.Author.Tests.{eq-eqb, ne_eqb, lt-ltb}
use Rattle.semantics.specs.Codes.{kinds}
use Rattle.semantics.specs.Tree.{Tree, Item, is_none, expr_at, is_kind}
use Rattle.semantics.specs.Scopes.{Scope, inside}
use Rattle.semantics.specs.Resolution.{with_of}
use Rattle.semantics.proofs.BaseLaws.{true≢false, and-false}
use Rattle.resolve_events.specs.declared.Round.{Round}
use Rattle.resolve_events.specs.declared.Round.TheVariants.{Whole, Inside, Outside}
use Rattle.resolve_events.specs.declared.Due.{Due}
use Rattle.resolve_events.specs.declared.Due.TheVariants.{Now, Not, Later}
use Rattle.resolve_events.specs.Inside.Turns.{has_bindings, role_visited}
use Rattle.resolve_laws.specs.Inside.Logged.{closing}
use Rattle.resolve_laws.proofs.SettleLaws.{with_inside}
use Rattle.resolve_events.specs.Inside.Pass.{visit, number_of}
use Rattle.resolve_events.specs.Inside.Pass.{turn_visits, round_of, when_role, when_of, ends_with, around_of}
use Rattle.resolve_events.proofs.TurnLaws.{turn_visit}
use Rattle.resolve_events.proofs.RoundLaws.{closing-both, closing-lambda, closing-other, bindings-no-lambda}

-- whether a round is the second one
unfoldable pub is_second : Round → Bool
is_second Whole = false
is_second Inside = false
is_second Outside = true

pub second_or_not : (round : Round) → (round ≡ Outside) ⊎ (round ≡ Outside → ⊥)
second_or_not Whole = inr (λ h. cc h)
second_or_not Inside = inr (λ h. cc h)
second_or_not Outside = inl refl

pub not_second : (round : Round) → (round ≡ Outside → ⊥) → is_second round ≡ false
unfolding is_second
not_second Whole n = refl
not_second Inside n = refl
not_second Outside n = absurd (n refl)

-- Which round it is: one without bindings, two with them.
pub record Fits (kind : ℕ) (round : Round) : Type 0 where
  pub plain : round ≡ Whole → has_bindings kind ≡ false
  pub bound : (round ≡ Whole → ⊥) → has_bindings kind ≡ true

-- what `when` says of an item, for the turn of this round and for that of the second one
pub record Sorted (kind : ℕ) (round : Round) (tag : Bool) (i : Item) (due : Due) : Type 0 where
  pub visits : due ≡ Now → turn_visits kind tag i ≡ true
  pub passes : (due ≡ Now → ⊥) → turn_visits kind tag i ≡ false
  pub first_round : due ≡ Later → round ≡ Inside
  pub quiet : round ≡ Inside → (due ≡ Later → ⊥) → turn_visits kind false i ≡ false

-- a turn of an item that has an expression, or has none
module _ (kind : ℕ) (i : Item) where
  turn_none : (b : Bool) → is_none i.expression ≡ true → turn_visits kind b i ≡ false
  unfolding turn_visits
  turn_none b h = rw h (and-false (role_visited kind b i.role))

  module _ (h : is_none i.expression ≡ false) where
    turn_plain : (b : Bool) → has_bindings kind ≡ false → turn_visits kind b i ≡ true
    unfolding turn_visits role_visited
    turn_plain b p = rw (h, p)

    turn_outside : (b : Bool) → has_bindings kind ≡ true → eqb i.role 5 ≡ b → turn_visits kind false i ≡ b
    unfolding turn_visits role_visited
    turn_outside true p q = rw (h, p, q)
    turn_outside false p q = rw (h, p, q)

    turn_inside : (a b : Bool) → has_bindings kind ≡ true → eqb i.role 5 ≡ a → eqb i.role 6 ≡ b → turn_visits kind true i ≡ not (a || b)
    unfolding turn_visits role_visited
    turn_inside true b p q r = rw (h, p, q)
    turn_inside false true p q r = rw (h, p, q, r)
    turn_inside false false p q r = rw (h, p, q, r)

module _ (kind : ℕ) (round : Round) (tag : Bool) (i : Item) {due : Due} where
  sorted_now : due ≡ Now → turn_visits kind tag i ≡ true → (round ≡ Inside → turn_visits kind false i ≡ false) → Sorted kind round tag i due
  sorted_now d v q = record { visits = λ h. v; passes = λ h. absurd (h d); first_round = λ h. absurd (cc (h, d)); quiet = λ z h. q z }

  sorted_not : due ≡ Not → turn_visits kind tag i ≡ false → (round ≡ Inside → turn_visits kind false i ≡ false) → Sorted kind round tag i due
  sorted_not d v q = record { visits = λ h. absurd (cc (h, d)); passes = λ h. v; first_round = λ h. absurd (cc (h, d)); quiet = λ z h. q z }

  sorted_later : due ≡ Later → turn_visits kind tag i ≡ false → round ≡ Inside → Sorted kind round tag i due
  sorted_later d v z = record { visits = λ h. absurd (cc (h, d)); passes = λ h. v; first_round = λ h. z; quiet = λ u h. absurd (h d) }

module _ (kind : ℕ) (round : Round) (tag : Bool) (i : Item) (fits : Fits kind round) (in_first : round ≡ Inside → tag ≡ true) (in_second : round ≡ Outside → tag ≡ false) {due : Due} (w : due ≡ when_of round i.role i.expression) where
  module _ (h : is_none i.expression ≡ false) where
    -- of bindings, by the role
    sorted-inside : round ≡ Inside → (a b : Bool) → eqb i.role 5 ≡ a → eqb i.role 6 ≡ b → Sorted kind round tag i due
    unfolding when_of when_role
    sorted-inside z a b p q = go a b p q
      where
        both : has_bindings kind ≡ true
        both = fits.bound (λ u. cc (u, z))

        go : (a b : Bool) → eqb i.role 5 ≡ a → eqb i.role 6 ≡ b → Sorted kind round tag i due
        go true b p q = sorted_later kind round tag i (w ∙ rw (h, z, p)) (rw (in_first z) (turn_inside kind i h true b both p q)) z
        go false true p q = sorted_not kind round tag i (w ∙ rw (h, z, p, q)) (rw (in_first z) (turn_inside kind i h false true both p q)) (λ u. turn_outside kind i h false both p)
        go false false p q = sorted_now kind round tag i (w ∙ rw (h, z, p, q)) (rw (in_first z) (turn_inside kind i h false false both p q)) (λ u. turn_outside kind i h false both p)

    sorted_outside : round ≡ Outside → (a : Bool) → eqb i.role 5 ≡ a → Sorted kind round tag i due
    unfolding when_of when_role
    sorted_outside z true p = sorted_now kind round tag i (w ∙ rw (h, z, p)) (rw (in_second z) (turn_outside kind i h true (fits.bound (λ u. cc (u, z))) p)) (λ u. absurd (cc (u, z)))
    sorted_outside z false p = sorted_not kind round tag i (w ∙ rw (h, z, p)) (rw (in_second z) (turn_outside kind i h false (fits.bound (λ u. cc (u, z))) p)) (λ u. absurd (cc (u, z)))

    by_round : (r : Round) → round ≡ r → Sorted kind round tag i due
    unfolding when_of when_role
    by_round Whole z = sorted_now kind round tag i (w ∙ rw (h, z)) (turn_plain kind i h tag (fits.plain z)) (λ u. absurd (cc (u, z)))
    by_round Inside z = sorted-inside z (eqb i.role 5) (eqb i.role 6) refl refl
    by_round Outside z = sorted_outside z (eqb i.role 5) refl

  pub sorted : Sorted kind round tag i due
  unfolding when_of
  sorted = go (is_none i.expression) refl
    where
      go : (b : Bool) → is_none i.expression ≡ b → Sorted kind round tag i due
      go true h = sorted_not kind round tag i (w ∙ rw h) (turn_none kind i tag h) (λ z. turn_none kind i false h)
      go false h = by_round h round refl

pub fits-first : {kind : ℕ} {round : Round} → round ≡ round_of kind → Fits kind round
unfolding round_of
fits-first {kind} {round} q = go (has_bindings kind) refl
  where
    go : (b : Bool) → has_bindings kind ≡ b → Fits kind round
    go true h = let one : round ≡ Inside = q ∙ rw h in record { plain = λ z. absurd (cc (z, one)); bound = λ z. h }
    go false h = record { plain = λ z. h; bound = λ z. absurd (z (q ∙ rw h)) }

pub first-not-second : (kind : ℕ) {round : Round} → round ≡ round_of kind → round ≡ Outside → ⊥
unfolding round_of
first-not-second kind {round} q h = go (has_bindings kind) refl
  where
    go : (b : Bool) → cond b Inside Whole ≡ round_of kind → ⊥
    go true r = cc (r, q, h)
    go false r = cc (r, q, h)

-- the end is due after the first round of what logs one
module _ (t : Tree) (e : ℕ) {round : Round} (fits : Fits (expr_at t e).kind round) where
  pub due_first : (round ≡ Outside → ⊥) → ends_with (expr_at t e).kind round ≡ closing t e
  unfolding ends_with
  due_first n = go round refl
    where
      go : (r : Round) → round ≡ r → ends_with (expr_at t e).kind r ≡ closing t e
      go Whole h = elim (ℕ_discrete (expr_at t e).kind 4) [
        | yes k ↦ eq-eqb _ 4 k ∙ sym (closing-lambda t e k)
        | no k ↦ ne_eqb _ 4 k ∙ sym (closing-other t e (fits.plain h) k)
      ]
      go Inside h = sym (closing-both t e (fits.bound (λ z. cc (z, h))))
      go Outside h = absurd (n h)

  pub due_second : round ≡ Outside → ends_with (expr_at t e).kind round ≡ false
  unfolding ends_with
  due_second h = rw h (ne_eqb _ 4 (bindings-no-lambda _ (fits.bound (λ z. cc (z, h)))))

  -- whether the turn of item k is inside
  pub tag_at : ℕ → Bool
  tag_at k = cond (is_second round) false (cond (eqb (expr_at t e).kind 13) (ltb 0 k) true)

  pub tag-second : (k : ℕ) → round ≡ Outside → tag_at k ≡ false
  unfolding tag_at is_second
  tag-second k h = rw h

  pub tag-first : (k : ℕ) → (round ≡ Outside → ⊥) → tag_at k ≡ cond (eqb (expr_at t e).kind 13) (ltb 0 k) true
  unfolding tag_at
  tag-first k h = rw (not_second round h)

  pub tag_with : (k : ℕ) → (round ≡ Outside → ⊥) → (expr_at t e).kind ≡ 13 → tag_at k ≡ ltb 0 k
  tag_with k h z = tag-first k h ∙ rw z

-- what a turn that visits has
pub visits-some : (kind : ℕ) (tag : Bool) (i : Item) → turn_visits kind tag i ≡ true → i.expression ≡ 16383 → ⊥
unfolding turn_visits is_none
visits-some kind tag i h z = true≢false h (rw (eq-eqb i.expression 16383 z) (and-false (role_visited kind tag i.role)))

pub visit-one : (t : Tree) (e : ℕ) (c : Scope) (tag : Bool) (i : Item) → turn_visits (expr_at t e).kind tag i ≡ true → turn_visit t e c (tag, i) ≡ visit i.expression (cond tag (inside t e c) c) ∷ []
unfolding turn_visit
visit-one t e c tag i h = rw h

-- the With around what item k visits
with_here : (t : Tree) (e : ℕ) (c : Scope) → (expr_at t e).kind ≡ 13 → cond (is_kind t kinds.With e) (Some e) (with_of t c) ≡ Some e
unfolding is_kind
with_here t e c h = rw h

with_not : (t : Tree) (e : ℕ) (c : Scope) → ((expr_at t e).kind ≡ 13 → ⊥) → cond (is_kind t kinds.With e) (Some e) (with_of t c) ≡ with_of t c
unfolding is_kind
with_not t e c h = rw (ne_eqb _ 13 h)

number-some : (e : ℕ) → number_of (Some e) ≡ e
unfolding number_of
number-some e = refl

module _ (t : Tree) (e with k : ℕ) (c : Scope) where
  pub around_with : (expr_at t e).kind ≡ 13 → with ≡ number_of (with_of t c) → around_of (expr_at t e).kind k e with ≡ number_of (with_of t (cond (ltb 0 k) (inside t e c) c))
  unfolding around_of
  around_with h w = elim (ℕ_discrete k 0) [
    | yes z ↦ rw (h, z) w
    | no z ↦ rw (h, ne_eqb k 0 z, lt-ltb 0 k (omega (arith, z))) (sym (ap number_of (with_inside t e c ∙ with_here t e c h) ∙ number-some e))
  ]

  pub around_other : ((expr_at t e).kind ≡ 13 → ⊥) → with ≡ number_of (with_of t c) → (tag : Bool) → around_of (expr_at t e).kind k e with ≡ number_of (with_of t (cond tag (inside t e c) c))
  unfolding around_of
  around_other h w true = rw (ne_eqb _ 13 h) (w ∙ ap number_of (sym (with_inside t e c ∙ with_not t e c h)))
  around_other h w false = rw (ne_eqb _ 13 h) w

pub around_small : (kind k e with : ℕ) → with ≤ 16383 → e ≤ 16383 → around_of kind k e with ≤ 16383
unfolding around_of
around_small kind k e with l m = go (eqb kind 13) (eqb k 0)
  where
    go : (a b : Bool) → cond a (cond b with e) with ≤ 16383
    go true true = l
    go true false = m
    go false b = l
