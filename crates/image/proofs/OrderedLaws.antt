-- What refusals 6 and 10 leave is what the passes need to end: an accepted image writes an `Ordered` tree. With it, demand 3 of an accepted image.
use mathlib.Core.Path.{◌≡◌, refl, ap, sym, ◌∙◌}
use mathlib.Core.Bool.{Bool, true, false, ◌||◌}
use mathlib.Core.Logic.{◌⊎◌, inl, inr}
use mathlib.Core.List.{List}
use Prim.Native.Nat.{ℕ, zero, suc, ◌<◌, ◌≤◌}
use native.Mathlib.Omega.{arith}
use native.Mathlib.Decide.{dec_lt}
use lib.Dec.{eqb}
use mathlib.Core.Logic.{⊎_elim}
use native.Mathlib.Decide.{ℕ_discrete}
use lib.ListN.{length, get_or, length-map, get_or-map}
use borrow.Author.Tests.{eq-eqb, ne_eqb, eqb-true}
use Rattle.semantics.specs.Base.{pick, all, All}
use Rattle.semantics.specs.Tree.{no_item, no_expr, is_none, expr_at, item_at, part}
use Rattle.semantics.specs.Order.{Below, arity, Ordered, RunToEnd}
use Rattle.semantics.specs.Resolution.{Tables, own}
use Rattle.semantics.specs.Values.{Model}
use Rattle.semantics.specs.Premises.{Agrees}
use Rattle.semantics.specs.Soundness.{Demand3}
use Rattle.semantics.proofs.Soundness.{sound}
use Rattle.semantics.proofs.OrderLaws.{ordered-runs}
use Rattle.image.specs.Refusals.{image_refusal}
use Rattle.semantics.proofs.BaseLaws.{all-holds, pick_later, pick-none, All-places}
use Rattle.semantics.proofs.ResolutionLaws.{past_end}
use Rattle.image_fields.specs.Image.{expr_count, count_of, decode}
use Rattle.image_rules.specs.Rules.{order, follows, has, expr_presence}
use Rattle.image.specs.Inside.Accepted.{Accepted}
use Rattle.image_fields.proofs.ImageLaws.{tree-exprs, tree-items, tree-kind}
use Rattle.image_rules.proofs.OrderLaws.{same_parts, same_parts_lem, computed}
use Rattle.image_rules.proofs.ChildLaws.{ones}
use Rattle.image.proofs.AcceptedLaws.{accepted, expr-known, item-below, item-below-owner, items_follow, follows-none, follows-one}

-- a kind of n children has just the order of n children: one test of all kinds, computed
children_only : ℕ → Bool
children_only kind = eqb (arity kind) 0 || same_parts (order kind) (ones (arity kind))

children-tested : all children_only 17 ≡ true
unfolding children_only ones arity computed
children-tested = refl

children-only : (kind : ℕ) → kind ≤ 16 → 0 < arity kind → order kind ≡ ones (arity kind)
unfolding children_only
children-only kind l h = go (eqb (arity kind) 0) refl (all-holds children_only 17 kind children-tested (omega arith))
  where
    go : (b : Bool) → eqb (arity kind) 0 ≡ b → (b || same_parts (order kind) (ones (arity kind))) ≡ true → order kind ≡ ones (arity kind)
    go true e q = absurd (omega (arith, eqb-true (arity kind) 0 e))
    go false e q = same_parts_lem _ _ q

-- n children are n items of role 0
follow_ones : (n : ℕ) (rs : List ℕ) → follows (ones n) rs ≡ true → (k : ℕ) → k < n → (k < length rs) × (get_or rs k 0 ≡ 0)
unfolding ones
follow_ones zero rs h k l = absurd (omega arith)
follow_ones (suc n) rs h zero l = follows-one 0 (ones n) rs h λ qs e g. (rw e (omega arith), rw e refl)
follow_ones (suc n) rs h (suc k) l =
    follows-one 0 (ones n) rs h λ qs e g.
    let m : k < n = omega arith in
    let p = follow_ones n qs g k m in
    (rw e (omega (arith, p.0)), rw e p.1)

ones_length : (n : ℕ) (rs : List ℕ) → follows (ones n) rs ≡ true → length rs ≡ n
unfolding ones
ones_length zero rs h = ap length (follows-none rs h)
ones_length (suc n) rs h = follows-one 0 (ones n) rs h λ qs e g. rw e (ap suc (ones_length n qs g))

-- an item without an expression is a parameter or a field of a pattern
has_one : (role : ℕ) → (role ≡ 3 → ⊥) → (role ≡ 10 → ⊥) → expr_presence role ≡ has
unfolding expr_presence
has_one role n m = pick_later role _ _ has (ne_eqb role 3 n) ∙ pick_later role _ _ has (ne_eqb role 10 m) ∙ pick-none role has

module _ (s : List ℕ) (a : Accepted s) (e : ℕ) (l : e < expr_count s) where
  below : (k : ℕ) → k < count_of s e → Below e (item_at (decode s) e k)
  unfolding is_none
  below k m = elim (ℕ_discrete (item_at (decode s) e k).role 3) [
    | yes h ↦ absent (inl h)
    | no n ↦ elim (ℕ_discrete (item_at (decode s) e k).role 10) [
      | yes h ↦ absent (inr h)
      | no h ↦ inl (item-below-owner s a e l k m (has_one _ n h))
    ]
  ]
    where
      absent : ((item_at (decode s) e k).role ≡ 3) ⊎ ((item_at (decode s) e k).role ≡ 10) → Below e (item_at (decode s) e k)
      absent r = ⊎_elim inl (λ h. inr (eq-eqb _ _ h, r)) (item-below s a e l k m)

  items-below : All (Below e) (expr_at (decode s) e).items
  unfolding item_at
  items-below = All-places (Below e) (expr_at (decode s) e).items no_item (λ k m. below k (rw (tree-items s e l) at m))

  -- the parts of a fixed kind are there, in role 0
  part_at : (k : ℕ) → k < arity (expr_at (decode s) e).kind → (k < count_of s e) × ((item_at (decode s) e k).role ≡ 0)
  unfolding item_at
  part_at k h =
      let n : (expr_at (decode s) e).kind ≤ 16 = rw (tree-kind s e l) (expr-known s a e l) in
      let f = follow_ones _ _ (rw (children-only (expr_at (decode s) e).kind n (omega arith)) at (items_follow s a e l)) k h in (
        omega (arith, f.0, length-map (expr_at (decode s) e).items (λ i. i.role), tree-items s e l),
        sym (get_or-map (λ i. i.role) (expr_at (decode s) e).items k no_item) ∙ f.1,
      )

  pub part_count : 0 < arity (expr_at (decode s) e).kind → count_of s e ≡ arity (expr_at (decode s) e).kind
  part_count h =
      let n : (expr_at (decode s) e).kind ≤ 16 = rw (tree-kind s e l) (expr-known s a e l) in
      sym (tree-items s e l)
      ∙ sym (length-map (expr_at (decode s) e).items (λ i. i.role))
      ∙ ones_length _ _ (rw (children-only (expr_at (decode s) e).kind n h) at (items_follow s a e l))

  pub part-inside : (k : ℕ) → k < arity (expr_at (decode s) e).kind → k < count_of s e
  part-inside k h = (part_at k h).0

  pub part-below : (k : ℕ) → k < arity (expr_at (decode s) e).kind → part (decode s) e k < e
  unfolding part
  part-below k h =
      let p = part_at k h in
      item-below-owner s a e l k p.0 (has_one _ (λ z. absurd (omega (arith, p.1))) (λ z. absurd (omega (arith, p.1))))

-- past the last expression stands a Missing
past : (s : List ℕ) (e : ℕ) → expr_count s ≤ e → expr_at (decode s) e ≡ no_expr
past s e h = past_end (decode s) e (rw (tree-exprs s) h)

none_there : (s : List ℕ) (e k : ℕ) → expr_count s ≤ e → k < arity (expr_at (decode s) e).kind → ⊥
unfolding arity pick
none_there s e k l h = let z : k < 0 = rw (past s e l) at h in omega arith

-- an accepted image writes a tree that every pass walks to its end
pub ordered : (s : List ℕ) → Accepted s → Ordered (decode s)
ordered s a = record { items = items; parts = parts }
  where
    items : (e : ℕ) → All (Below e) (expr_at (decode s) e).items
    items e = elim (dec_lt e (expr_count s)) [ yes l ↦ items-below s a e l | no l ↦ rw (past s e (omega (arith, l))) tt ]

    parts : (e k : ℕ) → k < arity (expr_at (decode s) e).kind → part (decode s) e k < e
    parts e k h = elim (dec_lt e (expr_count s)) [ yes l ↦ part-below s a e l k h | no l ↦ absurd (none_there s e k (omega (arith, l)) h) ]

-- what the definitions say without a bound on the depth is so of every accepted image
pub runs_to_end : (s : List ℕ) (tab : Tables) → image_refusal s ≡ 0 → RunToEnd (decode s) tab
runs_to_end s tab h = ordered-runs (decode s) tab (ordered s (accepted s h))

-- DEMAND 3, of every accepted image with its own tables
pub sound-image : (s : List ℕ) → image_refusal s ≡ 0 → (m : Model) → Agrees (decode s) (own (decode s)) m → Demand3 (decode s) (own (decode s)) m
sound-image s h m a = sound (decode s) m a
