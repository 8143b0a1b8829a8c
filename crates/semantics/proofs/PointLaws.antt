-- The ways of a walk lead where it visits, and what is in force there is what its guards tell (specs/Points.antt).
use Rattle.std.specs.Prelude.{Option, Some, None}
use mathlib.Core.Path.{◌≡◌, refl, sym, ap, ◌∙◌}
use mathlib.Core.Bool.{Bool, true, false, cond}
use mathlib.Core.List.{List, [], ◌∷◌, ◌++◌}
use Prim.Native.Nat.{ℕ, zero, suc}
use native.Mathlib.Omega.{arith}
use lib.Dec.{eqb}
use borrow.Author.Tests.{eqb-true}
use Rattle.semantics.specs.Base.{pick, found, listed, numbered, each, All, ◌>>=◌}
use Rattle.semantics.specs.Tree.{Tree, Item, no_item, is_none, expr_at, item_at, part}
use Rattle.semantics.specs.Resolution.{Tables}
use Rattle.semantics.specs.Narrow.{Narrowing, analyze, call_condition}
use Rattle.semantics.specs.Walk.{Guard, Visit, Step, guard_for, guard_at, guards, into, any_item, own_item, let_item, set_item}
use Rattle.semantics.specs.Walk.{steps, visits, visits_from, walk}
use Rattle.semantics.specs.Points.{Leads, WaysLead, told, InForce}
use Rattle.semantics.proofs.BaseLaws.{pick_later, pick-none, pick-each, pick_all, All-at, All_each', each-++, each-one, numbered-at}

-- a way that is one item longer
leads_on : (t : Tree) (from e k to : ℕ) (way : List (ℕ × ℕ)) → Leads t from way e → part t e k ≡ to → Leads t from (way ++ (e, k) ∷ []) to
leads_on t from e k to [] h q = (h, q)
leads_on t from e k to (w ∷ ws) h q = (h.0, leads_on t (part t w.0 w.1) e k to ws h.1 q)

module _ (t : Tree) (tab : Tables) where
  -- what the guard at a place tells
  told_at : ℕ → ℕ → List Narrowing
  told_at e k = each (told t tab) (listed (guard_at t tab e k))

  -- a step enters the item at its place, and adds what the guard there tells
  abbrev Right : ℕ → Step → Type 0
  Right e d = (part t e d.item ≡ d.expr) × (d.adds ≡ told_at e d.item)

  guard_is : (e k kind : ℕ) → (expr_at t e).kind ≡ kind → guard_at t tab e k ≡ guard_for t tab kind (part t e 0) k
  unfolding guard_at
  guard_is e k kind h = ap (λ z. guard_for t tab z (part t e 0) k) h

  -- where the tree has no guard, or one
  tells_none : (e k : ℕ) → guard_at t tab e k ≡ None → [] ≡ told_at e k
  unfolding told_at listed each
  tells_none e k h = ap (λ z. each (told t tab) (listed z)) (sym h)

  tells-one : (e k c : ℕ) (o : Bool) → guard_at t tab e k ≡ Some (record { condition = c; outcome = o }) → analyze t tab o c ≡ told_at e k
  unfolding told_at listed told
  tells-one e k c o h = sym (each-one (told t tab) (record { condition = c; outcome = o })) ∙ ap (λ z. each (told t tab) (listed z)) (sym h)

  tells-found : (e k : ℕ) (o : Option ℕ) → guard_at t tab e k ≡ (o >>= λ d. Some (record { condition = d; outcome = true })) →
      found (o >>= λ d. Some (analyze t tab true d)) ≡ told_at e k
  unfolding found ◌>>=◌
  tells-found e k None q = tells_none e k q
  tells-found e k (Some d) q = tells-one e k d true q

  -- the guards of an IfThenElse, of an Assert, and of a recognised call
  if_guards : (c : ℕ) → (guard_for t tab 2 c 0 ≡ None) × (guard_for t tab 2 c 1 ≡ Some (record { condition = c; outcome = true }))
      × (guard_for t tab 2 c 2 ≡ Some (record { condition = c; outcome = false }))
  unfolding guard_for pick
  if_guards c = (refl, refl, refl)

  assert_guards : (c : ℕ) → (guard_for t tab 14 c 0 ≡ None) × (guard_for t tab 14 c 1 ≡ Some (record { condition = c; outcome = true }))
  unfolding guard_for pick
  assert_guards c = (refl, refl)

  call-guards : (c : ℕ) → (guard_for t tab 1 c 0 ≡ None) × (guard_for t tab 1 c 1 ≡ (call_condition t tab c >>= λ d. Some (record { condition = d; outcome = true })))
  unfolding guard_for pick
  call-guards c = (refl, refl)

  binding-guards : (c k : ℕ) → (guard_for t tab 5 c k ≡ None) × (guard_for t tab 8 c k ≡ None)
  unfolding guard_for pick
  binding-guards c k = (refl, refl)

  other-guards : (kind c k : ℕ) → eqb kind 1 ≡ false → eqb kind 2 ≡ false → eqb kind 14 ≡ false → guard_for t tab kind c k ≡ None
  unfolding guard_for
  other-guards kind c k h₁ h₂ h₁₄ = pick_later kind _ _ None h₂ ∙ (pick_later kind _ _ None h₁₄ ∙ (pick_later kind _ _ None h₁ ∙ pick-none kind None))

  -- the items of an expression that has no guards, each at its place
  abbrev Unguarded : ℕ → Type 0
  Unguarded e = (k : ℕ) → guard_at t tab e k ≡ None

  abbrev Placed : ℕ → ℕ × Item → Type 0
  Placed e i = item_at t e i.0 ≡ i.1

  any_right : (e : ℕ) (b : Option ℕ) (i : ℕ × Item) → Unguarded e → Placed e i → All (Right e) (any_item b i)
  unfolding any_item into part
  any_right e b i u p = go (is_none i.1.expression)
    where
      go : (x : Bool) → All (Right e) (cond x [] (into b i.0 i.1.expression [] ∷ []))
      go true = tt
      go false = ((ap (λ z. z.expression) p, tells_none e i.0 (u i.0)), tt)

  own_right : (e : ℕ) (i : ℕ × Item) → Unguarded e → Placed e i → All (Right e) (own_item i)
  unfolding own_item part
  own_right e i u p = ((ap (λ z. z.expression) p, tells_none e i.0 (u i.0)), tt)

  let_right : (e : ℕ) (b : Option ℕ) (i : ℕ × Item) → Unguarded e → Placed e i → All (Right e) (let_item b i)
  unfolding let_item
  let_right e b i u p =
      pick_all (All (Right e)) i.1.role _ _
      (λ h. own_right e i u p, (λ h. own_right e i u p, (λ h. own_right e i u p, (λ h. tt, (λ h. any_right e None i u p, (λ h. any_right e None i u p, tt))))))
      (any_right e b i u p)

  set_right : (e : ℕ) (b : Option ℕ) (i : ℕ × Item) → Unguarded e → Placed e i → All (Right e) (set_item b i)
  unfolding set_item
  set_right e b i u p = pick_all (All (Right e)) i.1.role _ _ (λ h. tt, tt) (any_right e b i u p)

  items_right : (e : ℕ) (f : ℕ × Item → List Step) → ((i : ℕ × Item) → Placed e i → All (Right e) (f i)) →
      All (Right e) (each f (numbered 0 (expr_at t e).items))
  unfolding item_at
  items_right e f h =
      All_each' (Right e) (Placed e) f (numbered 0 (expr_at t e).items)
      (numbered-at no_item (item_at t e) 0 (expr_at t e).items λ j m. ap (item_at t e) (omega arith))
      h

  steps_right : (e : ℕ) (b : Option ℕ) → All (Right e) (steps t tab e b)
  unfolding steps into
  steps_right e b =
      pick-each (All (Right e)) (expr_at t e).kind _ _ (
        λ h. ((refl, none-at 0 1 h (call-guards c).0), ((refl, helped h), tt)),
        (
          λ h. ((refl, none-at 0 2 h (if_guards c).0), ((refl, one_at 1 2 true h (if_guards c).1), ((refl, one_at 2 2 false h (if_guards c).2), tt))),
          (
            λ h. ((refl, none-at 0 14 h (assert_guards c).0), ((refl, one_at 1 14 true h (assert_guards c).1), tt)),
            (
              λ h. items_right e (let_item b) (λ i. let_right e b i λ k. here k 5 h ∙ (binding-guards c k).0),
              (λ h. rec_or-not (λ k. here k 8 h ∙ (binding-guards c k).1) (eqb (expr_at t e).detail 1), tt),
            ),
          ),
        ),
      )
      (λ r. items_right e (any_item b) (λ i. any_right e b i λ k. guard_is e k _ refl ∙ other-guards (expr_at t e).kind c k r.0 r.1.0 r.1.1.0))
    where
      c : ℕ
      c = part t e 0

      here : (k kind : ℕ) → eqb (expr_at t e).kind kind ≡ true → guard_at t tab e k ≡ guard_for t tab kind c k
      here k kind h = guard_is e k kind (eqb-true _ _ h)

      none-at : (k kind : ℕ) → eqb (expr_at t e).kind kind ≡ true → guard_for t tab kind c k ≡ None → [] ≡ told_at e k
      none-at k kind h q = tells_none e k (here k kind h ∙ q)

      one_at : (k kind : ℕ) (o : Bool) → eqb (expr_at t e).kind kind ≡ true → guard_for t tab kind c k ≡ Some (record { condition = c; outcome = o }) →
          analyze t tab o c ≡ told_at e k
      one_at k kind o h q = tells-one e k c o (here k kind h ∙ q)

      helped : eqb (expr_at t e).kind 1 ≡ true → found (call_condition t tab c >>= λ d. Some (analyze t tab true d)) ≡ told_at e 1
      helped h = tells-found e 1 (call_condition t tab c) (here 1 1 h ∙ (call-guards c).1)

      rec_or-not : Unguarded e → (x : Bool) → All (Right e) (each (cond x (let_item b) (set_item b)) (numbered 0 (expr_at t e).items))
      rec_or-not u true = items_right e (let_item b) (λ i. let_right e b i u)
      rec_or-not u false = items_right e (set_item b) (λ i. set_right e b i u)

  -- what the guards on a way tell
  guards_on : List (ℕ × ℕ) → List Guard
  guards_on way = each (λ w. listed (guard_at t tab w.0 w.1)) way

  told_on : (way : List (ℕ × ℕ)) (e k : ℕ) → each (told t tab) (guards_on (way ++ (e, k) ∷ [])) ≡ each (told t tab) (guards_on way) ++ told_at e k
  unfolding guards_on told_at
  told_on way e k =
      ap (each (told t tab)) (each-++ _ way ((e, k) ∷ []) ∙ ap (λ z. guards_on way ++ z) (each-one _ (e, k)))
      ∙ each-++ (told t tab) (guards_on way) (listed (guard_at t tab e k))

  abbrev Point : Visit → Type 0
  Point v = Leads t t.entry v.way v.expr × (v.in_force ≡ each (told t tab) (guards t tab v))

  visits_right : (k : ℕ) (s : Step) (way : List (ℕ × ℕ)) (ns : List Narrowing) → Leads t t.entry way s.expr → ns ≡ each (told t tab) (guards_on way) →
      All Point (visits t tab k s way ns)
  unfolding visits guards guards_on
  visits_right zero s way ns l h = tt
  visits_right (suc k) s way ns l h = (
    (l, h),
    All_each' Point (Right s.expr) _ (steps t tab s.expr s.binding) (steps_right s.expr s.binding) λ d r.
        visits_right k d (way ++ (s.expr, d.item) ∷ []) (ns ++ d.adds)
        (leads_on t t.entry s.expr d.item d.expr way l r.0)
        (ap (λ z. z ++ d.adds) h ∙ (ap (λ z. each (told t tab) (guards_on way) ++ z) r.1 ∙ sym (told_on way s.expr d.item))),
  )

  points : All Point (walk t tab)
  unfolding walk visits_from into guards_on each
  points = visits_right (suc t.entry) (into None 0 t.entry []) [] [] refl refl

pub ways_lead : WaysLead
ways_lead t tab v h = (All-at (Point t tab) (walk t tab) (points t tab) h).0

pub in_force_lem : InForce
in_force_lem t tab v h = (All-at (Point t tab) (walk t tab) (points t tab) h).1
