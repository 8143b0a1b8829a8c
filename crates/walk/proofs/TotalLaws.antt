-- What the visits of the walk do in all is what the definitions read off them.
use Rattle.std.specs.Prelude.{Option, Some, None}
use mathlib.Core.Path.{◌≡◌, refl, ap, ◌∙◌}
use mathlib.Core.Bool.{Bool, true, false, cond}
use mathlib.Core.List.{List, [], ◌∷◌, ◌++◌, map}
use Prim.Native.Nat.{ℕ, zero, suc, ◌+◌, ◌≤◌, ◌<◌, max}
use native.Mathlib.Omega.{arith}
use native.Mathlib.Decide.{dec_lt}
use lib.Dec.{eqb}
use lib.ListN.{length, get_or}
use borrow.Author.Tests.{eqb-true}
use Rattle.semantics.specs.Base.{pick, only, listed, numbered, each, sum, most, final, All, ◌∈◌, ◌>>=◌}
use Rattle.semantics.specs.Tree.{Tree, Item, no_expr, no_item, is_none, expr_at, item_at}
use Rattle.semantics.specs.Resolution.{Tables}
use Rattle.semantics.specs.Narrow.{Narrowing, local_name, nodes}
use Rattle.semantics.specs.Walk.{Step, Visit, opened, condition_at, into, any_item, own_item, let_item, set_item, steps, visits, visits_from, walk}
use Rattle.semantics.specs.Walk.{edges, recorded, name_expr, walk_steps, most_in_force}
use Rattle.semantics.proofs.BaseLaws.{true≢false, some_inj, pick-each, pick_all, All-at, All-each, All_each', All-numbered, All-places}
use Rattle.image_fields.specs.Image.{expr_count, name_count, count_of, decode}
use Rattle.image_fields.proofs.ImageLaws.{tree-exprs, tree-items}
use Rattle.image_rules.specs.Rules.{has, name_presence}
use Rattle.image.specs.Inside.Accepted.{Accepted}
use Rattle.image.proofs.AcceptedLaws.{item-has-name}
use Rattle.walk_visit.specs.Inside.Steps.{nodes_at}
use Rattle.walk_visit.specs.Inside.Parts.{edges_of}
use Rattle.walk_run.specs.Inside.Effects.{visit_does, doing}
use Rattle.walk_run.specs.Inside.Run.{step_to}

module _ (t : Tree) (tab : Tables) where
  doing-cost : (vs : List Visit) → (doing t tab vs).cost ≡ sum (map (λ v. 1 + sum (map (nodes t) (listed (condition_at t tab v.expr)))) vs)
  unfolding doing visit_does nodes_at sum
  doing-cost [] = refl
  doing-cost (v ∷ vs) = ap (λ n. 1 + sum (map (nodes t) (listed (condition_at t tab v.expr))) + n) (doing-cost vs)

  doing-most : (vs : List Visit) → (doing t tab vs).most ≡ most (map (λ v. length v.in_force) vs)
  unfolding doing visit_does most
  doing-most [] = refl
  doing-most (v ∷ vs) = ap (max (length v.in_force)) (doing-most vs)

  doing-edges : (vs : List Visit) → (doing t tab vs).edges ≡ each (λ v. listed (v.binding >>= λ from. local_name t tab v.expr >>= λ to. Some (from, to))) vs
  unfolding doing visit_does edges_of each
  doing-edges [] = refl
  doing-edges (v ∷ vs) = ap (λ l. edges_of t tab v.expr v.binding ++ l) (doing-edges vs)

  doing-recorded : (vs : List Visit) → (doing t tab vs).recorded ≡ each (λ v. each (λ n. map (λ r. (n, r)) v.in_force) (listed (opened v))) vs
  unfolding doing visit_does each
  doing-recorded [] = refl
  doing-recorded (v ∷ vs) = ap (λ l. each (λ n. map (λ r. (n, r)) v.in_force) (listed (opened v)) ++ l) (doing-recorded vs)

  doing-bound : (vs : List Visit) → (doing t tab vs).bound ≡ each (λ v. listed (opened v >>= λ m. Some (m, v.expr))) vs
  unfolding doing visit_does each
  doing-bound [] = refl
  doing-bound (v ∷ vs) = ap (λ l. listed (opened v >>= λ m. Some (m, v.expr)) ++ l) (doing-bound vs)

  -- of the whole walk
  pub walk_from : visits_from t tab (step_to t.entry None) [] [] ≡ walk t tab
  unfolding walk into
  walk_from = refl

  pub walk-cost : (doing t tab (walk t tab)).cost ≡ walk_steps t tab
  unfolding walk_steps
  walk-cost = doing-cost (walk t tab)

  pub walk-most : (doing t tab (walk t tab)).most ≡ most_in_force t tab
  unfolding most_in_force
  walk-most = doing-most (walk t tab)

  pub walk-edges : (doing t tab (walk t tab)).edges ≡ edges t tab
  unfolding edges
  walk-edges = doing-edges (walk t tab)

  pub walk-recorded : (doing t tab (walk t tab)).recorded ≡ recorded t tab
  unfolding recorded
  walk-recorded = doing-recorded (walk t tab)

  pub walk-bound : (n : ℕ) → (final (λ b. eqb b.0 n) (doing t tab (walk t tab)).bound >>= λ b. Some b.1) ≡ name_expr t tab n
  unfolding name_expr
  walk-bound n = ap (λ l. final (λ b. eqb b.0 n) l >>= λ b. Some b.1) (doing-bound (walk t tab))

-- The names that a walk binds are names of the image.
module _ (s : List ℕ) (a : Accepted s) (tab : Tables) where
  abbrev Opens : Step → Type 0
  Opens d = d.opens ≡ true → (n : ℕ) → d.binding ≡ Some n → n < name_count s

  abbrev Static : Item → Type 0
  Static i = (eqb i.role 4 ≡ true → i.name < name_count s) × (eqb i.role 5 ≡ true → i.name < name_count s) × (eqb i.role 6 ≡ true → i.name < name_count s)

  static_names : (name_presence 4 ≡ has) × (name_presence 5 ≡ has) × (name_presence 6 ≡ has)
  unfolding name_presence pick
  static_names = (refl, refl, refl)

  static_at : (e k : ℕ) → e < expr_count s → k < length (expr_at (decode s) e).items → Static (item_at (decode s) e k)
  static_at e k l m =
      let n : k < count_of s e = rw (tree-items s e l) at m in (
        λ h. item-has-name s a e l k n (ap name_presence (eqb-true _ 4 h) ∙ static_names.0),
        λ h. item-has-name s a e l k n (ap name_presence (eqb-true _ 5 h) ∙ static_names.1),
        λ h. item-has-name s a e l k n (ap name_presence (eqb-true _ 6 h) ∙ static_names.2),
      )

  all_static : (e : ℕ) → e < expr_count s → All (λ i. Static i.1) (numbered 0 (expr_at (decode s) e).items)
  unfolding item_at
  all_static e l = All-numbered Static 0 (expr_at (decode s) e).items (All-places Static (expr_at (decode s) e).items no_item (λ k m. static_at e k l m))

  into-opens : (b : Option ℕ) (k e : ℕ) (ns : List Narrowing) → Opens (into b k e ns)
  unfolding into
  into-opens b k e ns h = absurd (true≢false h refl)

  any-opens : (b : Option ℕ) (i : ℕ × Item) → All Opens (any_item b i)
  unfolding any_item
  any-opens b i = go (is_none i.1.expression)
    where
      go : (x : Bool) → All Opens (cond x [] (into b i.0 i.1.expression [] ∷ []))
      go true = tt
      go false = (into-opens b i.0 i.1.expression [], tt)

  own-opens : (i : ℕ × Item) → i.1.name < name_count s → All Opens (own_item i)
  unfolding own_item
  own-opens i l = (λ h n q. let e : i.1.name ≡ n = some_inj q in rw (← e) l, tt)

  let_opens : (b : Option ℕ) (i : ℕ × Item) → Static i.1 → All Opens (let_item b i)
  unfolding let_item
  let_opens b i st =
      pick_all (All Opens) i.1.role _ _
      (λ h. own-opens i (st.0 h), (λ h. own-opens i (st.1 h), (λ h. own-opens i (st.2 h), (λ h. tt, (λ h. any-opens None i, (λ h. any-opens None i, tt))))))
      (any-opens b i)

  set-opens : (b : Option ℕ) (i : ℕ × Item) → All Opens (set_item b i)
  unfolding set_item
  set-opens b i = pick_all (All Opens) i.1.role _ _ (λ h. tt, tt) (any-opens b i)

  inside-opens : (e : ℕ) (b : Option ℕ) → e < expr_count s → All Opens (steps (decode s) tab e b)
  unfolding steps
  inside-opens e b l =
      pick-each (All Opens) (expr_at (decode s) e).kind _ _ (
        λ h. (into-opens b 0 _ [], (into-opens b 1 _ _, tt)),
        (
          λ h. (into-opens b 0 _ [], (into-opens b 1 _ _, (into-opens b 2 _ _, tt))),
          (
            λ h. (into-opens b 0 _ [], (into-opens b 1 _ _, tt)),
            (λ h. lets, (λ h. go (eqb (expr_at (decode s) e).detail 1), tt)),
          ),
        ),
      )
      (λ h. All-each Opens (any_item b) (numbered 0 (expr_at (decode s) e).items) (any-opens b))
    where
      lets : All Opens (each (let_item b) (numbered 0 (expr_at (decode s) e).items))
      lets = All_each' Opens (λ i. Static i.1) (let_item b) (numbered 0 (expr_at (decode s) e).items) (all_static e l) (let_opens b)

      go : (x : Bool) → All Opens (each (cond x (let_item b) (set_item b)) (numbered 0 (expr_at (decode s) e).items))
      go true = lets
      go false = All-each Opens (set_item b) (numbered 0 (expr_at (decode s) e).items) (set-opens b)

  get_d_past : {A : Type 0} (l : List A) (k : ℕ) (d : A) → length l ≤ k → get_or l k d ≡ d
  get_d_past [] k d h = refl
  get_d_past (x ∷ l) zero d h = absurd (omega arith)
  get_d_past (x ∷ l) (suc k) d h = get_d_past l k d (omega arith)

  past_opens : (e : ℕ) (b : Option ℕ) → expr_count s ≤ e → All Opens (steps (decode s) tab e b)
  unfolding steps expr_at pick numbered each
  past_opens e b l = rw (get_d_past (decode s).exprs e no_expr (omega (arith, tree-exprs s))) tt

  steps_open : (e : ℕ) (b : Option ℕ) → All Opens (steps (decode s) tab e b)
  steps_open e b = elim (dec_lt e (expr_count s)) [ yes l ↦ inside-opens e b l | no l ↦ past_opens e b (omega (arith, l)) ]

  abbrev Binds : Visit → Type 0
  Binds v = (n : ℕ) → opened v ≡ Some n → n < name_count s

  visit_binds : (d : Step) (way : List (ℕ × ℕ)) (ns : List Narrowing) → Opens d → Binds (record { expr = d.expr; binding = d.binding; opens = d.opens; way = way; in_force = ns })
  unfolding opened only ◌>>=◌
  visit_binds d way ns h n q = go d.opens refl d.binding refl q
    where
      go : (x : Bool) → d.opens ≡ x → (o : Option ℕ) → d.binding ≡ o → (o >>= only x) ≡ Some n → n < name_count s
      go true p None r z = absurd (let y : ◌≡◌ {A = ℕ} 0 1 = cc in omega arith)
      go true p (Some m) r z = h p n (r ∙ z)
      go false p None r z = absurd (let y : ◌≡◌ {A = ℕ} 0 1 = cc in omega arith)
      go false p (Some m) r z = absurd (let y : ◌≡◌ {A = ℕ} 0 1 = cc in omega arith)

  visits_bind : (depth : ℕ) (d : Step) (way : List (ℕ × ℕ)) (ns : List Narrowing) → Opens d → All Binds (visits (decode s) tab depth d way ns)
  unfolding visits
  visits_bind zero d way ns h = tt
  visits_bind (suc depth) d way ns h = (
    visit_binds d way ns h,
    All_each' Binds Opens _ (steps (decode s) tab d.expr d.binding) (steps_open d.expr d.binding) λ c q.
        visits_bind depth c (way ++ (d.expr, c.item) ∷ []) (ns ++ c.adds) q,
  )

  walk-opens : All Binds (walk (decode s) tab)
  unfolding walk visits_from into
  walk-opens = visits_bind (suc (decode s).entry) (into None 0 (decode s).entry []) [] [] (into-opens None 0 (decode s).entry [])

  pub opened-named : (v : Visit) → v ∈ walk (decode s) tab → (n : ℕ) → opened v ≡ Some n → n < name_count s
  opened-named v h = All-at Binds (walk (decode s) tab) walk-opens h

  pub walk_binds : All (λ b. b.0 < name_count s) (doing (decode s) tab (walk (decode s) tab)).bound
  unfolding listed ◌>>=◌
  walk_binds =
      rw (doing-bound (decode s) tab (walk (decode s) tab))
      (All_each' {A = ℕ × ℕ} (λ b. b.0 < name_count s) Binds _ (walk (decode s) tab) walk-opens λ v h.
      bound_of v (opened v) refl h)
    where
      bound_of : (v : Visit) (o : Option ℕ) → opened v ≡ o → Binds v → All {A = ℕ × ℕ} (λ b. b.0 < name_count s) (listed (o >>= λ m. Some (m, v.expr)))
      bound_of v None q h = tt
      bound_of v (Some n) q h = (h n q, tt)
