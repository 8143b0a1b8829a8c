-- The walk's steps are a tally too: they depend neither on the tables nor on what is in force.
use Rattle.std.specs.Prelude.{Option, Some, None}
use mathlib.Core.Path.{◌≡◌, refl, sym, ap, ◌∙◌}
use mathlib.Core.Bool.{Bool, true, false, cond}
use mathlib.Core.List.{List, [], ◌∷◌, ◌++◌, map}
use Prim.Native.Nat.{ℕ, zero, suc, ◌+◌, ◌<◌}
use native.Mathlib.Omega.{arith}
use lib.Dec.{eqb}
use Rattle.semantics.specs.Codes.{kinds, roles, details}
use Rattle.semantics.specs.Base.{pick, each, listed, numbered, found, sum, All, ◌>>=◌}
use Rattle.semantics.specs.Tree.{Tree, Item, is_none, expr_at, part}
use Rattle.semantics.specs.Order.{Ordered}
use Rattle.semantics.specs.Resolution.{Tables}
use Rattle.semantics.specs.Narrow.{Narrowing, call_condition, nodes, analyze}
use Rattle.semantics.specs.Walk.{Step, Visit, into, any_item, own_item, let_item, set_item, condition_at, steps, visits, visits_from, walk, walk_steps}
use Rattle.semantics.proofs.BaseLaws.{All_to, All-map, map_cong, each_cong}
use Rattle.semantics.proofs.OrderLaws.{steps_fall}
use Rattle.resolve_laws.specs.Inside.Counts.{tally, once, weigh}
use Rattle.resolve_laws.proofs.CountLaws.{tally_dot, dot_once, weigh-each}

pick_two : {A : Type 0} (P : A → A → Type 0) (n : ℕ) (l : List (ℕ × (A × A))) (d : A × A) → All (λ x. P x.1.0 x.1.1) l → P d.0 d.1
    → P (pick n (map (λ x. (x.0, x.1.0)) l) d.0) (pick n (map (λ x. (x.0, x.1.1)) l) d.1)
unfolding pick
pick_two P n [] d h k = k
pick_two {A} P n (x ∷ l) d h k = go (eqb n x.0) (pick_two P n l d h.1 k)
  where
    go : (b : Bool) → P (pick n (map (λ x. (x.0, x.1.0)) l) d.0) (pick n (map (λ x. (x.0, x.1.1)) l) d.1)
        → P (elim b as (λ z. A) [ true ↦ x.1.0 | false ↦ pick n (map (λ x. (x.0, x.1.0)) l) d.0 ]) (elim b as (λ z. A) [ true ↦ x.1.1 | false ↦ pick n (map (λ x. (x.0, x.1.1)) l) d.1 ])
    go true r = h.0
    go false r = r

-- the expressions of steps
unfoldable pub into-exprs : List Step → List ℕ
into-exprs l = map (λ s. s.expr) l

abbrev Alike : List Step → List Step → Type 0
Alike a b = into-exprs a ≡ into-exprs b

exprs_app : (a b : List Step) → into-exprs (a ++ b) ≡ into-exprs a ++ into-exprs b
unfolding into-exprs
exprs_app [] b = refl
exprs_app (s ∷ a) b = ap (λ z. s.expr ∷ z) (exprs_app a b)

alike-++ : (a b c d : List Step) → Alike a b → Alike c d → Alike (a ++ c) (b ++ d)
alike-++ a b c d h k = exprs_app a c ∙ ap (λ z. z ++ into-exprs c) h ∙ ap (λ z. into-exprs b ++ z) k ∙ sym (exprs_app b d)

alike-each : (f g : ℕ × Item → List Step) → ((i : ℕ × Item) → Alike (f i) (g i)) → (l : List (ℕ × Item)) → Alike (each f l) (each g l)
unfolding each
alike-each f g h [] = refl
alike-each f g h (i ∷ l) = alike-++ (f i) (g i) (each f l) (each g l) (h i) (alike-each f g h l)

any-alike : (b c : Option ℕ) (i : ℕ × Item) → Alike (any_item b i) (any_item c i)
unfolding any_item into into-exprs
any-alike b c i = go (is_none i.1.expression)
  where
    go : (x : Bool) → Alike (cond {A = List Step} x [] (into b i.0 i.1.expression [] ∷ [])) (cond {A = List Step} x [] (into c i.0 i.1.expression [] ∷ []))
    go true = refl
    go false = refl

let_alike : (b c : Option ℕ) (i : ℕ × Item) → Alike (let_item b i) (let_item c i)
unfolding let_item
let_alike b c i =
    pick_two Alike i.1.role
    ((roles.StaticExpr, (own_item i, own_item i)) ∷ (roles.Inherit, (own_item i, own_item i)) ∷ (roles.InheritFrom, (own_item i, own_item i)) ∷ (roles.InheritBase, ([], [])) ∷ (roles.DynamicKey, (any_item None i, any_item None i)) ∷ (roles.DynamicValue, (any_item None i, any_item None i)) ∷ [])
    (any_item b i, any_item c i) (refl, (refl, (refl, (refl, (refl, (refl, tt)))))) (any-alike b c i)

set-alike : (b c : Option ℕ) (i : ℕ × Item) → Alike (set_item b i) (set_item c i)
unfolding set_item
set-alike b c i = pick_two Alike i.1.role ((roles.InheritFrom, ([], [])) ∷ []) (any_item b i, any_item c i) (refl, tt) (any-alike b c i)

two_alike : (b c : Option ℕ) (p q : ℕ) (ns ms : List Narrowing) → Alike (into b 0 p [] ∷ into b 1 q ns ∷ []) (into c 0 p [] ∷ into c 1 q ms ∷ [])
unfolding into-exprs into
two_alike b c p q ns ms = refl

three_alike : (b c : Option ℕ) (p q r : ℕ) (ns ms ks ls : List Narrowing) →
    Alike (into b 0 p [] ∷ into b 1 q ns ∷ into b 2 r ks ∷ []) (into c 0 p [] ∷ into c 1 q ms ∷ into c 2 r ls ∷ [])
unfolding into-exprs into
three_alike b c p q r ns ms ks ls = refl

-- the steps down from an expression enter the same expressions, whatever the tables and the binding
steps_alike : (t : Tree) (tab tab' : Tables) (e : ℕ) (b c : Option ℕ) → Alike (steps t tab e b) (steps t tab' e c)
unfolding steps
steps_alike t tab tab' e b c =
    pick_two Alike (expr_at t e).kind
    ((
      kinds.Apply,
      (
        into b 0 (part t e 0) [] ∷ into b 1 (part t e 1) (found (call_condition t tab (part t e 0) >>= λ c. Some (analyze t tab true c))) ∷ [],
        into c 0 (part t e 0) [] ∷ into c 1 (part t e 1) (found (call_condition t tab' (part t e 0) >>= λ c. Some (analyze t tab' true c))) ∷ [],
      ),
    )
    ∷ (
      kinds.IfThenElse,
      (
        into b 0 (part t e 0) [] ∷ into b 1 (part t e 1) (analyze t tab true (part t e 0)) ∷ into b 2 (part t e 2) (analyze t tab false (part t e 0)) ∷ [],
        into c 0 (part t e 0) [] ∷ into c 1 (part t e 1) (analyze t tab' true (part t e 0)) ∷ into c 2 (part t e 2) (analyze t tab' false (part t e 0)) ∷ [],
      ),
    )
    ∷ (kinds.Assert, (into b 0 (part t e 0) [] ∷ into b 1 (part t e 1) (analyze t tab true (part t e 0)) ∷ [], into c 0 (part t e 0) [] ∷ into c 1 (part t e 1) (analyze t tab' true (part t e 0)) ∷ []))
    ∷ (kinds.LetIn, (each (let_item b) items, each (let_item c) items))
    ∷ (kinds.AttrSet, (each (cond (eqb (expr_at t e).detail details.Rec) (let_item b) (set_item b)) items, each (cond (eqb (expr_at t e).detail details.Rec) (let_item c) (set_item c)) items))
    ∷ [])
    (each (any_item b) items, each (any_item c) items)
    (two_alike b c _ _ _ _, (three_alike b c _ _ _ _ _ _ _, (two_alike b c _ _ _ _, (alike-each (let_item b) (let_item c) (let_alike b c) items, (alike-each _ _ (which (eqb (expr_at t e).detail details.Rec)) items, tt)))))
    (alike-each (any_item b) (any_item c) (any-alike b c) items)
  where
    items : List (ℕ × Item)
    items = numbered 0 (expr_at t e).items

    which : (x : Bool) (i : ℕ × Item) → Alike (cond x (let_item b) (set_item b) i) (cond x (let_item c) (set_item c) i)
    which true i = let_alike b c i
    which false i = set-alike b c i

-- A pass that enters these children: its visits weigh what the tally gives.
unfoldable pub reached_by : (ℕ → List ℕ) → ℕ → ℕ → List ℕ
reached_by kids zero e = []
reached_by kids (suc d) e = e ∷ each (reached_by kids d) (kids e)

reached-weigh : (kids : ℕ → List ℕ) (g : ℕ → ℕ) (d e : ℕ) → weigh g (reached_by kids (suc d) e) ≡ g e + weigh g (each (reached_by kids d) (kids e))
unfolding reached_by weigh sum
reached-weigh kids g d e = refl

module _ (kids : ℕ → List ℕ) (low : (e : ℕ) → All (λ c. c < e) (kids e)) where
  reached-same : (k j e : ℕ) → e < k → e < j → reached_by kids k e ≡ reached_by kids j e
  unfolding reached_by
  reached-same zero j e h l = absurd (omega arith)
  reached-same (suc k) zero e h l = absurd (omega arith)
  reached-same (suc k) (suc j) e h l =
      ap (λ z. e ∷ z) (each_cong (reached_by kids k) (reached_by kids j) (kids e)
      (All_to (λ c. c < e) (λ c. reached_by kids k c ≡ reached_by kids j c) (kids e) (λ c m. reached-same k j c (omega arith) (omega arith)) (low e)))

  pub tally_by : (g : ℕ → ℕ) (e : ℕ) → tally kids g (suc e) (once e) ≡ weigh g (reached_by kids (suc e) e)
  tally_by g e = tally_dot kids g (λ x. weigh g (reached_by kids (suc x) x)) low each-is (suc e) (once e) ∙ dot_once (λ x. weigh g (reached_by kids (suc x) x)) e (suc e) (omega arith)
    where
      each-is : (x : ℕ) → weigh g (reached_by kids (suc x) x) ≡ g x + sum (map (λ y. weigh g (reached_by kids (suc y) y)) (kids x))
      each-is x =
          reached-weigh kids g x x
          ∙ ap (λ z. g x + z) (weigh-each g (reached_by kids x) (kids x)
          ∙ ap sum (map_cong (λ c. weigh g (reached_by kids x c)) (λ y. weigh g (reached_by kids (suc y) y)) (kids x)
          (All_to (λ c. c < x) (λ c. weigh g (reached_by kids x c) ≡ weigh g (reached_by kids (suc c) c)) (kids x) (λ c m. ap (weigh g) (reached-same x (suc c) c m (omega arith))) (low x))))

unfoldable pub visited : List Visit → List ℕ
visited l = map (λ v. v.expr) l

visited-++ : (a b : List Visit) → visited (a ++ b) ≡ visited a ++ visited b
unfolding visited
visited-++ [] b = refl
visited-++ (v ∷ a) b = ap (λ z. v.expr ∷ z) (visited-++ a b)

visited-each : (f : Step → List Visit) (g : ℕ → List ℕ) (l : List Step) → ((s : Step) → visited (f s) ≡ g s.expr) → visited (each f l) ≡ each g (into-exprs l)
unfolding visited each into-exprs
visited-each f g [] h = refl
visited-each f g (s ∷ l) h = visited-++ (f s) (each f l) ∙ ap (λ z. z ++ visited (each f l)) (h s) ∙ ap (λ z. g s.expr ++ z) (visited-each f g l h)

-- what a step of the walk counts: one, and the nodes of the condition that is analysed there
unfoldable pub step_weight : Tree → Tables → ℕ → ℕ
step_weight t tab e = 1 + sum (map (nodes t) (listed (condition_at t tab e)))

weigh-visited : (t : Tree) (tab : Tables) (l : List Visit) → sum (map (λ v. step_weight t tab v.expr) l) ≡ weigh (step_weight t tab) (visited l)
unfolding weigh visited sum
weigh-visited t tab [] = refl
weigh-visited t tab (v ∷ l) = ap (λ z. step_weight t tab v.expr + z) (weigh-visited t tab l)

unfoldable pub walk_kids : Tree → Tables → ℕ → List ℕ
walk_kids t tab e = into-exprs (steps t tab e None)

visits-reached : (t : Tree) (tab : Tables) (d : ℕ) (s : Step) (way : List (ℕ × ℕ)) (ns : List Narrowing) → visited (visits t tab d s way ns) ≡ reached_by (walk_kids t tab) d s.expr
unfolding visits reached_by visited walk_kids
visits-reached t tab zero s way ns = refl
visits-reached t tab (suc d) s way ns =
    ap (λ z. s.expr ∷ z)
    (visited-each (λ x. visits t tab d x (way ++ (s.expr, x.item) ∷ []) (ns ++ x.adds)) (reached_by (walk_kids t tab) d) (steps t tab s.expr s.binding)
    (λ x. visits-reached t tab d x (way ++ (s.expr, x.item) ∷ []) (ns ++ x.adds))
    ∙ ap (each (reached_by (walk_kids t tab) d)) (steps_alike t tab tab s.expr s.binding None))

weights : (t : Tree) (tab : Tables) → sum (map (λ v. step_weight t tab v.expr) (visits t tab (suc t.entry) (into None 0 t.entry []) [] [])) ≡ walk_steps t tab
unfolding walk_steps walk visits_from step_weight into
weights t tab = refl

module _ (t : Tree) (tab : Tables) (ordered : Ordered t) where
  kids-low : (e : ℕ) → All (λ c. c < e) (walk_kids t tab e)
  unfolding walk_kids into-exprs
  kids-low e = All-map (λ c. c < e) (λ s. s.expr) (steps t tab e None) (steps_fall t ordered tab e None)

  -- THE LAW: the walk's steps without a walk
  pub walk_steps_lem : tally (walk_kids t tab) (step_weight t tab) (suc t.entry) (once t.entry) ≡ walk_steps t tab
  unfolding walk_steps walk visits_from into
  walk_steps_lem =
      tally_by (walk_kids t tab) kids-low (step_weight t tab) t.entry
      ∙ ap (weigh (step_weight t tab)) (sym (visits-reached t tab (suc t.entry) (into None 0 t.entry []) [] []))
      ∙ sym (weigh-visited t tab (visits t tab (suc t.entry) (into None 0 t.entry []) [] []))
      ∙ weights t tab
