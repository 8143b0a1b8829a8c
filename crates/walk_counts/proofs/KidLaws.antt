-- What a visit of the walk leads to are the items that are entered, so its steps are a tally over these.
use mathlib.Core.Path.{◌≡◌, refl, sym, ap, ◌∙◌}
use mathlib.Core.Bool.{Bool, true, false, cond}
use mathlib.Core.List.{List, [], ◌∷◌, ◌++◌, map}
use Prim.Native.Nat.{ℕ, zero, suc, ◌+◌, ◌*◌, ◌<◌}
use native.Mathlib.Numerals.{add-one}
use native.Mathlib.Omega.{arith}
use lib.Dec.{eqb}
use Rattle.semantics.specs.Base.{each, numbered, keep, listed, only}
use Rattle.semantics.specs.Tree.{Tree, Item, expr_at}
use Rattle.semantics.specs.Resolution.{Tables}
use Rattle.semantics.specs.Walk.{Step, steps, walk_steps}
use Rattle.image_fields.specs.Image.{expr_count, decode}
use Rattle.image.specs.Inside.Accepted.{Accepted}
use Rattle.image.proofs.OrderedLaws.{ordered}
use Rattle.resolve_laws.specs.Inside.Counts.{add, add_all, tally, once}
use Rattle.resolve_laws.proofs.WalkLaws.{into-exprs, step_weight, walk_kids, walk_steps_lem}
use Rattle.resolve_counts.proofs.TallyLaws.{entry-inside}
use Rattle.narrow_texts.proofs.NumberLaws.{numbered-none}
use Rattle.walk_visit.specs.Inside.Steps.{rule_of, enters_item, nodes_at, step_at}
use Rattle.walk_run.proofs.StepLaws.{steps_all}
use Rattle.walk_counts.specs.Inside.Visits.{entered, kids}

exprs-more : (i : Item) (d : Step) → d.expr ≡ i.expression → (l : List Step) (m : List ℕ) → into-exprs l ≡ m → (x : Bool)
    → into-exprs (cond x (d ∷ []) [] ++ l) ≡ map (λ i. i.expression) (listed (only x i)) ++ m
unfolding into-exprs listed only
exprs-more i d q l m h true = rw (q, h)
exprs-more i d q l m h false = h

map_more : (a b : List Item) → map (λ i. i.expression) (a ++ b) ≡ map (λ i. i.expression) a ++ map (λ i. i.expression) b
map_more [] b = refl
map_more (i ∷ a) b = ap (λ z. i.expression ∷ z) (map_more a b)

module _ (t : Tree) (tab : Tables) (e b : ℕ) where
  exprs-entered : (k : ℕ) (is : List Item) → into-exprs (each (step_at t tab e b) (numbered k is)) ≡ entered (rule_of t e) is
  unfolding step_at numbered each entered keep into-exprs
  exprs-entered k [] = refl
  exprs-entered k (i ∷ is) =
      exprs-more i _ refl _ _ (exprs-entered (suc k) is) (enters_item (rule_of t e) i)
      ∙ sym (map_more (listed (only (enters_item (rule_of t e) i) i)) (keep (enters_item (rule_of t e)) is))

tally-same : (f g : ℕ → List ℕ) (w : ℕ → ℕ) (n : ℕ) → ((e : ℕ) → e < n → f e ≡ g e) → (p : ℕ → ℕ) → tally f w n p ≡ tally g w n p
unfolding tally
tally-same f g w zero h p = refl
tally-same f g w (suc e) h p =
    ap (λ z. p e * w e + z) (tally-same f g w e (λ d l. h d (omega (arith, l))) (add_all p (p e) (f e)) ∙ ap (λ cs. tally g w e (add_all p (p e) cs)) (h e (omega arith)))

-- v visits, of which there are none
pub added_none : (p : ℕ → ℕ) (v : ℕ) (cs : List ℕ) → v ≡ 0 → (x : ℕ) → add_all p v cs x ≡ p x
unfolding add_all add
added_none p v [] h x = refl
added_none p v (c ∷ cs) h x = added_none (add p v c) v cs h x ∙ go (eqb x c)
  where
    go : (b : Bool) → cond b (p x + v) (p x) ≡ p x
    go true = omega (arith, h)
    go false = refl

pub weights_are : (t : Tree) (tab : Tables) (e : ℕ) → step_weight t tab e ≡ 1 + nodes_at t tab e
unfolding step_weight nodes_at
weights_are t tab e = refl

module _ (s : List ℕ) (a : Accepted s) (tab : Tables) where
  abbrev t : Tree
  t = decode s

  kids_are : (e : ℕ) → e < expr_count s → walk_kids t tab e ≡ kids t e
  unfolding walk_kids
  kids_are e l =
      ap (λ b. into-exprs (steps t tab e b)) (sym (numbered-none refl))
      ∙ ap into-exprs (sym (steps_all s a tab e l 16383))
      ∙ exprs-entered t tab e 16383 0 (expr_at t e).items

  -- THE STEPS of a walk, as they are counted
  pub steps_tallied : tally (kids t) (step_weight t tab) (t.entry + 1) (once t.entry) ≡ walk_steps t tab
  steps_tallied =
      ap (λ n. tally (kids t) (step_weight t tab) n (once t.entry)) (add-one t.entry)
      ∙ sym (tally-same (walk_kids t tab) (kids t) (step_weight t tab) (suc t.entry) (λ e l. kids_are e (omega (arith, l, entry-inside s a))) (once t.entry))
      ∙ walk_steps_lem t tab (ordered s a)
