-- How items are entered, in the terms of the code.
use mathlib.Core.Path.{◌≡◌, refl, ap, sym, ◌∙◌}
use mathlib.Core.Logic.{◌⊎◌, inl, inr}
use mathlib.Core.List.{List, [], ◌∷◌}
use mathlib.Core.Bool.{Bool, true, false}
use Prim.Native.Nat.{ℕ, ◌+◌, ◌*◌, ◌≤◌, ◌<◌}
use native.Mathlib.Omega.{arith}
use native.Mathlib.Decide.{ℕ_discrete}
use lib.Dec.{eqb}
use lib.ListN.{length, get_or}
use borrow.Author.Tests.{eq-eqb, ne_eqb, eqb-true}
use Rattle.semantics.specs.Base.{pick, all}
use Rattle.semantics.specs.Tree.{Tree, Item, is_none, expr_at, item_at, part}
use Rattle.semantics.specs.Order.{arity}
use Rattle.semantics.proofs.BaseLaws.{true≢false, pick_later, pick-none, all-holds}
use Rattle.image_fields.specs.Image.{expr_count, items_place, item_place, item_here, first_of, count_of, decode}
use Rattle.image_fields.proofs.ImageLaws.{tree-kind, tree-item}
use Rattle.image.specs.Inside.Accepted.{Accepted}
use Rattle.image.proofs.AcceptedLaws.{expr-known}
use Rattle.image.proofs.OrderedLaws.{part-inside, part-below}
use Rattle.walk_visit.specs.declared.Rule.{Rule}
use Rattle.walk_visit.specs.declared.Rule.TheVariants.{Others, Bindings, Set, Guarded}
use Rattle.walk_visit.specs.Inside.Steps.{callee, calling, guarded, guard_rule, rule_of, role_enters, enters_item, opens_at, bare_at, binding_in}

-- the kinds that may have a condition among their parts
module _ (s : List ℕ) (a : Accepted s) (e : ℕ) (l : e < expr_count s) {kind : ℕ} (q : kind ≡ (expr_at (decode s) e).kind) where
  pub kind-known : kind ≤ 16
  kind-known = rw (q, tree-kind s e l) (expr-known s a e l)

  arity_of : (kind ≡ 1) ⊎ ((kind ≡ 2) ⊎ (kind ≡ 14)) → 1 < arity (expr_at (decode s) e).kind
  unfolding arity pick
  arity_of (inl h) = rw (← q, h) (omega arith)
  arity_of (inr (inl h)) = rw (← q, h) (omega arith)
  arity_of (inr (inr h)) = rw (← q, h) (omega arith)

  module _ (h : (kind ≡ 1) ⊎ ((kind ≡ 2) ⊎ (kind ≡ 14))) where
    pub has_part : (k : ℕ) → k < 2 → k < count_of s e
    has_part k m = part-inside s a e l k (omega (arith, arity_of h))

    pub part_in : {k x : ℕ} → k < 2 → x ≡ (item_at (decode s) e k).expression → x < expr_count s
    unfolding part
    part_in {k} m p = omega (arith, p, part-below s a e l k (omega (arith, arity_of h)), l)

  -- `applied`: the first part, by the place of the item table
  module _ (h : kind ≡ 1) {place first at : ℕ} (p : place ≡ items_place s) (f : first ≡ first_of s e) (o : at ≡ place + 4 * first) where
    pub first-inside : at + 4 ≤ length s
    first-inside = omega (arith, p, f, o, a.sized.size, a.runs e l, has_part (inl h) 0 (omega arith))

    pub first_there : {x : ℕ} → x ≡ (item_here s at).expression → x ≡ (item_at (decode s) e 0).expression
    first_there w =
        let z : at ≡ item_place s (first_of s e + 0) = omega (arith, p, f, o) in
        w ∙ rw (tree-item s e 0 l (has_part (inl h) 0 (omega arith)), z)

-- `rule`: the table of the kinds that are told by themselves
abbrev pub table : List Rule
table =
    Others ∷ Others ∷ Guarded ∷ Others ∷ Others ∷ Bindings ∷ Others ∷ Others ∷ Others ∷ Others ∷ Others ∷ Others ∷ Others ∷ Others ∷ Guarded
    ∷ Others ∷ Others ∷ []

abbrev tabled : ℕ → Rule
tabled kind = pick kind ((2, Guarded) ∷ (14, Guarded) ∷ (5, Bindings) ∷ []) Others

-- rules by numbers, so that the table is gone through
code : Rule → ℕ
code Others = 0
code Bindings = 1
code Set = 2
code Guarded = 3

rule_at : ℕ → Rule
rule_at n = pick n ((1, Bindings) ∷ (2, Set) ∷ (3, Guarded) ∷ []) Others

rule-again : (r : Rule) → rule_at (code r) ≡ r
unfolding rule_at code pick
rule-again Others = refl
rule-again Bindings = refl
rule-again Set = refl
rule-again Guarded = refl

table_is : ℕ → Bool
table_is kind = eqb (code (get_or table kind Others)) (code (tabled kind))

all_tabled : all table_is 17 ≡ true
unfolding all pick table_is code
all_tabled = refl

from_table : (kind : ℕ) → kind ≤ 16 → get_or table kind Others ≡ tabled kind
unfolding table_is
from_table kind l =
    sym (rule-again _) ∙ ap rule_at (eqb-true _ _ (all-holds table_is 17 kind all_tabled (omega arith))) ∙ rule-again _

module _ (t : Tree) (e : ℕ) {kind : ℕ} (q : kind ≡ (expr_at t e).kind) where
  pub rule_rec : kind ≡ 8 → {d : ℕ} → d ≡ (expr_at t e).detail → d ≡ 1 → Bindings ≡ rule_of t e
  unfolding rule_of pick
  rule_rec h g o = rw (← q, h, ← g, o)

  pub rule_set : kind ≡ 8 → {d : ℕ} → d ≡ (expr_at t e).detail → (d ≡ 1 → ⊥) → Set ≡ rule_of t e
  unfolding rule_of pick
  rule_set h g o = rw (← q, h, ne_eqb (expr_at t e).detail 1 (λ z. o (g ∙ z)))

  -- of an Apply
  module _ (h : kind ≡ 1) {f x : ℕ} (p : f ≡ (item_at t e 0).expression) (r : x ≡ (expr_at t f).kind) where
    pub rule_no-call : (x ≡ 1 → ⊥) → Others ≡ rule_of t e
    unfolding rule_of guarded calling guard_rule pick
    rule_no-call z = rw (← q, h, ← p, ← r, ne_eqb x 1 z)

    module _ (z : x ≡ 1) {c y : ℕ} (p' : c ≡ (item_at t f 0).expression) (g : y ≡ (expr_at t c).kind) where
      called : y ≡ callee t f
      called = g ∙ ap (λ n. (expr_at t n).kind) p'

      pub rule_call : (y ≡ 10) ⊎ (y ≡ 11) → Guarded ≡ rule_of t e
      unfolding rule_of guarded calling guard_rule pick
      rule_call (inl d) = rw (← q, h, ← p, ← r, z, ← called, d)
      rule_call (inr d) = rw (← q, h, ← p, ← r, z, ← called, d)

      pub rule_nameless : (y ≡ 10 → ⊥) → (y ≡ 11 → ⊥) → Others ≡ rule_of t e
      unfolding rule_of guarded calling guard_rule pick
      rule_nameless d d' = rw (← q, h, ← p, ← r, z, ← called, ne_eqb y 10 d, ne_eqb y 11 d')

  rule_known : {n : ℕ} → (kind ≡ n) → (n ≡ 2) ⊎ ((n ≡ 14) ⊎ (n ≡ 5)) → rule_of t e ≡ tabled kind
  unfolding rule_of guarded guard_rule pick
  rule_known h (inl z) = rw (← q, h, z)
  rule_known h (inr (inl z)) = rw (← q, h, z)
  rule_known h (inr (inr z)) = rw (← q, h, z)

  unguarded : (kind ≡ 1 → ⊥) → (kind ≡ 2 → ⊥) → (kind ≡ 14 → ⊥) → guarded t e ≡ false
  unfolding guarded
  unguarded a c d =
      rw (← q) (pick_later kind _ _ false (ne_eqb kind 1 a) ∙ pick_later kind _ _ false (ne_eqb kind 2 c) ∙ pick_later kind _ _ false (ne_eqb kind 14 d) ∙ pick-none kind false)

  rule_zero : (kind ≡ 1 → ⊥) → (kind ≡ 8 → ⊥) → (kind ≡ 2 → ⊥) → (kind ≡ 14 → ⊥) → (kind ≡ 5 → ⊥) → rule_of t e ≡ tabled kind
  unfolding rule_of guard_rule
  rule_zero a b c d g =
      rw (unguarded a c d, ← q)
      (pick_later kind _ _ _ (ne_eqb kind 5 g) ∙ pick_later kind _ _ _ (ne_eqb kind 8 b) ∙ pick-none kind _
      ∙ sym (pick_later kind _ _ _ (ne_eqb kind 2 c) ∙ pick_later kind _ _ _ (ne_eqb kind 14 d) ∙ pick_later kind _ _ _ (ne_eqb kind 5 g) ∙ pick-none kind Others))

  rule_tabled : (kind ≡ 1 → ⊥) → (kind ≡ 8 → ⊥) → rule_of t e ≡ tabled kind
  rule_tabled a b = elim (ℕ_discrete kind 2) [
    | yes z ↦ rule_known z (inl refl)
    | no c ↦ elim (ℕ_discrete kind 14) [
      | yes z ↦ rule_known z (inr (inl refl))
      | no d ↦ elim (ℕ_discrete kind 5) [
        | yes z ↦ rule_known z (inr (inr refl))
        | no g ↦ rule_zero a b c d g
      ]
    ]
  ]

  pub rule_told : (kind ≡ 1 → ⊥) → (kind ≡ 8 → ⊥) → kind ≤ 16 → get_or table kind Others ≡ rule_of t e
  rule_told a b l = from_table kind l ∙ sym (rule_tabled a b)

-- the rules differ
pub others≢bindings : Others ≡ Bindings → ⊥
others≢bindings h = absurd (let z : ◌≡◌ {A = ℕ} 0 1 = cc in omega arith)

pub set≢bindings : Set ≡ Bindings → ⊥
set≢bindings h = absurd (let z : ◌≡◌ {A = ℕ} 0 1 = cc in omega arith)

pub guarded≢bindings : Guarded ≡ Bindings → ⊥
guarded≢bindings h = absurd (let z : ◌≡◌ {A = ℕ} 0 1 = cc in omega arith)

pub others≢guarded : Others ≡ Guarded → ⊥
others≢guarded h = absurd (let z : ◌≡◌ {A = ℕ} 0 1 = cc in omega arith)

-- no rule but that of bindings opens one, or leaves one
pub opens-none : (rule : Rule) (role : ℕ) → (rule ≡ Bindings → ⊥) → false ≡ opens_at rule role
unfolding opens_at
opens-none Bindings role h = absurd (h refl)
opens-none Set role h = refl
opens-none Others role h = refl
opens-none Guarded role h = refl

pub bare-none : (rule : Rule) (role : ℕ) → (rule ≡ Bindings → ⊥) → false ≡ bare_at rule role
unfolding bare_at
bare-none Bindings role h = absurd (h refl)
bare-none Set role h = refl
bare-none Others role h = refl
bare-none Guarded role h = refl

-- .. and what opens one is under it
pub opens-bindings : (rule : Rule) (role : ℕ) → opens_at rule role ≡ true → rule ≡ Bindings
unfolding opens_at
opens-bindings Bindings role h = refl
opens-bindings Set role h = absurd (true≢false refl (sym h))
opens-bindings Others role h = absurd (true≢false refl (sym h))
opens-bindings Guarded role h = absurd (true≢false refl (sym h))

-- `enters`
module _ (rule : Rule) (i : Item) {expression : ℕ} (e : expression ≡ i.expression) where
  pub enters-nothing : expression ≡ 16383 → false ≡ enters_item rule i
  unfolding enters_item is_none
  enters-nothing h = rw (eq-eqb i.expression 16383 (sym e ∙ h))

  pub enters-role : {role : ℕ} {b : Bool} → (expression ≡ 16383 → ⊥) → role ≡ i.role → b ≡ role_enters rule role → b ≡ enters_item rule i
  unfolding enters_item is_none
  enters-role h r q = rw (ne_eqb i.expression 16383 (λ z. h (e ∙ z)), ← r) q

-- `binding_in`
pub binding_around : (rule : Rule) (binding : ℕ) (i : Item) → (rule ≡ Bindings → ⊥) → binding ≡ binding_in rule binding i
unfolding binding_in
binding_around rule binding i h = rw (← opens-none rule i.role h, ← bare-none rule i.role h)

module _ (rule : Rule) (binding : ℕ) (i : Item) {role : ℕ} (r : role ≡ i.role) {b : Bool} (o : b ≡ opens_at rule role) where
  pub binding-own : b ≡ true → {name : ℕ} → name ≡ i.name → name ≡ binding_in rule binding i
  unfolding binding_in
  binding-own h n = rw (← r, ← o, h) n

  module _ (h : b ≡ false) {d : Bool} (q : d ≡ bare_at rule role) where
    pub binding-bare : d ≡ true → 16383 ≡ binding_in rule binding i
    unfolding binding_in
    binding-bare g = rw (← r, ← o, h, ← q, g)

    pub binding-kept : d ≡ false → binding ≡ binding_in rule binding i
    unfolding binding_in
    binding-kept g = rw (← r, ← o, h, ← q, g)
