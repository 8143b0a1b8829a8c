-- What an item defines, role by role in the terms of `defines_item`; what an item of an accepted image defines is a name of it.
use mathlib.Core.Path.{◌≡◌, refl, sym, subst, ◌∙◌}
use mathlib.Core.Logic.{◌⊎◌, ⊎_elim}
use mathlib.Core.Bool.{true, false, not}
use mathlib.Core.List.{List}
use Prim.Native.Nat.{ℕ, ◌+◌, ◌*◌, ◌≤◌, ◌<◌}
use native.Mathlib.Omega.{arith}
use native.Mathlib.Decide.{dec_lt, ℕ_discrete}
use lib.Dec.{eqb}
use borrow.Author.Tests.{eq-eqb, ne_eqb, eqb-true}
use Rattle.semantics.specs.Base.{pick, keep, All}
use Rattle.semantics.specs.Tree.{Tree, Item, no_item, is_none, expr_at, name_at, item_at}
use Rattle.semantics.specs.Scopes.{is_definition, defines, defined}
use Rattle.semantics.proofs.BaseLaws.{true≢false, pick_later, pick-none, pick_all, All-keep, All-map, All-places}
use Rattle.semantics.proofs.ResolutionLaws.{past_end}
use Rattle.image_fields.specs.Image.{expr_count, name_count, item_place, first_of, count_of, item_here, decode}
use Rattle.image_rules.specs.Rules.{has, name_presence}
use Rattle.image.specs.Inside.Accepted.{Accepted}
use Rattle.image_fields.proofs.ImageLaws.{tree-exprs, tree-items, tree-item}
use Rattle.image.proofs.AcceptedLaws.{item-named, item-has-name}
use Rattle.resolve_defs.specs.Inside.Items.{AnItem}

-- what holds of the three roles of statics holds of a role from 4 to 6
static_each : (P : ℕ → Type 0) (role : ℕ) → 4 ≤ role → role ≤ 6 → P 4 → P 5 → P 6 → P role
static_each P role l m four five six =
    elim (ℕ_discrete role 4) [ yes h ↦ rw h four | no h ↦ elim (ℕ_discrete role 5) [ yes g ↦ rw g five | no g ↦ let f : role ≡ 6 = omega (arith, h, g) in rw f six ] ]

-- `defines_item`: role by role
module _ (t : Tree) (i : Item) {role : ℕ} (e : role ≡ i.role) where
  pub of_parameter : role ≡ 10 → true ≡ defines t i
  unfolding defines pick
  of_parameter h = rw (← e, h)

  pub of_field : {name : ℕ} → name ≡ i.name → role ≡ 3 → not (eqb name 16383) ≡ defines t i
  unfolding defines pick is_none
  of_field n h = rw (← e, h, n)

  pub of_static : {kind : ℕ} → kind ≡ (name_at t i.name).kind → 4 ≤ role → role ≤ 6 → not (eqb kind 1) ≡ defines t i
  unfolding defines pick is_definition
  of_static {kind} k l m =
      static_each (λ r. r ≡ i.role → not (eqb kind 1) ≡ defines t i) role l m (λ h. rw (← h, k)) (λ h. rw (← h, k)) (λ h. rw (← h, k)) e

  pub of_other : (role ≡ 10 → ⊥) → (role ≡ 3 → ⊥) → (4 ≤ role → role ≤ 6 → ⊥) → false ≡ defines t i
  unfolding defines
  of_other a b c =
      let d : role ≡ 4 → ⊥ = λ h. c (omega arith) (omega arith) in
      let f : role ≡ 5 → ⊥ = λ h. c (omega arith) (omega arith) in
      let g : role ≡ 6 → ⊥ = λ h. c (omega arith) (omega arith) in
      rw (← e)
      (sym (pick_later role _ _ _ (ne_eqb role 10 a) ∙ pick_later role _ _ _ (ne_eqb role 3 b) ∙ pick_later role _ _ _ (ne_eqb role 4 d)
      ∙ pick_later role _ _ _ (ne_eqb role 5 f) ∙ pick_later role _ _ _ (ne_eqb role 6 g) ∙ pick-none role _))

-- the roles that have a name
four_has : name_presence 4 ≡ has
unfolding name_presence pick
four_has = refl

five_has : name_presence 5 ≡ has
unfolding name_presence pick
five_has = refl

six_has : name_presence 6 ≡ has
unfolding name_presence pick
six_has = refl

ten_has : name_presence 10 ≡ has
unfolding name_presence pick
ten_has = refl

static_has : (role : ℕ) → 4 ≤ role → role ≤ 6 → name_presence role ≡ has
static_has role l m = static_each (λ r. name_presence r ≡ has) role l m four_has five_has six_has

pub static_named : {s : List ℕ} {at role name : ℕ} → AnItem s at → role ≡ (item_here s at).role → name ≡ (item_here s at).name → 4 ≤ role → role ≤ 6 → name < name_count s
static_named {s} {at} {role} {name} a e n l m = rw n (a.named (rw (← e) (static_has role l m)))

missing : (n : ℕ) → not (is_none n) ≡ true → n ≡ 16383 → ⊥
unfolding is_none
missing n p q = true≢false p (rw (eq-eqb n 16383 q))

-- the items of an expression of an accepted image
module _ (s : List ℕ) (a : Accepted s) (e : ℕ) (l : e < expr_count s) (k : ℕ) (m : k < count_of s e) where
  role-has : (role : ℕ) → eqb (item_at (decode s) e k).role role ≡ true → name_presence role ≡ has → (item_at (decode s) e k).name < name_count s
  role-has role r h = item-has-name s a e l k m (rw (eqb-true _ role r) h)

  pub defined-has : defines (decode s) (item_at (decode s) e k) ≡ true → (item_at (decode s) e k).name < name_count s
  unfolding defines
  defined-has =
      pick_all (λ b. b ≡ true → (item_at (decode s) e k).name < name_count s) (item_at (decode s) e k).role _ false (
        λ r p. role-has 10 r ten_has,
        (
          λ r p. ⊎_elim (λ q. q) (λ q. absurd (missing _ p q)) (item-named s a e l k m),
          (λ r p. role-has 4 r four_has, (λ r p. role-has 5 r five_has, (λ r p. role-has 6 r six_has, tt))),
        ),
      )
      (λ p. absurd (true≢false p refl))

  pub item_here_lem : {at : ℕ} → at ≡ item_place s (first_of s e + 0) + 4 * k → item_at (decode s) e k ≡ item_here s at
  item_here_lem {at} h = let z : at ≡ item_place s (first_of s e + k) = omega arith in tree-item s e k l m ∙ rw z

  pub an_item : {at : ℕ} → at ≡ item_place s (first_of s e + 0) + 4 * k → AnItem s at
  an_item {at} h =
      record {
        inside = omega (arith, a.sized.size, a.runs e l);
        named = subst (λ i. name_presence i.role ≡ has → i.name < name_count s) (item_here_lem h) (item-has-name s a e l k m);
        defined = subst (λ i. defines (decode s) i ≡ true → i.name < name_count s) (item_here_lem h) defined-has;
        nameless = subst (λ i. (i.name < name_count s) ⊎ (i.name ≡ 16383)) (item_here_lem h) (item-named s a e l k m);
      }

-- the names that an expression defines are names of the image
pub defined-named : (s : List ℕ) → Accepted s → (e : ℕ) → All (λ m. m < name_count s) (defined (decode s) e)
unfolding defined item_at keep
defined-named s a e = elim (dec_lt e (expr_count s)) [
  | yes l ↦ All-map (λ m. m < name_count s) (λ i. i.name) (keep (defines (decode s)) items)
      (All-keep (λ i. defines (decode s) i ≡ true → i.name < name_count s) (λ i. i.name < name_count s) (defines (decode s)) items (λ i d f. f d)
      (All-places (λ i. defines (decode s) i ≡ true → i.name < name_count s) items no_item (λ k m. defined-has s a e l k (rw (tree-items s e l) at m))))
  | no l ↦ rw (past_end (decode s) e (omega (arith, l, tree-exprs s))) tt
]
  where
    items : List Item
    items = (expr_at (decode s) e).items
