-- The items of a Lambda, kind 4, by the states of order.rt: 4 before the first, then 5, and 13 behind the body.
use Rattle.std.specs.Prelude.{None}
use mathlib.Core.Path.{◌≡◌, refl, ap, sym, ◌∙◌}
use mathlib.Core.Bool.{Bool, true, false, or-true}
use Prim.Native.Nat.{ℕ, ◌+◌, ◌-◌, ◌*◌, ◌/◌, ◌%◌, ◌^◌, ◌≤◌, ◌<◌}
use native.Mathlib.Omega.{arith}
use native.Mathlib.Decide.{ℕ_discrete, dec_lt}
use lib.Dec.{eqb, ltb, leb}
use lib.ListN.{length}
use lib.Pow.{mod-pow-add, shr-shr}
use borrow.Author.Tests.{eq-eqb, ne_eqb, lt-ltb, le-ltb, le-leb, lt-leb, eqb-true, ltb-true}
use Rattle.semantics.specs.Base.{pick}
use Rattle.semantics.specs.Tree.{Tree, Item, is_none, expr_at, item_at}
use Rattle.semantics.proofs.BaseLaws.{and_left, and_right, and-false}
use Rattle.image_rules.specs.Rules.{may, fits, name_presence, expr_presence, inherits}
use Rattle.image_rules.specs.Inside.Whole.{lower, item_fits, items_fit}
use Rattle.image_rules.specs.Inside.Machine.{item_of_word, state_of, started, advance, finished, plain_below, named_below, field_below, parameter_below}
use Rattle.image_rules.proofs.OrderLaws.{computed}
use Rattle.image_rules.proofs.ItemLaws.{and-true, Following, following_start, following_more, following_fails, following_breaks, following_done}
use Rattle.image_rules.proofs.PathLaws.{default_last, plain_more, plain-fails}

-- role, name and expression, one above the other
in_fields : (v r y n x z : ℕ) → v ≡ r * 2 ^ 28 + y → y ≡ n * 2 ^ 14 + x → x ≡ z → v ≡ r * 268435456 + n * 16384 + z
in_fields v r y n x z p q e = omega arith

-- an item's 32 bits, taken round so that those of its role are 0, are below those of the first name that is none
module _ (w role names : ℕ) (l : role ≤ 10) (few : names ≤ 2 ^ 14) where
  low : w % 4294967296 ≡ (item_of_word w).role * 268435456 + (item_of_word w).name * 16384 + (item_of_word w).expression
  low = in_fields _ _ _ _ _ _ (mod-pow-add w 4 28) (mod-pow-add w 14 14) (omega arith)

  abbrev turned : ℕ
  turned = (w % 4294967296 + 4294967296 - 268435456 * role) % 4294967296

  pub named-turned : ltb turned (16384 * names) ≡ named_below role names (item_of_word w)
  unfolding named_below
  named-turned = go (named_below role names (item_of_word w)) refl
    where
      go : (b : Bool) → named_below role names (item_of_word w) ≡ b → ltb turned (16384 * names) ≡ b
      go true h =
          let r = eqb-true (item_of_word w).role role (and_left _ _ h) in
          let n = ltb-true (item_of_word w).name names (and_right (eqb (item_of_word w).role role) _ h) in
          let u : w % 4294967296 + 4294967296 - 268435456 * role ≡ 4294967296 + (item_of_word w).name * 16384 + (item_of_word w).expression = omega (arith, low) in
          lt-ltb turned (16384 * names) (omega arith)
      go false h = elim (dec_lt turned (16384 * names)) [
        | yes y ↦
            let u : (item_of_word w).role + 16 ≡ 16 * ((w % 4294967296 + 4294967296 - 268435456 * role) / 4294967296) + role = omega (arith, low) in
            let r : (item_of_word w).role ≡ role = omega arith in
            let n : (item_of_word w).name < names = omega (arith, low) in
            let z : ◌≡◌ {A = Bool} true false = sym (rw (eq-eqb (item_of_word w).role role r, lt-ltb (item_of_word w).name names n)) ∙ h in
            absurd (let z : ◌≡◌ {A = ℕ} 0 1 = cc in omega arith)
        | no y ↦ le-ltb turned (16384 * names) (omega (arith, y))
      ]

-- a number that may be none, with none taken round to 0
may-turned : (bound x : ℕ) → x < 16384 → leb ((x + 1) % 16384) bound ≡ fits may bound x
unfolding fits is_none
may-turned bound x h = elim (ℕ_discrete x 16383) [
  | yes e ↦ rw e (le-leb 0 bound (omega arith))
  | no n ↦ elim (dec_lt x bound) [
    | yes y ↦ rw (ne_eqb x 16383 n, lt-ltb x bound y) (le-leb ((x + 1) % 16384) bound (omega (arith, n)))
    | no y ↦ rw (ne_eqb x 16383 n, le-ltb x bound (omega (arith, y))) (lt-leb ((x + 1) % 16384) bound (omega (arith, n, y)))
  ]
]

-- `field_fits`: role and name, 18 bits, are 65535 where a field has no name
module _ (w owner names : ℕ) where
  field_by : (item_of_word w).role ≡ 3 → fits may names (item_of_word w).name ≡ true → leb (((item_of_word w).expression + 1) % 16384) owner ≡ field_below owner names (item_of_word w)
  unfolding field_below
  field_by r n = may-turned owner (item_of_word w).expression (omega arith) ∙ sym (rw (eq-eqb (item_of_word w).role 3 r, n))

  pub field-named : named_below 3 names (item_of_word w) ≡ true → leb (((item_of_word w).expression + 1) % 16384) owner ≡ field_below owner names (item_of_word w)
  unfolding named_below fits is_none
  field-named h =
      let n = and_right (eqb (item_of_word w).role 3) (ltb (item_of_word w).name names) h in
      field_by (eqb-true _ 3 (and_left _ _ h)) (rw n (or-true (eqb (item_of_word w).name 16383)))

  pub field-nameless : w / 2 ^ 14 % 2 ^ 18 ≡ 65535 → leb (((item_of_word w).expression + 1) % 16384) owner ≡ field_below owner names (item_of_word w)
  unfolding fits is_none
  field-nameless h = field_by (omega arith) (rw (eq-eqb (item_of_word w).name 16383 (omega arith)))

  pub no_field : named_below 3 names (item_of_word w) ≡ false → (w / 2 ^ 14 % 2 ^ 18 ≡ 65535 → ⊥) → false ≡ field_below owner names (item_of_word w)
  unfolding named_below field_below fits is_none
  no_field h n = go (eqb (item_of_word w).role 3) refl
    where
      go : (b : Bool) → eqb (item_of_word w).role 3 ≡ b → false ≡ field_below owner names (item_of_word w)
      go true q =
          let r = eqb-true (item_of_word w).role 3 q in
          let m : ltb (item_of_word w).name names ≡ false = rw q at h in
          rw (q, m, ne_eqb (item_of_word w).name 16383 (λ e. n (omega (arith, mod-pow-add (w / 2 ^ 14) 4 14, shr-shr w 14 14))))
      go false q = rw q

-- `parameter_fits`
module _ (names : ℕ) (i : Item) where
  pub no_parameter : (i.expression ≡ 16383 → ⊥) → false ≡ parameter_below names i
  unfolding parameter_below is_none
  no_parameter n = rw (ne_eqb i.expression 16383 n, and-false)

  pub a_parameter : i.expression ≡ 16383 → named_below 10 names i ≡ parameter_below names i
  unfolding parameter_below is_none
  a_parameter e = rw (eq-eqb i.expression 16383 e) (sym (and-true _))

-- an item in role 3, and one in role 10
module _ (t : Tree) (owner : ℕ) (i : Item) where
  field_fit : i.role ≡ 3 → item_fits t owner i ≡ field_below owner (length t.names) i
  unfolding item_fits lower inherits field_below name_presence expr_presence pick
  field_fit e = rw e (and-true _)

  parameter_fit : i.role ≡ 10 → item_fits t owner i ≡ parameter_below (length t.names) i
  unfolding item_fits lower inherits parameter_below named_below fits name_presence expr_presence pick
  parameter_fit e = rw e (and-true _)

-- k items are done, none of them the body: what may come next, a parameter only as the first
pub record Fields (t : Tree) (e count k : ℕ) : Type 0 where
  state : ℕ
  following : Following t e count state k
  field : state_of 5 ≡ advance (state_of state) 3
  body : state_of 13 ≡ advance (state_of state) 0
  parameter : k ≡ 0 → state_of 5 ≡ advance (state_of state) 10
  other : (r : ℕ) → eqb r 3 ≡ false → eqb r 0 ≡ false → (k ≡ 0 → eqb r 10 ≡ false) → advance (state_of state) r ≡ None
  bodiless : false ≡ finished (state_of state)

four_starts : state_of 4 ≡ started 4
unfolding computed
four_starts = refl

pub lambda-start : {t : Tree} {e count : ℕ} → 4 ≡ (expr_at t e).kind → length (expr_at t e).items ≡ count → Fields t e count 0
unfolding computed
lambda-start q n =
    record {
      state = 4;
      following = following_start n (four_starts ∙ ap started q) (omega arith);
      field = refl;
      body = refl;
      parameter = λ z. refl;
      other = λ r p q f. rw (f refl, p, q);
      bodiless = refl;
    }

lambda_on : {t : Tree} {e count : ℕ} (k : ℕ) → Following t e count 5 (k + 1) → Fields t e count (k + 1)
unfolding computed
lambda_on k g =
    record {
      state = 5;
      following = g;
      field = refl;
      body = refl;
      parameter = λ z. absurd (omega arith);
      other = λ r p q f. rw (p, q);
      bodiless = refl;
    }

pub lambda-empty : {t : Tree} {e count : ℕ} → Fields t e count 0 → count ≡ 0 → false ≡ items_fit t e
lambda-empty g z = following_done g.following (omega arith) g.bodiless

module _ {t : Tree} {e count k : ℕ} (g : Fields t e count k) (h : k < count) where
  abbrev item : Item
  item = item_at t e k

  pub lambda-field : field_below e (length t.names) item ≡ true → Fields t e count (k + 1)
  unfolding field_below
  lambda-field p =
      let r : item.role ≡ 3 = eqb-true _ _ (and_left _ _ (and_left _ _ p)) in
      lambda_on k (following_more g.following h (sym (field_fit t e item r ∙ p)) g.field (sym r) (omega arith))

  pub lambda_parameter : k ≡ 0 → parameter_below (length t.names) item ≡ true → Fields t e count (k + 1)
  unfolding parameter_below named_below
  lambda_parameter z p =
      let r : item.role ≡ 10 = eqb-true _ _ (and_left _ _ (and_left _ _ p)) in
      lambda_on k (following_more g.following h (sym (parameter_fit t e item r ∙ p)) (g.parameter z) (sym r) (omega arith))

  -- an item that is none of those that may come
  module _ (p : plain_below 0 e item ≡ false) (f : field_below e (length t.names) item ≡ false) (q : k ≡ 0 → parameter_below (length t.names) item ≡ false) where
    stuck_other : eqb item.role 3 ≡ false → eqb item.role 0 ≡ false → false ≡ items_fit t e
    stuck_other x y = go (eqb item.role 10) refl
      where
        go : (b : Bool) → eqb item.role 10 ≡ b → false ≡ items_fit t e
        go false z = following_breaks g.following h (g.other _ x y (λ _. z))
        go true z = elim (ℕ_discrete k 0) [
          | yes a ↦ following_fails g.following h (sym (parameter_fit t e item (eqb-true _ _ z) ∙ q a))
          | no a ↦ following_breaks g.following h (g.other _ x y (λ b. absurd (a b)))
        ]

    stuck : false ≡ items_fit t e
    stuck = plain-fails g.following h 0 (omega arith) p (λ y. go y (eqb item.role 3) refl)
      where
        go : eqb item.role 0 ≡ false → (b : Bool) → eqb item.role 3 ≡ b → false ≡ items_fit t e
        go y true x = following_fails g.following h (sym (field_fit t e item (eqb-true _ _ x) ∙ f))
        go y false x = stuck_other x y

  behind : plain_below 0 e item ≡ true → Following t e count 13 (k + 1)
  behind p = plain_more g.following h 0 (omega arith) p g.body (omega arith)

  -- before the last item only a field may come, and first a parameter
  pub lambda_stuck : k + 1 < count → field_below e (length t.names) item ≡ false → (k ≡ 0 → parameter_below (length t.names) item ≡ false) → false ≡ items_fit t e
  lambda_stuck l f q = go (plain_below 0 e item) refl
    where
      go : (b : Bool) → plain_below 0 e item ≡ b → false ≡ items_fit t e
      go true p = following_breaks (behind p) l (default_last.1 _)
      go false p = stuck p f q

  -- the last item is the body
  pub lambda_body : k + 1 ≡ count → plain_below 0 e item ≡ items_fit t e
  lambda_body n = go (plain_below 0 e item) refl
    where
      ends : Fields t e count (k + 1) → false ≡ items_fit t e
      ends m = following_done m.following (omega arith) m.bodiless

      unparametered : plain_below 0 e item ≡ false → field_below e (length t.names) item ≡ false → (b : Bool) → parameter_below (length t.names) item ≡ b → false ≡ items_fit t e
      unparametered p f false q = stuck p f (λ _. q)
      unparametered p f true q = elim (ℕ_discrete k 0) [
        | yes z ↦ ends (lambda_parameter z q)
        | no z ↦ stuck p f (λ b. absurd (z b))
      ]

      no_body : plain_below 0 e item ≡ false → (b : Bool) → field_below e (length t.names) item ≡ b → false ≡ items_fit t e
      no_body p true f = ends (lambda-field f)
      no_body p false f = unparametered p f (parameter_below (length t.names) item) refl

      go : (b : Bool) → plain_below 0 e item ≡ b → b ≡ items_fit t e
      go true p = following_done (behind p) (omega arith) default_last.2
      go false p = no_body p (field_below e (length t.names) item) refl
