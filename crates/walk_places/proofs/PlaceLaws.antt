-- Items that lead to no visit: the passes over the item table, from its end to its start.
use mathlib.Core.Path.{◌≡◌, refl, sym, ap, subst, ◌∙◌}
use mathlib.Core.Bool.{Bool, true, false, cond}
use mathlib.Core.Logic.{inl, inr, ⊎_elim}
use mathlib.Core.List.{List}
use Prim.Native.Nat.{ℕ, zero, suc, ◌+◌, ◌-◌, ◌*◌, ◌/◌, ◌%◌, ◌^◌, ◌≤◌, ◌<◌, min}
use native.Mathlib.Omega.{arith}
use native.Mathlib.Nat.{mod-eq_of_lt}
use native.Mathlib.Decide.{dec_lt, ℕ_discrete}
use lib.ListN.{length, get_or, set, replicate, length-set, length-replicate}
use lib.Pow.{split, shr_mono}
use lib.Seq.{get_or-set_same, get_or-set_other}
use Rattle.semantics.specs.Tree.{expr_at, item_at}
use Rattle.image_fields.specs.Image.{expr_count, item_total, items_place, item_here, first_of, count_of, decode}
use Rattle.image_fields.proofs.ImageLaws.{tree-items, tree-item}
use Rattle.image_tables.specs.Tables.{total}
use Rattle.image_tables.proofs.RunLaws.{total-more, total_grows}
use Rattle.image.specs.Inside.Accepted.{Accepted}
use Rattle.walk_visit.specs.declared.Rule.{Rule}
use Rattle.walk_visit.specs.Inside.Steps.{rule_of, enters_item}
use Rattle.walk_places.specs.Inside.Places.{shift_in, place_in, enters, Quiet, Idle, Placed, Put, Skipped}

-- nothing is between an item and itself
idle-none : (s : List ℕ) {from to : ℕ} → to ≤ from → Idle s from to
idle-none s h = record { none = λ e k l m f o. absurd (omega (arith, f, o, h)) }

-- `put`
pub put_kept : {i next : ℕ} (places : List ℕ) → Put i next places places
put_kept places = record { long = refl; start = refl; shift = refl; place = λ b. inl refl }

pub put_there : {i next : ℕ} (places : List ℕ) {b : ℕ} → b ≡ i / 2 ^ shift_in places → b * 2 ^ shift_in places % 2 ^ 64 ≡ i → i < 2 ^ 20 → 2 + b < length places
    → Put i next places (set places (2 + b) next)
put_there {i} {next} places {b} q z f h =
    record {
      long = length-set places (2 + b) next;
      start = get_or-set_other places (2 + b) 0 next 0 (λ y. absurd (omega (arith, y)));
      shift = get_or-set_other places (2 + b) 1 next 0 (λ y. absurd (omega (arith, y)));
      place = λ c. elim (ℕ_discrete c b) [
        | yes y ↦ inr (rw y whole, rw y (get_or-set_same places (2 + b) next 0 h))
        | no y ↦ inl (get_or-set_other places (2 + b) (2 + c) next 0 (λ x. y (omega (arith, x))))
      ];
    }
  where
    low : b * 2 ^ shift_in places ≤ i
    low = rw q (omega (arith, split i (shift_in places)))

    whole : b * 2 ^ shift_in places ≡ i
    whole = sym (mod-eq_of_lt (omega (arith, low, f))) ∙ z

pub put_placed : {s : List ℕ} {i next : ℕ} {before after : List ℕ} → Put i next before after → Placed s before → Idle s i next → Placed s after
put_placed {s} {i} {next} {before} {after} p a n =
    record {
      long = p.long ∙ a.long;
      start = p.start ∙ a.start;
      few = omega (arith, p.shift, a.few);
      room = rw p.shift a.room;
      idle = λ b.
          subst (λ z. Idle s (b * 2 ^ z) (place_in after b)) (sym p.shift)
          (⊎_elim (λ q. subst (Idle s (b * 2 ^ shift_in before)) (sym q) (a.idle b)) (λ q. subst (Idle s (b * 2 ^ shift_in before)) (sym q.1) (subst (λ z. Idle s z next) (sym q.0) n))
          (p.place b));
    }

-- `make`
pub made : {s : List ℕ} {places : List ℕ} → Quiet places → {at shift : ℕ} → at ≡ items_place s → shift ≤ 20 → item_total s / 2 ^ shift < 510
    → Placed s (set (set places 0 at) 1 shift)
made {s} {places} z {at} {shift} q f o =
    record {
      long = length-set (set places 0 at) 1 shift ∙ length-set places 0 at ∙ z.long;
      start = get_or-set_other (set places 0 at) 1 0 shift 0 (λ y. absurd (omega (arith, y))) ∙ get_or-set_same places 0 at 0 (omega (arith, z.long)) ∙ q;
      few = omega (arith, shift_is, f);
      room = rw shift_is o;
      idle = λ b. idle-none s (omega (arith, others b));
    }
  where
    shift_is : shift_in (set (set places 0 at) 1 shift) ≡ shift
    shift_is = get_or-set_same (set places 0 at) 1 shift 0 (omega (arith, length-set places 0 at, z.long))

    others : (b : ℕ) → place_in (set (set places 0 at) 1 shift) b ≡ 0
    others b =
        get_or-set_other (set places 0 at) 1 (2 + b) shift 0 (λ y. absurd (omega (arith, y)))
        ∙ get_or-set_other places 0 (2 + b) at 0 (λ y. absurd (omega (arith, y))) ∙ z.zeros (2 + b)

zero-at : (n i : ℕ) → get_or {A = ℕ} (replicate n 0) i 0 ≡ 0
zero-at zero i = refl
zero-at (suc n) zero = refl
zero-at (suc n) (suc i) = zero-at n i

pub quiet_new : Quiet (replicate 512 0)
quiet_new = record { long = length-replicate {A = ℕ} 512 0; zeros = zero-at 512 }

-- `shift_for`
pub shift_small : {total shift : ℕ} → total < 2 ^ 20 → shift ≤ 12 → 510 ≤ total / 2 ^ shift → shift < 12
shift_small {total} {shift} h l g = elim (ℕ_discrete shift 12) [
  | yes z ↦ let y : 510 ≤ total / 2 ^ 12 = rw z at g in absurd (omega (arith, y, h))
  | no z ↦ omega (arith, z, l)
]

-- the block of an item
pub block_there : {s places : List ℕ} → Placed s places → {i : ℕ} → i ≤ item_total s → i / 2 ^ shift_in places < 510
block_there {s} {places} p h = omega (arith, p.room, shr_mono (shift_in places) h)

module _ (s : List ℕ) (a : Accepted s) where
  -- the runs of items stand one behind the other
  apart : (e c : ℕ) → c < expr_count s → e < c → first_of s e + count_of s e ≤ first_of s c
  apart e c l h = omega (arith, a.starts e (omega (arith, l, h)), a.starts c l, total_grows (count_of s) e c h)

  same-owner : (e k c j : ℕ) → e < expr_count s → c < expr_count s → k < count_of s e → j < count_of s c → first_of s e + k ≡ first_of s c + j → e ≡ c
  same-owner e k c j l m p q h = elim (dec_lt e c) [
    | yes z ↦ absurd (omega (arith, apart e c m z, h, p))
    | no z ↦ elim (dec_lt c e) [
      | yes y ↦ absurd (omega (arith, apart c e l y, h, q))
      | no y ↦ omega (arith, z, y)
    ]
  ]

  -- one item more, from the end: item k of e
  module _ (e k : ℕ) (l : e < expr_count s) (m : k < count_of s e) {next : ℕ} (n : Idle s (first_of s e + k + 1) next) where
    here : enters s e k ≡ false → Idle s (first_of s e + k) next
    here f =
        record {
          none = λ c j p q g o. elim (ℕ_discrete (first_of s c + j) (first_of s e + k)) [
            | yes z ↦
                let w : c ≡ e = same-owner c j e k p l q m z in
                let y : j ≡ k = omega (arith, z, ap (first_of s) w) in
                rw (w, y) f
            | no z ↦ n.none c j p q (omega (arith, g, z)) o
          ];
        }

    pub idle-more : {i at r : ℕ} → i ≡ first_of s e + k → at ≡ items_place s + 4 * i → {rule : Rule} → rule ≡ rule_of (decode s) e
        → r ≡ cond (enters_item rule (item_here s at)) i next → Idle s i r
    idle-more {i} {at} {r} p q {rule} u v =
        let w : item_at (decode s) e k ≡ item_here s at = tree-item s e k l m ∙ ap (item_here s) (omega (arith, p, q)) in
        go (enters s e k) refl (rw (← w, u) at v)
      where
        go : (b : Bool) → enters s e k ≡ b → r ≡ cond b i next → Idle s i r
        go true z y = idle-none s (omega (arith, y))
        go false z y = rw (p, y) (here z)

  -- `mark`: all items, and those of one expression more
  pub idle-start : {n next : ℕ} → n ≡ expr_count s → next ≡ item_total s → Idle s (total (count_of s) n) next
  idle-start h g = idle-none s (omega (arith, g, ap (total (count_of s)) h, a.whole))

  pub idle-behind : (e : ℕ) → e < expr_count s → {n next : ℕ} → Idle s (total (count_of s) n) next → n ≡ e + 1 → Idle s (first_of s e + count_of s e) next
  idle-behind e l {next = next} h q = subst (λ z. Idle s z next) (ap (total (count_of s)) q ∙ omega (arith, total-more (count_of s) e, a.starts e l)) h

  pub idle-before : (e : ℕ) → e < expr_count s → {next : ℕ} → Idle s (first_of s e) next → Idle s (total (count_of s) e) next
  idle-before e l {next} n = subst (λ z. Idle s z next) (a.starts e l) n

  -- `behind`
  module _ (e k : ℕ) (l : e < expr_count s) (m : k < length (expr_at (decode s) e).items) where
    pub skipped_one : Skipped s e k (k + 1)
    skipped_one = record { ahead = omega arith; inside = omega arith; none = λ j p q. absurd (omega (arith, p, q)) }

    pub skipped_more : {places : List ℕ} → Placed s places → {i next count r : ℕ} → i ≡ first_of s e + k + 1 → next ≡ place_in places (i / 2 ^ shift_in places) → i < next
        → count ≡ length (expr_at (decode s) e).items → r ≡ min (k + 1 + (next - i)) count → Skipped s e k r
    skipped_more {places} p {i} {next} q n h c o =
        record {
          ahead = omega (arith, o, c, h, q);
          inside = omega (arith, o, c);
          none = λ j x y.
              (p.idle (i / 2 ^ shift_in places)).none e j l (omega (arith, tree-items s e l, o, c, y)) (omega (arith, q, x, split i (shift_in places))) (omega (arith, n, o, h, q, y));
        }

-- the loop of `mark_items`: all items of e from item i of the table on
pub record Marking (s : List ℕ) (e : ℕ) (places : List ℕ) (next i : ℕ) : Type 0 where
  pub low : first_of s e ≤ i
  pub high : i ≤ first_of s e + count_of s e
  pub few : next < 2 ^ 20
  pub idle : Idle s i next
  pub placed : Placed s places

pub marking_start : {s : List ℕ} {e : ℕ} {places : List ℕ} {next i : ℕ} → i ≡ first_of s e + count_of s e → next < 2 ^ 20 → Idle s (first_of s e + count_of s e) next → Placed s places
    → Marking s e places next i
marking_start {s} {e} {next = next} q f n p =
    record { low = omega (arith, q); high = omega (arith, q); few = f; idle = subst (λ z. Idle s z next) (sym q) n; placed = p }

pub marking_done : {s : List ℕ} {e : ℕ} {places : List ℕ} {next i : ℕ} → Marking s e places next i → i ≤ first_of s e → Idle s (first_of s e) next
marking_done {s} {next = next} g h = subst (λ z. Idle s z next) (omega (arith, h, g.low)) g.idle

module _ {s : List ℕ} {e : ℕ} {places : List ℕ} {next i : ℕ} (g : Marking s e places next i) (a : Accepted s) (l : e < expr_count s) (h : first_of s e < i) where
  -- the item before i, by its owner
  abbrev place : ℕ
  place = i - 1 - first_of s e

  inside : place < count_of s e
  inside = omega (arith, g.high, h)

  pub marking_in : {at : ℕ} → at ≡ items_place s + 4 * (i - 1) → at + 4 ≤ length s
  marking_in q = omega (arith, q, g.high, h, a.runs e l, a.sized.size)

  pub marking_low : i - 1 ≤ item_total s
  marking_low = omega (arith, g.high, h, a.runs e l)

  module _ {at r : ℕ} {rule : Rule} (q : at ≡ items_place s + 4 * (i - 1)) (u : rule ≡ rule_of (decode s) e) (v : r ≡ cond (enters_item rule (item_here s at)) (i - 1) next) where
    before : Idle s (i - 1) r
    before = idle-more s a e place l inside (subst (λ z. Idle s z next) (omega (arith, h)) g.idle) (omega (arith, h)) q u v

    pub marking_few : r < 2 ^ 20
    marking_few = go (enters_item rule (item_here s at)) v
      where
        go : (b : Bool) → r ≡ cond b (i - 1) next → r < 2 ^ 20
        go true y = omega (arith, y, g.high, a.runs e l, a.sized.items-few)
        go false y = omega (arith, y, g.few)

    pub marking_more : {after : List ℕ} → Put (i - 1) r places after → Marking s e after r (i - 1)
    marking_more p =
        record {
          low = omega (arith, h);
          high = omega (arith, g.high);
          few = marking_few;
          idle = before;
          placed = put_placed p g.placed before;
        }
