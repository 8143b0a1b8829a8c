-- The names' texts entered one by one, and the classes that are known then.
use Rattle.std.specs.Prelude.{Option, Some, None}
use mathlib.Core.Path.{◌≡◌, refl, ap, sym, subst, ◌∙◌}
use mathlib.Core.Bool.{Bool, true, false}
use mathlib.Core.Logic.{◌⊎◌, inl, inr}
use mathlib.Core.List.{List, [], ◌∷◌}
use Prim.Native.Nat.{ℕ, suc, ◌+◌, ◌-◌, ◌≤◌, ◌<◌}
use native.Mathlib.Omega.{arith}
use native.Mathlib.Decide.{ℕ_discrete}
use lib.ListN.{length, get_or, set, take, length-set}
use lib.Seq.{take_all, get_or-set_same, get_or-set_other}
use Rattle.semantics.specs.Base.{only, or_else, All}
use Rattle.semantics.specs.Tree.{Tree, Text, name_at, text_at, same}
use Rattle.semantics.proofs.BaseLaws.{true≢false, same-equal, All_to}
use Rattle.image_fields.specs.Image.{name_count, text_count, decode}
use Rattle.image_fields.specs.Inside.Numbers.{number_or}
use Rattle.image.specs.Inside.Accepted.{Accepted}
use Rattle.resolve_laws.specs.Inside.Classes.{alike, name_texts, class_of}
use Rattle.resolve_laws.proofs.ClassLaws.{alike_cons, alike-bytes}
use Rattle.text_classes.specs.declared.Sought.{Sought}
use Rattle.text_classes.specs.declared.Sought.TheVariants.{At, Absent, Full}
use Rattle.text_classes.specs.Inside.Hash.{slot_of, Slot}
use Rattle.text_classes.specs.Inside.Chains.{limit, chain_of, found_text, chain_for, InSlot, Seeks, Clear, Roomy, Known, Classed, Told, Entered, Entering, Kept}
use Rattle.text_classes.proofs.HashLaws.{slot_below}
use Rattle.text_classes.proofs.ChainLaws.{chain_end, chain_more, chain-whole, chain-set, positive, alike-none, alike-small}
use Rattle.text_classes.proofs.NameLaws.{name-text, many-names, class_inside, class_nameless, or-false, none_first, names-one, told_clear, told-final, no_change, told_same, told-found, told_new}

pub roomy_kept : {s c b n c' b' n' : List ℕ} → Roomy s c b n → length c' ≡ length c → length b' ≡ length b → length n' ≡ length n → Roomy s c' b' n'
roomy_kept r e f h =
    record {
      classes_fit = omega (arith, r.classes_fit);
      buckets_fit = omega (arith, r.buckets_fit);
      next_fits = omega (arith, r.next_fits);
      some_bucket = omega (arith, r.some_bucket);
      few_buckets = omega (arith, r.few_buckets);
    }

pub all_known : {s class buckets next : List ℕ} → Roomy s class buckets next → Kept s class (text_count s) → Known s class buckets next
all_known r k =
    record {
      room = r;
      kept = λ x l h. k.kept x l;
      found = λ x l h. absurd (omega (arith, k.kept x l));
    }

some_first : {A : Type 0} (a : A) (o : Option A) → or_else (only true a) o ≡ Some a
unfolding or_else only
some_first a o = refl

none_then : {A : Type 0} (a : A) (o : Option A) → or_else (only false a) o ≡ o
unfolding or_else only
none_then a o = refl

-- of bytes that no name before it has: the text goes before all others of its chain
fresh : (t : Tree) (x y : ℕ) (l chain : List ℕ) → alike t y l ≡ None → alike t x chain ≡ alike t x l
    → alike t x (y ∷ chain) ≡ or_else (alike t x l) (only (same (text_at t x) (text_at t y)) y)
fresh t x y l chain h e = alike_cons t x y chain ∙ go (same (text_at t x) (text_at t y)) refl
  where
    go : (b : Bool) → same (text_at t x) (text_at t y) ≡ b → or_else (only b y) (alike t x chain) ≡ or_else (alike t x l) (only b y)
    go true q = some_first y (alike t x chain) ∙ sym (ap (λ o. or_else o (only true y)) (alike-bytes t x y l (same-equal (text_at t x) (text_at t y) q) ∙ h) ∙ none_first y)
    go false q = none_then y (alike t x chain) ∙ e ∙ sym (or-false (alike t x l) y)

-- and is passed over by other bytes
apart : (t : Tree) (x y : ℕ) (o : Option ℕ) → (text_at t x ≡ text_at t y → ⊥) → or_else o (only (same (text_at t x) (text_at t y)) y) ≡ o
apart t x y o n = go (same (text_at t x) (text_at t y)) refl
  where
    go : (b : Bool) → same (text_at t x) (text_at t y) ≡ b → or_else o (only b y) ≡ o
    go true q = absurd (n (same-equal (text_at t x) (text_at t y) q))
    go false q = or-false o y

pub entered-start : {s class buckets : List ℕ} (next : List ℕ) → Roomy s class buckets next → Clear class → Clear buckets → Entered s class buckets next 0
entered-start {s} {class} {buckets} next r c b =
    record {
      room = r;
      told = told_clear c;
      chains = λ x l. ap (alike (decode s) x) (bare (slot_of (length buckets) (text_at (decode s) x)));
      texts = λ k l. subst (All (InSlot s (length buckets) k)) (sym (bare k)) tt;
    }
  where
    bare : (k : ℕ) → chain_of next limit (get_or buckets k 0) ≡ []
    bare k = ap (chain_of next limit) (b.zero-at k) ∙ chain_end next limit

pub entered-done : {s class buckets next : List ℕ} {n : ℕ} → Entered s class buckets next n → name_count s ≤ n → Known s class buckets next
unfolding class_of number_or
entered-done {s} {class} {buckets} {next} {n} g l =
    record {
      room = g.room;
      kept = λ x m h. told-final g.told m h;
      found = λ x m h.
          record {
            texts = All_to (InSlot s (length buckets) (slot_of (length buckets) (text_at (decode s) x))) (λ z. z < text_count s) (chain_for (decode s) buckets next x)
                (λ z i. i.inside) (in_slot x);
            tells = ap (number_or x) (sym (ap (alike (decode s) x) all) ∙ sym (g.chains x m));
          };
    }
  where
    all : take n (name_texts (decode s)) ≡ name_texts (decode s)
    all = take_all n (name_texts (decode s)) (omega (arith, many-names s))

    in_slot : (x : ℕ) → All (InSlot s (length buckets) (slot_of (length buckets) (text_at (decode s) x))) (chain_for (decode s) buckets next x)
    in_slot x = g.texts (slot_of (length buckets) (text_at (decode s) x)) (slot_below (text_at (decode s) x) g.room.some_bucket)

-- `enter`
module _ {s class buckets next : List ℕ} {n : ℕ} (g : Entered s class buckets next n) (a : Accepted s) (m : n < name_count s) {x : ℕ} (e : x ≡ (name_at (decode s) n).text) where
  -- the names before this one have its bytes
  entered_again : {z : ℕ} → alike (decode s) x (take n (name_texts (decode s))) ≡ Some z → {after : List ℕ} → length after ≡ length class → Told s after (n + 1)
      → Entered s after buckets next (n + 1)
  entered_again f h k =
      record {
        room = roomy_kept g.room h refl refl;
        told = k;
        chains = λ y l. g.chains y l ∙ sym (no_change s m e f y);
        texts = g.texts;
      }

  pub enter-known : (get_or class x 0 ≡ 0 → ⊥) → Entering s class buckets next n true
  enter-known h =
      let f : alike (decode s) x (take n (name_texts (decode s))) ≡ _ = g.told.told x (name-text a m e) (positive (get_or class x 0) h) in
      record { room = g.room; entered = λ q. entered_again f refl (told_same g.told m e f) }

  module _ {text : Text} (w : text ≡ text_at (decode s) x) {slot : ℕ} (p : Slot (length buckets) text slot) {head : ℕ} (q : head ≡ get_or buckets slot 0) where
    slot_of_lem : slot ≡ slot_of (length buckets) (text_at (decode s) x)
    slot_of_lem = p.slot_is ∙ ap (slot_of (length buckets)) w

    head_of : chain_of next limit head ≡ chain_of next limit (get_or buckets slot 0)
    head_of = ap (chain_of next limit) q

    chain_of_lem : chain_of next limit head ≡ chain_for (decode s) buckets next x
    chain_of_lem = head_of ∙ ap (λ b. chain_of next limit (get_or buckets b 0)) slot_of_lem

    pub enter-texts : All (λ z. z < text_count s) (chain_of next limit head)
    enter-texts =
        All_to (InSlot s (length buckets) slot) (λ z. z < text_count s) (chain_of next limit head) (λ z i. i.inside)
        (subst (All (InSlot s (length buckets) slot)) (sym head_of) (g.texts slot p.inside))

    module _ {r : Sought} (k : Seeks (decode s) x (chain_of next limit head) r) where
      answered : alike (decode s) x (take n (name_texts (decode s))) ≡ found_text r
      answered = sym (g.chains x (name-text a m e)) ∙ ap (alike (decode s) x) (sym chain_of_lem) ∙ k.answer

      -- its bytes are in the chain
      module _ {z : ℕ} (h : r ≡ At z) where
        enter-told : alike (decode s) x (take n (name_texts (decode s))) ≡ Some z
        unfolding found_text
        enter-told = answered ∙ ap found_text h

        pub enter-small : z < text_count s
        unfolding found_text
        enter-small = alike-small s (chain_of next limit head) x z enter-texts (k.answer ∙ ap found_text h)

        pub enter-alike : Entering s (set class x (z + 1)) buckets next n true
        enter-alike =
            let f : alike (decode s) x (take n (name_texts (decode s))) ≡ Some (z + 1 - 1) = enter-told ∙ ap Some (omega arith) in
            record {
              room = roomy_kept g.room (length-set class x (z + 1)) refl refl;
              entered = λ _. entered_again f (length-set class x (z + 1)) (told-found g.told m e a g.room.classes_fit (z + 1) f);
            }

      pub enter_full : Entering s class buckets next n false
      enter_full = record { room = g.room; entered = λ z. absurd (true≢false z refl) }

      -- its bytes are new, and its chain has room for one more
      module _ (h : r ≡ Absent) where
        new : alike (decode s) x (take n (name_texts (decode s))) ≡ None
        unfolding found_text
        new = answered ∙ ap found_text h

        not_there : All (λ z. z ≡ x → ⊥) (chain_of next limit (get_or buckets slot 0))
        unfolding found_text
        not_there = alike-none (decode s) x (chain_of next limit (get_or buckets slot 0)) (ap (alike (decode s) x) (sym head_of) ∙ k.answer ∙ ap found_text h)

        abbrev after_next : List ℕ
        after_next = set next x (get_or buckets slot 0)

        abbrev after_buckets : List ℕ
        after_buckets = set buckets slot (x + 1)

        -- the chain of its slot, and of the others
        own-chain : chain_of after_next limit (get_or after_buckets slot 0) ≡ x ∷ chain_of next limit (get_or buckets slot 0)
        own-chain =
            ap (chain_of after_next limit) (get_or-set_same buckets slot (x + 1) 0 p.inside)
            ∙ chain_more after_next limit (x + 1) (omega arith) (λ z. omega (arith, z))
            ∙ rest
          where
            short : length (chain_of next limit (get_or buckets slot 0)) < limit
            short = omega (arith, k.spare h, ap length head_of)

            whole : chain_of next 7 (get_or buckets slot 0) ≡ chain_of next limit (get_or buckets slot 0)
            whole = chain-whole next 7 (get_or buckets slot 0) short

            tail : chain_of after_next 7 (get_or after_next x 0) ≡ chain_of next limit (get_or buckets slot 0)
            tail =
                ap (chain_of after_next 7) (get_or-set_same next x (get_or buckets slot 0) 0 (omega (arith, name-text a m e, g.room.next_fits)))
                ∙ chain-set next x (get_or buckets slot 0) 7 (get_or buckets slot 0) (subst (All (λ z. z ≡ x → ⊥)) (sym whole) not_there)
                ∙ whole

            rest : (x + 1 - 1) ∷ chain_of after_next (limit - 1) (get_or after_next (x + 1 - 1) 0) ≡ x ∷ chain_of next limit (get_or buckets slot 0)
            rest = let o : x + 1 - 1 ≡ x = omega arith in rw o (ap (λ l. x ∷ l) tail)

        other-chain : (b : ℕ) → b < length buckets → (b ≡ slot → ⊥) → chain_of after_next limit (get_or after_buckets b 0) ≡ chain_of next limit (get_or buckets b 0)
        other-chain b l o =
            ap (chain_of after_next limit) (get_or-set_other buckets slot b (x + 1) 0 o)
            ∙ chain-set next x (get_or buckets slot 0) limit (get_or buckets b 0)
            (All_to (InSlot s (length buckets) b) (λ z. z ≡ x → ⊥) (chain_of next limit (get_or buckets b 0))
            (λ z j y. o (sym j.slot_is ∙ ap (λ u. slot_of (length buckets) (text_at (decode s) u)) y ∙ sym slot_of_lem)) (g.texts b l))

        chains_new : (y : ℕ) → y < text_count s
            → alike (decode s) y (chain_for (decode s) after_buckets after_next y) ≡ alike (decode s) y (take (n + 1) (name_texts (decode s)))
        chains_new y l =
            elim (ℕ_discrete (slot_of (length buckets) (text_at (decode s) y)) slot) [
              | yes z ↦ ap (alike (decode s) y) (there ∙ ap (λ c. chain_of after_next limit (get_or after_buckets c 0)) z ∙ own-chain)
                  ∙ fresh (decode s) y x (take n (name_texts (decode s))) (chain_of next limit (get_or buckets slot 0)) new
                  (ap (λ c. alike (decode s) y (chain_of next limit (get_or buckets c 0))) (sym z) ∙ g.chains y l)
                  ∙ sym (names-one s m e y)
              | no z ↦ ap (alike (decode s) y) (there ∙ other-chain (slot_of (length buckets) (text_at (decode s) y)) (slot_below (text_at (decode s) y) g.room.some_bucket) z)
                  ∙ g.chains y l
                  ∙ sym (names-one s m e y ∙ apart (decode s) y x (alike (decode s) y (take n (name_texts (decode s)))) (λ o. z (ap (slot_of (length buckets)) o ∙ sym slot_of_lem)))
            ]
          where
            there : chain_for (decode s) after_buckets after_next y ≡ chain_of after_next limit (get_or after_buckets (slot_of (length buckets) (text_at (decode s) y)) 0)
            there = ap (λ c. chain_of after_next limit (get_or after_buckets (slot_of c (text_at (decode s) y)) 0)) (length-set buckets slot (x + 1))

        texts_new : (b : ℕ) → b < length buckets → All (InSlot s (length buckets) b) (chain_of after_next limit (get_or after_buckets b 0))
        texts_new b l =
            elim (ℕ_discrete b slot) [
              | yes z ↦ rw z (subst (All (InSlot s (length buckets) slot)) (sym own-chain) (record { inside = name-text a m e; slot_is = sym slot_of_lem }, g.texts slot p.inside))
              | no z ↦ subst (All (InSlot s (length buckets) b)) (sym (other-chain b l z)) (g.texts b l)
            ]

        pub enter_new : Entering s (set class x (x + 1)) (set buckets slot (x + 1)) (set next x (get_or buckets slot 0)) n true
        enter_new = record { room = room_new; entered = λ z. record { room = room_new; told = told_new g.told m e a g.room.classes_fit new; chains = chains_new; texts = texts_there } }
          where
            room_new : Roomy s (set class x (x + 1)) after_buckets after_next
            room_new = roomy_kept g.room (length-set class x (x + 1)) (length-set buckets slot (x + 1)) (length-set next x (get_or buckets slot 0))

            texts_there : (b : ℕ) → b < length after_buckets → All (InSlot s (length after_buckets) b) (chain_of after_next limit (get_or after_buckets b 0))
            texts_there b l =
                subst (λ c. All (InSlot s c b) (chain_of after_next limit (get_or after_buckets b 0))) (sym (length-set buckets slot (x + 1)))
                (texts_new b (omega (arith, length-set buckets slot (x + 1))))

-- `class_of`
module _ {s class buckets next : List ℕ} (g : Known s class buckets next) (a : Accepted s) {x : ℕ} (l : x < text_count s) where
  pub known-told : (get_or class x 0 ≡ 0 → ⊥) → {v : ℕ} → v ≡ get_or class x 0 → Classed s class buckets next x (v - 1)
  known-told h {v} e =
      let q : get_or class x 0 ≡ suc (class_of (decode s) x) = g.kept x l (positive (get_or class x 0) h) in
      record { class_is = omega (arith, e); inside = omega (arith, e, class_inside a l); known = g }

  known-set : {v : ℕ} → v ≡ suc (class_of (decode s) x) → Known s (set class x v) buckets next
  known-set {v} q =
      record {
        room = roomy_kept g.room (length-set class x v) refl refl;
        kept = λ y m h. elim (ℕ_discrete y x) [ yes z ↦ own y z | no z ↦ rw (get_or-set_other class x y v 0 z) (g.kept y m (rw (get_or-set_other class x y v 0 z) at h)) ];
        found = λ y m h. elim (ℕ_discrete y x) [ yes z ↦ absurd (omega (arith, own y z)) | no z ↦ g.found y m (rw (get_or-set_other class x y v 0 z) at h) ];
      }
    where
      own : (y : ℕ) → y ≡ x → get_or (set class x v) y 0 ≡ suc (class_of (decode s) y)
      own y z = rw (z, get_or-set_same class x v 0 (omega (arith, g.room.classes_fit))) q

  module _ (h : get_or class x 0 ≡ 0) {text : Text} (w : text ≡ text_at (decode s) x) {slot : ℕ} (p : Slot (length buckets) text slot) {head : ℕ} (q : head ≡ get_or buckets slot 0) where
    chain_there : chain_of next limit head ≡ chain_for (decode s) buckets next x
    chain_there = ap (chain_of next limit) q ∙ ap (λ b. chain_of next limit (get_or buckets b 0)) (p.slot_is ∙ ap (slot_of (length buckets)) w)

    pub class_texts : All (λ z. z < text_count s) (chain_of next limit head)
    class_texts = subst (All (λ z. z < text_count s)) (sym chain_there) (g.found x l h).texts

    module _ {r : Sought} (k : Seeks (decode s) x (chain_of next limit head) r) where
      class_told : class_of (decode s) x ≡ number_or x (found_text r)
      class_told = (g.found x l h).tells ∙ ap (λ c. number_or x (alike (decode s) x c)) (sym chain_there) ∙ ap (number_or x) k.answer

      module _ {z : ℕ} (f : r ≡ At z) where
        pub class_small : z < text_count s
        unfolding found_text
        class_small = alike-small s (chain_of next limit head) x z class_texts (k.answer ∙ ap found_text f)

        pub class_found : Classed s (set class x (z + 1)) buckets next x z
        unfolding number_or found_text
        class_found =
            let c : class_of (decode s) x ≡ z = class_told ∙ ap (λ q. number_or x (found_text q)) f in
            record { class_is = sym c; inside = class_small; known = known-set (omega (arith, c)) }

      nothing : (r ≡ Absent) ⊎ (r ≡ Full) → found_text r ≡ None
      unfolding found_text
      nothing (inl e) = ap found_text e
      nothing (inr e) = ap found_text e

      pub class_alone : (r ≡ Absent) ⊎ (r ≡ Full) → Classed s (set class x (x + 1)) buckets next x x
      unfolding number_or
      class_alone f =
          let c : class_of (decode s) x ≡ x = class_told ∙ ap (number_or x) (nothing f) in
          record { class_is = sym c; inside = l; known = known-set (omega (arith, c)) }

-- where there are no names
pub class_alone_nameless : {s class buckets next : List ℕ} → Known s class buckets next → {x : ℕ} → x < text_count s → name_count s ≡ 0 → Classed s class buckets next x x
class_alone_nameless {s} k {x} l e = record { class_is = sym (class_nameless s e x); inside = l; known = k }

-- the loop of `enter_names`
pub record Going (s class₀ buckets₀ next₀ class buckets next : List ℕ) (n : ℕ) : Type 0 where
  pub class_kept : length class ≡ length class₀
  pub buckets_kept : length buckets ≡ length buckets₀
  pub next-kept : length next ≡ length next₀
  pub entered : Entered s class buckets next n

pub going_start : {s class buckets : List ℕ} (next : List ℕ) → Roomy s class buckets next → Clear class × Clear buckets → Going s class buckets next class buckets next 0
going_start next r c = record { class_kept = refl; buckets_kept = refl; next-kept = refl; entered = entered-start next r c.0 c.1 }

pub going_more : {s class₀ buckets₀ next₀ class buckets next class' buckets' next' : List ℕ} {n : ℕ} → Going s class₀ buckets₀ next₀ class buckets next n → {r : Bool}
    → Entering s class' buckets' next' n r → r ≡ true → length class' ≡ length class → length buckets' ≡ length buckets → length next' ≡ length next
    → Going s class₀ buckets₀ next₀ class' buckets' next' (n + 1)
going_more g h t e f i =
    record { class_kept = e ∙ g.class_kept; buckets_kept = f ∙ g.buckets_kept; next-kept = i ∙ g.next-kept; entered = h.entered t }
