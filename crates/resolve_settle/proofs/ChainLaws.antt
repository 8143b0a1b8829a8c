-- A chain gone through from its head: the loop of `settle_chain`.
use mathlib.Core.Path.{◌≡◌, refl, ap, sym, subst, ◌∙◌}
use mathlib.Core.List.{List, [], ◌∷◌}
use Prim.Native.Nat.{ℕ, ◌+◌, ◌-◌, ◌*◌, ◌≤◌, ◌<◌}
use native.Mathlib.Omega.{arith}
use lib.ListN.{length}
use borrow.Author.Tests.{le-leb, lt-leb}
use Rattle.image_fields.specs.Inside.Words.{word_of}
use Rattle.lent.specs.Inside.Stores.{store16}
use Rattle.lent.proofs.BufferLaws.{length-store16}
use Rattle.resolve_laws.specs.Inside.Logged.{half}
use Rattle.resolve_settle.specs.Inside.Chains.{Chain, Falls, written, behind, Chained, Unchained}

-- a head has one chain
chain_same : (w : List ℕ) (h : ℕ) (qs rs : List ℕ) → Chain w h qs → Chain w h rs → qs ≡ rs
unfolding Chain
chain_same w h [] [] a b = refl
chain_same w h [] (r ∷ rs) a b = absurd (omega (arith, a, b.0))
chain_same w h (q ∷ qs) [] a b = absurd (omega (arith, b, a.0))
chain_same w h (q ∷ qs) (r ∷ rs) a b =
    let e : q ≡ r = omega (arith, a.0, b.0) in
    ap (λ z. z ∷ qs) e ∙ ap (λ l. r ∷ l) (chain_same w (half w (2 * r + 1)) qs rs (subst (λ z. Chain w (half w (2 * z + 1)) qs) e a.1) b.1)

-- a head is at most one more than every place below n
pub head_low : (w : List ℕ) (h n : ℕ) (qs : List ℕ) → Chain w h qs → Falls n qs → h ≤ n
unfolding Chain Falls
head_low w h n [] c f = omega (arith, c)
head_low w h n (q ∷ qs) c f = omega (arith, c.0, f.0)

-- what is known of a chain whose head is behind `start`
record Next (w : List ℕ) (h start : ℕ) (places : List ℕ) (many : ℕ) : Type 0 where
  rest : List ℕ
  here : places ≡ (h - 1) ∷ rest
  chain : Chain w (half w (2 * (h - 1) + 1)) rest
  falls : Falls (h - 1) rest
  low : h - 1 < many

next : (w : List ℕ) (h start : ℕ) (places : List ℕ) (many : ℕ) → Chain w h places → Falls many places → start < h → Next w h start places many
unfolding Chain Falls
next w h start [] many c f l = absurd (omega (arith, c, l))
next w h start (q ∷ qs) many c f l =
    let e : q ≡ h - 1 = omega (arith, c.0) in
    record {
      rest = qs;
      here = ap (λ z. z ∷ qs) e;
      chain = subst (λ z. Chain w (half w (2 * z + 1)) qs) e c.1;
      falls = subst (λ z. Falls z qs) e f.1;
      low = omega (arith, f.0, e);
    }

written_on : (w : List ℕ) (start x q : ℕ) (qs table : List ℕ) → start ≤ q → written w start x (q ∷ qs) table ≡ written w start x qs (store16 table (2 * half w (2 * q)) x)
unfolding written
written_on w start x q qs table h = rw (le-leb start q h)

behind_on : (start q : ℕ) (qs : List ℕ) → start ≤ q → behind start (q ∷ qs) ≡ behind start qs
unfolding behind
behind_on start q qs h = rw (le-leb start q h)

written-done : (w : List ℕ) (h start x : ℕ) (qs table : List ℕ) → Chain w h qs → h ≤ start → written w start x qs table ≡ table
unfolding written Chain
written-done w h start x [] table c l = refl
written-done w h start x (q ∷ qs) table c l = let m : q < start = omega (arith, c.0) in rw (lt-leb start q m)

behind-done : (w : List ℕ) (h start : ℕ) (qs : List ℕ) → Chain w h qs → h ≤ start → behind start qs ≡ qs
unfolding behind Chain
behind-done w h start [] c l = refl
behind-done w h start (q ∷ qs) c l = let m : q < start = omega (arith, c.0) in rw (lt-leb start q m)

-- what is left from h on gives what is to be done in all
pub record Unchaining (w : List ℕ) (head start x : ℕ) (table₀ table : List ℕ) (h : ℕ) : Type 0 where
  pub places : List ℕ
  pub many : ℕ
  pub chain : Chain w h places
  pub falls : Falls many places
  pub room : 4 * many ≤ length w
  pub kept : length table ≡ length table₀
  pub entries : (qs : List ℕ) → Chain w head qs → written w start x qs table₀ ≡ written w start x places table
  pub rest : (qs : List ℕ) → Chain w head qs → behind start qs ≡ behind start places

pub unchaining_start : {w : List ℕ} {head : ℕ} (start x : ℕ) (table : List ℕ) → Chained w head → Unchaining w head start x table table head
unchaining_start {w} {head} start x table c =
    record {
      places = c.places;
      many = c.many;
      chain = c.chain;
      falls = c.falls;
      room = c.room;
      kept = refl;
      entries = λ qs d. ap (λ l. written w start x l table) (chain_same w head qs c.places d c.chain);
      rest = λ qs d. ap (behind start) (chain_same w head qs c.places d c.chain);
    }

module _ {w : List ℕ} {head start x : ℕ} {table₀ table : List ℕ} {h : ℕ} (u : Unchaining w head start x table₀ table h) where
  module _ (l : start < h) where
    on : Next w h start u.places u.many
    on = next w h start u.places u.many u.chain u.falls l

    pub event_in : 4 * (h - 1) + 4 ≤ length w
    event_in = omega (arith, on.low, u.room)

    pub unchaining_more : {e h' : ℕ} {after : List ℕ} → e ≡ word_of w (4 * (h - 1)) 2 → h' ≡ word_of w (4 * (h - 1) + 2) 2
        → after ≡ store16 table (2 * e) x → Unchaining w head start x table₀ after h'
    unchaining_more {e} {h'} {after} i j k =
        record {
          places = on.rest;
          many = h - 1;
          chain = subst (λ z. Chain w z on.rest) (sym next-is) on.chain;
          falls = on.falls;
          room = omega (arith, on.low, u.room);
          kept = ap length k ∙ length-store16 table (2 * e) x ∙ u.kept;
          entries = λ qs d. u.entries qs d ∙ ap (λ z. written w start x z table) on.here ∙ written_on w start x (h - 1) on.rest table (omega arith)
              ∙ ap (written w start x on.rest) (ap (λ z. store16 table (2 * z) x) (sym expr-is) ∙ sym k);
          rest = λ qs d. u.rest qs d ∙ ap (behind start) on.here ∙ behind_on start (h - 1) on.rest (omega arith);
        }
      where
        expr-is : e ≡ half w (2 * (h - 1))
        expr-is = i ∙ (let z : 4 * (h - 1) ≡ 2 * (2 * (h - 1)) = omega arith in rw z)

        next-is : h' ≡ half w (2 * (h - 1) + 1)
        next-is = j ∙ (let z : 4 * (h - 1) + 2 ≡ 2 * (2 * (h - 1) + 1) = omega arith in rw z)

    pub falls_on : {h' : ℕ} → h' ≡ word_of w (4 * (h - 1) + 2) 2 → h' < h
    falls_on {h'} j =
        let z : 4 * (h - 1) + 2 ≡ 2 * (2 * (h - 1) + 1) = omega arith in
        let i : h' ≡ half w (2 * (h - 1) + 1) = j ∙ rw z in
        omega (arith, i, l, head_low w (half w (2 * (h - 1) + 1)) (h - 1) on.rest on.chain on.falls)

  pub unchaining_done : h ≤ start → Unchained w head start x table₀ table h
  unchaining_done l =
      record {
        entries = λ qs d. sym (u.entries qs d ∙ written-done w h start x u.places table u.chain l);
        rest = λ qs d. subst (Chain w h) (sym (u.rest qs d ∙ behind-done w h start u.places u.chain l)) u.chain;
      }
