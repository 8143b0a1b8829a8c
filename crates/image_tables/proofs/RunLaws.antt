-- Runs that stand end to end, and the loop that checks them.
use mathlib.Core.Path.{◌≡◌, refl, sym, ap, ◌∙◌}
use Rattle.std.specs.List.{list_all, range_with_len}
use mathlib.Core.Bool.{Bool, true, false, ◌&&◌}
use mathlib.Core.Logic.{⊎_elim}
use Prim.Native.Nat.{ℕ, zero, suc, ◌+◌, ◌*◌, ◌≤◌, ◌<◌}
use native.Mathlib.Nat.{mul-suc}
use native.Mathlib.Numerals.{add-one}
use native.Mathlib.Omega.{arith}
use mathlib.Core.List.{List}
use lib.Dec.{eqb}
use borrow.Author.Tests.{eq-eqb, ne_eqb, eqb-true}
use Rattle.semantics.specs.Base.{all}
use Rattle.image_rules.proofs.ItemLaws.{and-true}
use Rattle.image_rules.proofs.ChildLaws.{and-and}
use Rattle.semantics.proofs.BaseLaws.{and_left, and_right, and-false, below_suc, all_none, all_more, all-fails, all-holds}
use Rattle.image_fields.specs.Image.{field_in, expr_count, name_count, text_count, item_total, byte_total, names_place, kind_of, detail_of, expr_text_of, text_first_of, text_length_of, first_of, count_of}
use Rattle.image_rules.specs.Rules.{expr_fits}
use Rattle.image_tables.specs.Inside.Names.{name_stands}
use Rattle.image_tables.specs.Tables.{total, starts_there, texts_fit, name_fits, names_fit, expr_stands, exprs_fit}

-- the sum of the first k lengths, one more at a time
pub total-none : (f : ℕ → ℕ) → total f 0 ≡ 0
unfolding total
total-none f = refl

pub total-more : (f : ℕ → ℕ) (k : ℕ) → total f (k + 1) ≡ total f k + f k
unfolding total
total-more f k = rw add-one

pub total_grows : (f : ℕ → ℕ) (k n : ℕ) → k < n → total f k + f k ≤ total f n
unfolding total
total_grows f k zero h = absurd (omega arith)
total_grows f k (suc n) h = ⊎_elim (λ q. rw q (omega arith)) (λ q. omega (arith, total_grows f k n q)) (below_suc k n h)

module _ (first count : ℕ → ℕ) where
  pub starts_there_lem : (k f next : ℕ) → f ≡ first k → next ≡ total count k → f ≡ next → starts_there first count k ≡ true
  unfolding starts_there
  starts_there_lem k f next p q e = eq-eqb _ _ (sym p ∙ e ∙ q)

  pub starts_elsewhere : (k f next : ℕ) → f ≡ first k → next ≡ total count k → (f ≡ next → ⊥) → starts_there first count k ≡ false
  unfolding starts_there
  starts_elsewhere k f next p q e = ne_eqb _ _ (λ z. e (p ∙ z ∙ sym q))

-- a test of the numbers of a range is that of every number below its length
all-same : (p q : ℕ → Bool) (n : ℕ) → ((k : ℕ) → p k ≡ q k) → all p n ≡ all q n
unfolding all
all-same p q zero h = refl
all-same p q (suc n) h = ap (λ b. b && p n) (all-same p q n h) ∙ ap (λ b. all q n && b) (h n)

all-front : (p : ℕ → Bool) (n : ℕ) → (p 0 && all (λ k. p (suc k)) n) ≡ all p (suc n)
unfolding all
all-front p zero = and-true (p 0)
all-front p (suc n) = sym (and-and (p 0) (all (λ k. p (suc k)) n) (p (suc n))) ∙ ap (λ b. b && p (suc n)) (all-front p n)

all-from : (p : ℕ → Bool) (from n : ℕ) → list_all p (range_with_len from n) ≡ all (λ k. p (from + k)) n
unfolding all
all-from p from zero = refl
all-from p from (suc n) =
    ap (λ b. p from && b) (all-from p (from + 1) n ∙ all-same (λ k. p (from + 1 + k)) (λ k. p (from + suc k)) n (λ k. ap p (omega arith)))
    ∙ ap (λ b. b && all (λ k. p (from + suc k)) n) (ap p (omega arith)) ∙ all-front (λ k. p (from + k)) n

pub all-range : (p : ℕ → Bool) (n : ℕ) → list_all p (range_with_len 0 n) ≡ all p n
all-range p n = all-from p 0 n ∙ all-same (λ k. p (0 + k)) p n (λ k. ap p (omega arith))

-- p is the test of one entry, and the runs use all of `size`
abbrev pub standing : (ℕ → Bool) → (ℕ → ℕ) → ℕ → ℕ → Bool
standing p count n size = all p n && eqb (total count n) size

-- the loop: the first k entries pass, their runs end at `next`, and no run is longer than `most`
pub record Standing (p : ℕ → Bool) (count : ℕ → ℕ) (most n next k : ℕ) : Type 0 where
  pub inside : k ≤ n
  pub passed : all p k ≡ true
  pub sum : next ≡ total count k
  pub small : next ≤ most * k

pub standing_start : (p : ℕ → Bool) (count : ℕ → ℕ) (most n : ℕ) → Standing p count most n 0 0
standing_start p count most n = record { inside = omega arith; passed = all_none p; sum = sym (total-none count); small = omega arith }

pub standing_more : {p : ℕ → Bool} {count : ℕ → ℕ} {most n next k c : ℕ} → Standing p count most n next k → k < n → p k ≡ true → c ≡ count k → c ≤ most
    → Standing p count most n (next + c) (k + 1)
standing_more {p} {count} {most} {n} {next} {k} {c} g h e f l =
    record {
      inside = omega arith;
      passed = all_more p k g.passed e;
      sum = rw (total-more, f, g.sum);
      small = rw (add-one, mul-suc) (omega (arith, g.small));
    }

pub standing_fails : (p : ℕ → Bool) (count : ℕ → ℕ) (n size k : ℕ) → k < n → p k ≡ false → false ≡ standing p count n size
standing_fails p count n size k h e = rw (all-fails p n k h e)

-- a run that ends past `size`: the runs after it only add to it
pub standing_past : {p : ℕ → Bool} {count : ℕ → ℕ} {most n next k c : ℕ} (size : ℕ) → Standing p count most n next k → k < n → c ≡ count k → size < next + c → false ≡ standing p count n size
standing_past {p} {count} {most} {n} {next} {k} {c} size g h e l =
    sym (rw (ne_eqb (total count n) size (λ q. absurd (omega (arith, q, g.sum, total_grows count k n h)))) (and-false (all p n)))

pub standing_done : {p : ℕ → Bool} {count : ℕ → ℕ} {most n next k : ℕ} (size : ℕ) → Standing p count most n next k → n ≤ k → eqb next size ≡ standing p count n size
standing_done {p} {count} {most} {n} {next} {k} size g h =
    let e : k ≡ n = omega (arith, g.inside) in
    rw (g.sum, e, rw e at g.passed)

-- from all of it: a run lies within the whole
pub run_inside : (p : ℕ → Bool) (first count : ℕ → ℕ) (n size k : ℕ) → standing p count n size ≡ true → k < n → starts_there first count k ≡ true → first k + count k ≤ size
unfolding starts_there
run_inside p first count n size k h l e =
    let a : first k ≡ total count k = eqb-true _ _ e in
    let b : total count n ≡ size = eqb-true _ _ (and_right (all p n) _ h) in
    omega (arith, total_grows count k n l)

pub entry-passes : (p : ℕ → Bool) (count : ℕ → ℕ) (n size k : ℕ) → standing p count n size ≡ true → k < n → p k ≡ true
entry-passes p count n size k h l = all-holds p n k (and_left (all p n) _ h) l

-- a field of a record, where the code has the table's place in a local
pub field_there : (s : List ℕ) (x offset width : ℕ) {place there f : ℕ} → f ≡ field_in s (place + 4 * x) offset width → place ≡ there → f ≡ field_in s (there + 4 * x) offset width
field_there s x offset width h e = rw (← e) h

-- the rules, where the code has the counts in locals
module _ (s : List ℕ) where
  pub texts_are : {texts bytes : ℕ} → texts ≡ text_count s → bytes ≡ byte_total s
      → standing (starts_there (text_first_of s) (text_length_of s)) (text_length_of s) texts bytes ≡ texts_fit s
  unfolding texts_fit
  texts_are p q = rw (p, q)

  pub name-is : (n : ℕ) {place texts : ℕ} {r : Bool} → r ≡ name_stands s (place + 4 * n) texts → place ≡ names_place s → texts ≡ text_count s
      → r ≡ name_fits s n
  unfolding name_fits name_stands
  name-is n h p q = rw (← p, ← q) h

  pub names_are : {names : ℕ} → names ≡ name_count s → all (name_fits s) names ≡ names_fit s
  unfolding names_fit
  names_are p = rw p

  pub exprs_are : {exprs items : ℕ} → exprs ≡ expr_count s → items ≡ item_total s → standing (expr_stands s) (count_of s) exprs items ≡ exprs_fit s
  unfolding exprs_fit
  exprs_are p q = rw (p, q)

  -- what rule 5 gives of all items
  pub items-whole : exprs_fit s ≡ true → total (count_of s) (expr_count s) ≡ item_total s
  unfolding exprs_fit
  items-whole h = eqb-true _ _ (and_right (all (expr_stands s) (expr_count s)) _ h)

  -- what rule 5 gives of an expression: its own fields fit, and its run lies in the table
  module _ (h : exprs_fit s ≡ true) (e : ℕ) (l : e < expr_count s) where
    stands : expr_stands s e ≡ true
    unfolding exprs_fit
    stands = entry-passes (expr_stands s) (count_of s) (expr_count s) (item_total s) e h l

    pub expr-own : expr_fits (text_count s) (kind_of s e) (detail_of s e) (expr_text_of s e) ≡ true
    unfolding expr_stands
    expr-own = and_left _ _ stands

    pub expr-starts : first_of s e ≡ total (count_of s) e
    unfolding expr_stands starts_there
    expr-starts = eqb-true _ _ (and_right (expr_fits (text_count s) (kind_of s e) (detail_of s e) (expr_text_of s e)) _ stands)

    pub expr-run : first_of s e + count_of s e ≤ item_total s
    unfolding exprs_fit expr_stands
    expr-run = run_inside (expr_stands s) (first_of s) (count_of s) (expr_count s) (item_total s) e h l
        (and_right (expr_fits (text_count s) (kind_of s e) (detail_of s e) (expr_text_of s e)) _ stands)
