-- Rules 5, 6, 10 and 11 in one pass, whose place in the item table is one number: 2 ^ 20 times the items that are used.
use mathlib.Core.Path.{◌≡◌, refl, sym, ◌∙◌}
use mathlib.Core.Bool.{Bool, true, false, ◌&&◌}
use mathlib.Core.List.{List}
use Prim.Native.Nat.{ℕ, ◌+◌, ◌-◌, ◌*◌, ◌/◌, ◌%◌, ◌^◌, ◌≤◌, ◌<◌}
use native.Mathlib.Omega.{arith}
use native.Mathlib.Decide.{ℕ_discrete}
use lib.Dec.{eqb}
use borrow.Author.Tests.{eq-eqb, ne_eqb}
use lib.Pow.{mod-pow-add}
use Rattle.semantics.specs.Base.{all}
use Rattle.semantics.proofs.BaseLaws.{and_left, and_right, and-false, all_none, all_more, all-fails}
use Rattle.image_fields.specs.Inside.Words.{word_of}
use Rattle.image_fields.specs.Image.{expr_count, text_count, item_total, items_place, item_place, kind_of, detail_of, expr_text_of, first_of, count_of, decode}
use Rattle.image_fields.specs.Inside.Asked.{Sized}
use Rattle.image_fields.proofs.FieldLaws.{Bytes, taken, field_lt}
use Rattle.image_fields.proofs.ImageLaws.{tree-items, tree-kind}
use Rattle.image_rules.specs.Rules.{expr_fits, order, complete}
use Rattle.image_rules.specs.Inside.Whole.{items_fit}
use Rattle.image_rules.specs.Inside.Machine.{owner_fits}
use Rattle.image_rules.proofs.ItemLaws.{and-true}
use Rattle.image_rules.proofs.BareLaws.{no_items, with_items}
use Rattle.image_tables.specs.Tables.{total, expr_stands, exprs_fit}
use Rattle.image_tables.specs.Inside.Whole.{all_items_fit}
use Rattle.image_tables.proofs.RunLaws.{total-none, total-more, starts_there_lem, starts_elsewhere, standing, Standing, standing_start, standing_more, standing_fails, standing_past, standing_done}
use Rattle.image_tables.proofs.EntryLaws.{form_kind_lem, form_detail_lem, own_breaks, place_breaks, expr-stands}

-- these rules of one expression, and of all
abbrev pub fits_at : List ℕ → ℕ → Bool
fits_at s e = expr_fits (text_count s) (kind_of s e) (detail_of s e) (expr_text_of s e) && items_fit (decode s) e

abbrev pub all_fit : List ℕ → Bool
all_fit s = exprs_fit s && all_items_fit s

module _ (s : List ℕ) where
  five_breaks : false ≡ standing (expr_stands s) (count_of s) (expr_count s) (item_total s) → false ≡ all_fit s
  unfolding exprs_fit
  five_breaks h = rw (← h)

  six_breaks : all (items_fit (decode s)) (expr_count s) ≡ false → false ≡ all_fit s
  unfolding all_items_fit
  six_breaks h = sym (rw h (and-false (exprs_fit s)))

  pub one_breaks : (e : ℕ) → e < expr_count s → fits_at s e ≡ false → false ≡ all_fit s
  one_breaks e l h = go (expr_fits (text_count s) (kind_of s e) (detail_of s e) (expr_text_of s e)) refl h
    where
      go : (b : Bool) → expr_fits (text_count s) (kind_of s e) (detail_of s e) (expr_text_of s e) ≡ b → (b && items_fit (decode s) e) ≡ false → false ≡ all_fit s
      go true p q = six_breaks (all-fails (items_fit (decode s)) (expr_count s) e l q)
      go false p q = five_breaks (standing_fails (expr_stands s) (count_of s) (expr_count s) (item_total s) e l (own_breaks s e p))

-- what the code has read of an expression: where its items start and how many they are is one number
pub record Read (s : List ℕ) (e run form text : ℕ) : Type 0 where
  pub kind : form / 32 ≡ kind_of s e
  pub detail : form % 32 ≡ detail_of s e
  pub word : text ≡ expr_text_of s e
  pub items : run ≡ 1048576 * first_of s e + count_of s e
  pub few : count_of s e < 1048576

pub reads : {s : List ℕ} (e : ℕ) {v run form text : ℕ} → Bytes s → v ≡ word_of s (12 + 8 * e) 8 → run ≡ v % 2 ^ 40 → form ≡ v / 2 ^ 54 % 2 ^ 10 → text ≡ v / 2 ^ 40 % 2 ^ 14
    → Read s e run form text
reads {s} e {v} {run} bytes h r f t =
    let a = taken s bytes (12 + 8 * e) 8 24 20 20 refl {r = v / 2 ^ 20 % 2 ^ 20} h refl in
    let b = taken s bytes (12 + 8 * e) 8 44 20 0 refl {r = v / 2 ^ 0 % 2 ^ 20} h refl in
    record {
      kind = form_kind_lem s bytes (12 + 8 * e) h f;
      detail = form_detail_lem s bytes (12 + 8 * e) h f;
      word = taken s bytes (12 + 8 * e) 8 10 14 40 refl h t;
      items = omega (arith, r, a, b, mod-pow-add v 20 20);
      few = field_lt s _ 20;
    }

-- an expression without items, and one with items
module _ {s : List ℕ} {e run form text : ℕ} (r : Read s e run form text) (l : e < expr_count s) where
  pub bare-is : {b : Bool} {texts : ℕ} → count_of s e ≡ 0 → b ≡ (expr_fits texts (form / 32) (form % 32) text && complete (order (form / 32))) → texts ≡ text_count s → fits_at s e ≡ b
  bare-is n h p =
      let z = no_items (decode s) e (tree-kind s e l) (tree-items s e l ∙ n) in
      rw (z, ← p, ← r.kind, ← r.detail, ← r.word, h)

  module _ {b : Bool} (n : 0 < count_of s e) (h : b ≡ owner_fits (form / 32) (form % 32) text) where
    owner-is : fits_at s e ≡ (b && items_fit (decode s) e)
    owner-is =
        let z = with_items (decode s) e (tree-kind s e l) (text_count s) (detail_of s e) (expr_text_of s e) (rw (tree-items s e l) n) in
        sym (rw (h, r.kind, r.detail, r.word) z)

    pub owner_breaks : b ≡ false → fits_at s e ≡ false
    owner_breaks f = rw f at owner-is

    pub owner-passes : {i : Bool} → b ≡ true → i ≡ items_fit (decode s) e → fits_at s e ≡ i
    owner-passes f k = (rw f at owner-is) ∙ sym k

-- the loop: e expressions have passed, `at` is the byte where their items end, and `next` is 2 ^ 20 times their number
pub record Passed (s : List ℕ) (next at e : ℕ) : Type 0 where
  pub stand : Standing (expr_stands s) (count_of s) 1048576 (expr_count s) (total (count_of s) e) e
  pub fit : all (items_fit (decode s)) e ≡ true
  pub used : next ≡ 1048576 * total (count_of s) e
  pub there : at ≡ item_place s (total (count_of s) e)
  pub room : total (count_of s) e ≤ item_total s

pub passed_start : {s : List ℕ} {place : ℕ} → place ≡ items_place s → Passed s 0 place 0
passed_start {s} h =
    let z = total-none (count_of s) in
    record { stand = rw z (standing_start _ _ _ _); fit = all_none _; used = omega arith; there = omega arith; room = omega arith }

module _ {s : List ℕ} {next at e run form text : ℕ} (z : Sized s) (g : Passed s next at e) (l : e < expr_count s) (r : Read s e run form text) where
  -- a run that starts where the last ended: without items, with as many as the code reckons, or past the table
  pub bare-run : run ≡ next → (first_of s e ≡ total (count_of s) e) × (count_of s e ≡ 0)
  bare-run h = (omega (arith, g.used, r.items, r.few), omega (arith, g.used, r.items, r.few))

  pub owner-run : {limit : ℕ} → limit ≡ item_place s (item_total s) → next ≤ run → at + 4 * (run - next) ≤ limit → (first_of s e ≡ total (count_of s) e) × (count_of s e ≡ run - next)
  owner-run m h k =
      let few : run - next < 1048576 = omega (arith, g.there, z.items-few) in
      (omega (arith, g.used, r.items, r.few), omega (arith, g.used, r.items, r.few))

  elsewhere : (first_of s e ≡ total (count_of s) e → ⊥) → false ≡ all_fit s
  elsewhere h = five_breaks s (standing_fails (expr_stands s) (count_of s) (expr_count s) (item_total s) e l (place_breaks s e (starts_elsewhere (first_of s) (count_of s) e _ _ refl refl h)))

  pub starts-before : run < next → false ≡ all_fit s
  starts-before h = elsewhere (λ f. omega (arith, f, g.used, r.items))

  pub ends_past : {limit : ℕ} → limit ≡ item_place s (item_total s) → limit < at + 4 * (run - next) → false ≡ all_fit s
  ends_past m h = elim (ℕ_discrete (first_of s e) (total (count_of s) e)) [
    | yes f ↦ five_breaks s (standing_past (item_total s) g.stand l refl (omega (arith, f, g.used, g.there, r.items)))
    | no n ↦ elsewhere n
  ]

  passed-more : {next' at' : ℕ} → first_of s e ≡ total (count_of s) e → fits_at s e ≡ true → total (count_of s) e + count_of s e ≤ item_total s
      → next' ≡ next + 1048576 * count_of s e → at' ≡ at + 4 * count_of s e → Passed s next' at' (e + 1)
  passed-more f h m n a =
      let t = total-more (count_of s) e in
      let own = and_left (expr_fits (text_count s) (kind_of s e) (detail_of s e) (expr_text_of s e)) _ h in
      let stands = expr-stands s e own (starts_there_lem (first_of s) (count_of s) e _ _ refl refl f) in
      record {
        stand = rw t (standing_more g.stand l stands refl (omega (arith, r.few)));
        fit = all_more _ _ g.fit (and_right (expr_fits (text_count s) (kind_of s e) (detail_of s e) (expr_text_of s e)) _ h);
        used = omega (arith, g.used);
        there = omega (arith, g.there);
        room = omega arith;
      }

  pub passed-bare : run ≡ next → fits_at s e ≡ true → Passed s next at (e + 1)
  passed-bare h f =
      let p = bare-run h in
      let n = p.1 in
      passed-more p.0 f (omega (arith, g.room)) (omega arith) (omega arith)

  pub passed-owner : {limit : ℕ} → limit ≡ item_place s (item_total s) → next ≤ run → at + 4 * (run - next) ≤ limit → fits_at s e ≡ true
      → Passed s (next + 1048576 * (run - next)) (at + 4 * (run - next)) (e + 1)
  passed-owner m h k f =
      let p = owner-run m h k in
      let n = p.1 in
      passed-more p.0 f (omega (arith, g.there)) (omega arith) (omega arith)

same_place : (p a b : ℕ) → eqb (p + 4 * a) (p + 4 * b) ≡ eqb a b
same_place p a b = elim (ℕ_discrete a b) [
  | yes h ↦ rw h (eq-eqb (p + 4 * b) (p + 4 * b) refl ∙ sym (eq-eqb b b refl))
  | no n ↦ ne_eqb (p + 4 * a) (p + 4 * b) (λ h. n (omega (arith, h))) ∙ sym (ne_eqb a b n)
]

pub passed-done : {s : List ℕ} {next at e : ℕ} → Passed s next at e → expr_count s ≤ e → {limit : ℕ} → limit ≡ item_place s (item_total s) → eqb at limit ≡ all_fit s
unfolding exprs_fit all_items_fit
passed-done {s} {next} {at} {e} g h m =
    let k : e ≡ expr_count s = omega (arith, g.stand.inside) in
    let f : all (items_fit (decode s)) (expr_count s) ≡ true = rw k at g.fit in
    rw (g.there, m, f) (same_place (items_place s) (total (count_of s) e) (item_total s) ∙ standing_done (item_total s) g.stand h ∙ sym (and-true _))
