-- The walk's part of the text.
use Rattle.std.specs.Prelude.{Option, Some, None}
use mathlib.Core.Path.{◌≡◌, refl, ap, sym, ◌∙◌}
use mathlib.Core.Bool.{true}
use mathlib.Core.List.{List, [], ◌∷◌, ◌++◌}
use Prim.Native.Nat.{ℕ, zero, suc, ◌+◌, ◌*◌, ◌/◌, ◌%◌, ◌≤◌, ◌<◌, ◌^◌}
use native.Mathlib.Nat.{mul-suc}
use native.Mathlib.Omega.{arith}
use lib.Dec.{leb}
use lib.ListN.{length, take, drop, length-append}
use lib.Seq.{take_at}
use borrow.Author.Tests.{eq-eqb, ne_eqb, le-leb, leb-true}
use Rattle.semantics.specs.Base.{each, numbered}
use Rattle.semantics.specs.Tree.{bytes, Tree}
use Rattle.semantics.specs.Resolution.{Tables, own}
use Rattle.semantics.specs.Narrow.{Narrowing, coded}
use Rattle.semantics.specs.Walk.{name_expr, edges, recorded}
use Rattle.semantics.specs.Formats.{bytes_of, option_bytes, edge_bytes, record_bytes, recorded_bytes, edge_list, narrowing_list, expr_table}
use Rattle.semantics.proofs.BaseLaws.{and_left, and_right}
use Rattle.image_fields.specs.Image.{name_count, decode}
use Rattle.image_fields.proofs.ImageLaws.{tree-names}
use Rattle.image.specs.Refusals.{image_refusal}
use Rattle.image.proofs.CallLaws.{behind-image, image-kept, told_by_answer}
use Rattle.lent.proofs.CallLaws.{refusal-positive}
use Rattle.lent.specs.Calls.{leaves, answer_after, outcome_after, refusal_of, outcome, refusal_told}
use Rattle.lent.proofs.CallLaws.{kept, keeps_last, on_answer}
use Rattle.index.specs.Outcome.{own_rules, indexing, room as index_room}
use Rattle.index.proofs.ReadLaws.{table-own}
use Rattle.given.specs.Given.{given}
use Rattle.walk.specs.declared.Walked.{Walked}
use Rattle.codes.specs.declared.refusals.Refusal.{Refusal}
use Rattle.codes.specs.Refusals.{number_of, refusal_numbered}
use Rattle.std.specs.Prelude.{Result, Ok, Err}
use Rattle.walk.specs.Outcome.{Question, Lent, question, tables_fit, steps_of, edge_count, narrowing_count, affordable, room, written, run_rules, fit_rules, walking, walked}
use Rattle.index.proofs.OwnLaws.{read_back}
use Rattle.survey_lines.specs.Text.{line}
use Rattle.survey_lines.specs.Inside.Page.{Printed}
use Rattle.survey_lines.specs.declared.text.Page.{Page}
use Rattle.survey_lines.specs.Lines.{edge_lines, bind_lines, narrow_lines}
use Rattle.index.specs.Own.{own_resolutions, own_bindings}
use Rattle.survey.specs.Survey.{budget, refused_text, walk_refused, walked_text, walk_text}
use Rattle.survey.proofs.SurveyLaws.{buffer-long}

-- the answers, byte by byte
bytes-long : (n x : ℕ) → length (bytes_of n x) ≡ n
unfolding bytes_of
bytes-long zero x = refl
bytes-long (suc n) x = omega (arith, length-append (bytes_of n (x / 256)) (x % 256 ∷ []), bytes-long n (x / 256))

each_long : {A : Type 0} (k : ℕ) (f : A → List ℕ) → ((x : A) → length (f x) ≡ k) → (xs : List A) → length (each f xs) ≡ k * length xs
unfolding each
each_long k f h [] = omega arith
each_long k f h (x ∷ xs) = length-append (f x) (each f xs) ∙ rw (h x, each_long k f h xs) (more (length xs))
  where
    more : (n : ℕ) → k + k * n ≡ k * suc n
    more n = omega (arith, mul-suc k n)

numbered-long : {A : Type 0} (i : ℕ) (l : List A) → length (numbered i l) ≡ length l
unfolding numbered
numbered-long i [] = refl
numbered-long i (x ∷ l) = ap suc (numbered-long (suc i) l)

option_long : (o : Option ℕ) → length (option_bytes o) ≡ 2
unfolding option_bytes
option_long None = bytes-long 2 16383
option_long (Some e) = bytes-long 2 e

edge-long : (e : ℕ × ℕ) → length (edge_bytes e) ≡ 4
unfolding edge_bytes
edge-long e = bytes-long 4 _

recorded-long : (x : ℕ × Narrowing) → length (recorded_bytes x) ≡ 8
unfolding recorded_bytes record_bytes
recorded-long x = length-append (bytes_of 4 (x.0 * 2 ^ 18)) (record_bytes x.1) ∙ rw (bytes-long 4 (x.0 * 2 ^ 18), bytes-long 4 (((coded x.1).0 * 2 ^ 4 + (coded x.1).1) * 2 ^ 14 + (coded x.1).2))

pub edges-long : (t : Tree) (tab : Tables) → length (edge_list t tab) ≡ 4 * length (edges t tab)
unfolding edge_list
edges-long t tab = each_long 4 edge_bytes edge-long (edges t tab)

pub narrowings-long : (t : Tree) (tab : Tables) → length (narrowing_list t tab) ≡ 8 * length (recorded t tab)
unfolding narrowing_list
narrowings-long t tab = each_long 8 recorded_bytes recorded-long (recorded t tab)

pub exprs-long : (s : List ℕ) (tab : Tables) → length (expr_table (decode s) tab) ≡ 2 * name_count s
unfolding expr_table
exprs-long s tab =
    each_long 2 (λ m. option_bytes (name_expr (decode s) tab m.0)) (λ m. option_long (name_expr (decode s) tab m.0)) (numbered 0 (decode s).names)
    ∙ ap (λ m. 2 * m) (numbered-long 0 (decode s).names ∙ tree-names s)

-- the index is not refused: 65,536 bytes are room for all names
index-room : (s l : List ℕ) → image_refusal s ≡ 0 → name_count s < 2 ^ 14 → 65536 ≡ length l → refusal_of indexing s l ≡ 0
unfolding refusal_of index_room
index-room s l h few big = behind-image s (own_rules s l) h ∙ keeps_last 9 (le-leb (2 * name_count s) (length l) (omega (arith, few, big)))

pub index-own : (s l : List ℕ) {r : Result (Unit {0}) Refusal} {after : List ℕ} → image_refusal s ≡ 0 → name_count s < 2 ^ 14 → 65536 ≡ length l → leaves r after ≡ outcome indexing s l
    → take (2 * name_count s) after ≡ own_bindings s
index-own s l h few big e = ap (λ o. take (2 * name_count s) o.lent) e ∙ table-own s l (index-room s l h few big)

done-only : (q : Question) (n : ℕ) (w : Walked) → Ok w ≡ answer_after walking n q → (n ≡ 0) × (w ≡ walked (steps_of q) (edge_count q) (narrowing_count q))
unfolding answer_after
done-only q zero w h = (refl, cc)
done-only q (suc n) w h = absurd (let z : ◌≡◌ {A = ℕ} 0 1 = cc in omega arith)

-- what the walk is lent: the image and our own tables, and four buffers of 65,536 bytes
pub record Lending (s r b : List ℕ) (l : Lent) : Type 0 where
  pub image : image_refusal s ≡ 0
  pub resolutions : r ≡ own_resolutions s
  pub bindings : b ≡ own_bindings s
  pub edges_big : 65536 ≡ length l.edges
  pub narrowings_big : 65536 ≡ length l.narrowings
  pub exprs_big : 65536 ≡ length l.exprs
  pub working_big : 65536 ≡ length l.working

module _ {s r b : List ℕ} {l : Lent} (g : Lending s r b l) where
  abbrev q : Question
  q = question s r b budget

  abbrev refusal : ℕ
  refusal = refusal_of walking q l

  pub own-tables : given r b ≡ own (decode s)
  own-tables = rw (g.resolutions, g.bindings) (read_back s g.image)

  pub same_refusal : refusal ≡ walk_refused s
  unfolding walk_refused refusal_of room
  same_refusal = rw (g.resolutions, g.bindings, ← g.edges_big, ← g.narrowings_big, ← g.exprs_big, ← g.working_big, buffer-long)

  -- what is answered has room
  module _ (z : refusal ≡ 0) where
    roomy : room q l ≡ true
    unfolding refusal_of
    roomy =
        let f = sym (behind-image s (fit_rules q l) (image-kept s (fit_rules q l) z)) ∙ z in
        let h = (kept (tables_fit q, 7) (run_rules q l) (omega arith) f).1 in
        (kept (room q l, 9) [] (omega arith) (kept (affordable q, 8) ((room q l, 9) ∷ []) (omega arith) h).1).0

    pub edges_room : 4 * edge_count q ≤ 65536
    unfolding room
    edges_room =
        let p : 4 * edge_count q ≤ length l.edges = leb-true (4 * edge_count q) (length l.edges) (and_left _ _ roomy) in
        omega (arith, p, g.edges_big)

    pub narrowings-room : 8 * narrowing_count q ≤ 65536
    unfolding room
    narrowings-room =
        let p : 8 * narrowing_count q ≤ length l.narrowings =
        leb-true (8 * narrowing_count q) (length l.narrowings) (and_left _ _ (and_right (leb (4 * edge_count q) (length l.edges)) _ roomy)) in
        omega (arith, p, g.narrowings_big)

  module _ {a : Result Walked Refusal} {l' : Lent} (o : leaves a l' ≡ outcome walking q l) where
    answer-is : a ≡ answer_after walking refusal q
    unfolding outcome outcome_after
    answer-is = ap (λ x. x.answer) o

    pub walk_refused_lem : {m : Refusal} {p p' : Page} → Err m ≡ a → Printed (refused_text (number_of m)) p p' → Printed (walk_text s) p p'
    unfolding walk_text refusal_told refusal_numbered
    walk_refused_lem {m} h k =
        let f : number_of m ≡ refusal = ap refusal_told h ∙ told_by_answer walking q l s (fit_rules q l) refl (λ n. refl) refl (refl, (refl, (refl, tt))) o in
        let n : number_of m ≡ walk_refused s = f ∙ same_refusal in
        rw (ne_eqb (walk_refused s) 0 (λ z. absurd (omega (arith, refusal-positive m, n, z))), ← n) k

    module _ {w : Walked} (h : Ok w ≡ a) where
      answered : (refusal ≡ 0) × (w.steps ≡ steps_of q) × (w.edges ≡ edge_count q) × (w.narrowings ≡ narrowing_count q)
      answered =
          let d = done-only q refusal w (h ∙ answer-is) in
          (d.0, ap (λ x. x.steps) d.1, ap (λ x. x.edges) d.1, ap (λ x. x.narrowings) d.1)

      pub edges_fit : 4 * w.edges ≤ 65536
      edges_fit = omega (arith, edges_room answered.0, answered.2)

      pub narrowings_fit : 8 * w.narrowings ≤ 65536
      narrowings_fit = omega (arith, narrowings-room answered.0, answered.3)

      whole : l' ≡ written q l
      unfolding outcome
      whole = ap (λ x. x.lent) (o ∙ on_answer walking q l answered.0)

      edges_are : take (4 * w.edges) l'.edges ≡ edge_list (decode s) (own (decode s))
      unfolding written edge_count
      edges_are =
          rw (← own-tables, answered.2, ap (λ z. z.edges) whole)
          (take_at (edge_list (decode s) (given r b)) (drop (4 * edge_count q) l.edges) (4 * edge_count q)
          (edges-long (decode s) (given r b)))

      exprs_are : take (2 * name_count s) l'.exprs ≡ expr_table (decode s) (own (decode s))
      unfolding written
      exprs_are =
          rw (← own-tables, ap (λ z. z.exprs) whole)
          (take_at (expr_table (decode s) (given r b)) (drop (2 * name_count s) l.exprs) (2 * name_count s)
          (exprs-long s (given r b)))

      narrowings_are : take (8 * w.narrowings) l'.narrowings ≡ narrowing_list (decode s) (own (decode s))
      unfolding written narrowing_count
      narrowings_are =
          rw (← own-tables, answered.3, ap (λ z. z.narrowings) whole)
          (take_at (narrowing_list (decode s) (given r b)) (drop (8 * narrowing_count q) l.narrowings) (8 * narrowing_count q)
          (narrowings-long (decode s) (given r b)))

      pub walk-done : {names : ℕ} {p p' : Page} → names ≡ name_count s
          → Printed (line (bytes "walk") (w.steps ∷ []) ++ edge_lines (take (4 * w.edges) l'.edges) ++ bind_lines (take (2 * names) l'.exprs) ++ narrow_lines (take (8 * w.narrowings) l'.narrowings)) p p' → Printed (walk_text s) p p'
      unfolding walk_text walked_text steps_of
      walk-done c t =
          rw (eq-eqb (walk_refused s) 0 (sym same_refusal ∙ answered.0))
          (rw (answered.1, own-tables, edges_are, c, exprs_are, narrowings_are) at t)
