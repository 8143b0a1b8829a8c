-- How long a text can be: the array of `survey_text` holds every one.
use mathlib.Core.Path.{◌≡◌, refl, sym}
use mathlib.Core.Bool.{Bool, true, false, cond}
use mathlib.Core.List.{List, [], ◌∷◌, ◌++◌}
use Prim.Native.Nat.{ℕ, zero, suc, ◌+◌, ◌*◌, ◌/◌, ◌%◌, ◌^◌, ◌≤◌, ◌<◌}
use native.Mathlib.Nat.{pow-suc, mul-suc}
use native.Mathlib.Decide.{dec_lt, ℕ_discrete}
use native.Mathlib.Omega.{arith}
use lib.Dec.{eqb}
use lib.ListN.{length, length-append, length-take}
use borrow.Author.Tests.{lt-ltb, le-ltb, eq-eqb, ne_eqb}
use Rattle.semantics.specs.Base.{each, All}
use Rattle.semantics.specs.Tree.{bytes, is_none}
use Rattle.semantics.specs.Scopes.{resolve_steps}
use Rattle.semantics.specs.Resolution.{own}
use Rattle.semantics.specs.Walk.{walk_steps, edges, recorded}
use Rattle.semantics.specs.Formats.{edge_list, expr_table, narrowing_list}
use Rattle.semantics.proofs.BaseLaws.{pick_all}
use Rattle.image_fields.specs.Image.{field_in, expr_count, name_count, decode}
use Rattle.image_fields.proofs.FieldLaws.{field_lt}
use Rattle.image.specs.Refusals.{image_refusal}
use Rattle.given.specs.Resolutions.{tag_of, value_of}
use Rattle.given.specs.Bindings.{expr_of}
use Rattle.lent.specs.Calls.{refusal_of, outcome}
use Rattle.image.proofs.CallLaws.{image-kept}
use Rattle.resolve.specs.Outcome.{question, lent as resolve_lent, resolving}
use Rattle.resolve.proofs.OutcomeLaws.{table-own}
use Rattle.walk.specs.Outcome.{lent as walk_lent, edge_count, narrowing_count}
use Rattle.survey_lines.specs.Text.{digits_of, decimal, line, lines}
use Rattle.survey_lines.specs.Lines.{tag_word, resolution_line, edge_line, bind_line, narrow_line, resolution_lines, edge_lines, bind_lines, narrow_lines}
use Rattle.index.specs.Own.{own_resolutions, own_bindings}
use Rattle.survey.specs.Survey.{budget, buffer, resolve_refused, walk_refused, walked_text, walk_text, resolved_text, survey_text}
use Rattle.survey.proofs.SurveyLaws.{buffer-long}
use Rattle.survey.proofs.WalkTextLaws.{Lending, own-tables, edges_room, narrowings-room, edges-long, narrowings-long, exprs-long}

-- the digits of a number: as many as it needs, and never more than 20
digits_few : (f n k : ℕ) → n < 10 ^ suc k → length (digits_of f n) ≤ suc k
unfolding digits_of
digits_few zero n k h = omega arith
digits_few (suc f) n zero h = rw (lt-ltb n 10 (omega (arith, h, pow-suc 10 0))) (omega arith)
digits_few (suc f) n (suc j) h = elim (dec_lt n 10) [
  | yes l ↦ rw (lt-ltb n 10 l) (omega arith)
  | no l ↦
      rw (le-ltb n 10 (omega (arith, l)))
      (omega (arith, length-append (digits_of f (n / 10)) ((48 + n % 10) ∷ []), digits_few f (n / 10) j (omega (arith, h, pow-suc 10 (suc j)))))
]

digits_most : (f n : ℕ) → length (digits_of f n) ≤ f
unfolding digits_of
digits_most zero n = omega arith
digits_most (suc f) n = elim (dec_lt n 10) [
  | yes l ↦ rw (lt-ltb n 10 l) (omega arith)
  | no l ↦ rw (le-ltb n 10 (omega (arith, l))) (omega (arith, length-append (digits_of f (n / 10)) ((48 + n % 10) ∷ []), digits_most f (n / 10)))
]

five : (n : ℕ) → n < 2 ^ 14 → length (decimal n) ≤ 5
five n h = digits_few 20 n 4 (omega arith)

-- a line of so many numbers
each-few : (k : ℕ) (f : ℕ → List ℕ) (ns : List ℕ) → All (λ n. length (f n) ≤ k) ns → length (each f ns) ≤ k * length ns
unfolding each
each-few k f [] a = omega arith
each-few k f (n ∷ ns) a = omega (arith, length-append (f n) (each f ns), a.0, each-few k f ns a.1, mul-suc k (length ns))

line-few : (k : ℕ) (word ns : List ℕ) → All (λ n. length (32 ∷ decimal n) ≤ k) ns → length (line word ns) ≤ length word + k * length ns + 1
unfolding line
line-few k word ns a =
    omega (arith, length-append (word ++ each (λ n. 32 ∷ decimal n) ns) (10 ∷ []), length-append word (each (λ n. 32 ∷ decimal n) ns), each-few k (λ n. 32 ∷ decimal n) ns a)

head_few : (word : List ℕ) (n : ℕ) → length (line word (n ∷ [])) ≤ length word + 22
head_few word n = let h : length (32 ∷ decimal n) ≤ 21 = omega (arith, digits_most 20 n) in omega (arith, line-few 21 word (n ∷ []) (h, tt))

-- the lines of so many entries
lines-few : (f : ℕ → List ℕ) (k i n : ℕ) → ((j : ℕ) → j < i + n → length (f j) ≤ k) → length (lines f i n) ≤ k * n
unfolding lines
lines-few f k i zero h = omega arith
lines-few f k i (suc n) h =
    omega (arith, length-append (f i) (lines f (suc i) n), h i (omega arith), lines-few f k (suc i) n (λ j l. h j (omega (arith, l))), mul-suc k n)

space : (n : ℕ) → n < 2 ^ 14 → length (32 ∷ decimal n) ≤ 6
space n h = omega (arith, five n h)

tag-few : (tag : ℕ) → length (tag_word tag) ≤ 8
unfolding tag_word
tag-few tag = pick_all (λ w. length w ≤ 8) tag ((1, (bytes " def")) ∷ (2, (bytes " builtin")) ∷ []) (bytes " with") ((λ _. omega arith), ((λ _. omega arith), tt)) (omega arith)

resolution-few : (table : List ℕ) (e : ℕ) → e < 2 ^ 14 → length (resolution_line table e) ≤ 20
unfolding resolution_line
resolution-few table e h = go (eqb (tag_of table e) 0)
  where
    some-line : length (decimal e ++ line (tag_word (tag_of table e)) (value_of table e ∷ [])) ≤ 20
    some-line =
        omega (
          arith,
          length-append (decimal e) (line (tag_word (tag_of table e)) (value_of table e ∷ [])),
          five e h,
          tag-few (tag_of table e),
          line-few 6 (tag_word (tag_of table e)) (value_of table e ∷ []) (space (value_of table e) (field_lt table (8 * (2 * e) + 2) 14), tt),
        )

    go : (b : Bool) → length (cond b [] (decimal e ++ line (tag_word (tag_of table e)) (value_of table e ∷ []))) ≤ 20
    go true = omega arith
    go false = some-line

bind_few : (exprs : List ℕ) (n : ℕ) → n < 2 ^ 14 → length (bind_line exprs n) ≤ 17
unfolding bind_line
bind_few exprs n h = go (is_none (expr_of exprs n))
  where
    go : (b : Bool) → length (cond b [] (line (bytes "bind") (n ∷ expr_of exprs n ∷ []))) ≤ 17
    go true = omega arith
    go false = omega (arith, line-few 6 (bytes "bind") (n ∷ expr_of exprs n ∷ []) (space n h, (space (expr_of exprs n) (field_lt exprs (8 * (2 * n) + 2) 14), tt)))

edge_few : (es : List ℕ) (i : ℕ) → length (edge_line es i) ≤ 17
unfolding edge_line
edge_few es i =
    omega (
      arith,
      line-few 6 (bytes "edge") (field_in es (4 * i) 0 14 ∷ field_in es (4 * i) 14 14 ∷ [])
          (space _ (field_lt es (8 * (4 * i) + 0) 14), (space _ (field_lt es (8 * (4 * i) + 14) 14), tt)),
    )

narrow-few : (ns : List ℕ) (i : ℕ) → length (narrow_line ns i) ≤ 31
unfolding narrow_line
narrow-few ns i =
    omega (
      arith,
      line-few 6 (bytes "narrow") (field_in ns (8 * i) 0 14 ∷ field_in ns (8 * i) 32 14 ∷ field_in ns (8 * i) 46 4 ∷ field_in ns (8 * i) 50 14 ∷ [])
          (space _ (field_lt ns (8 * (8 * i) + 0) 14), (space _ (field_lt ns (8 * (8 * i) + 32) 14), (space (field_in ns (8 * i) 46 4) (omega (arith, field_lt ns (8 * (8 * i) + 46) 4)), (space _ (field_lt ns (8 * (8 * i) + 50) 14), tt)))),
    )

-- the tables of an image
module _ (s : List ℕ) where
  resolutions-few : resolve_refused s ≡ 0 → length (resolution_lines (own_resolutions s)) ≤ 20 * expr_count s
  unfolding resolution_lines resolve_refused
  resolutions-few z =
      let own-table : length (own_resolutions s) ≤ 2 * expr_count s =
      rw (← table-own (question s budget) (resolve_lent buffer buffer) z)
      (omega (arith, length-take (2 * expr_count s) (outcome resolving (question s budget) (resolve_lent buffer buffer)).lent.table)) in
      let few : expr_count s < 2 ^ 14 = field_lt s 0 14 in
      let n : length (own_resolutions s) / 2 ≤ expr_count s = omega (arith, own-table) in
      omega (arith, n, lines-few (resolution_line (own_resolutions s)) 20 0 (length (own_resolutions s) / 2) (λ j l. resolution-few (own_resolutions s) j (omega (arith, l, n, few))))

  module _ (z : walk_refused s ≡ 0) where
    image-zero : image_refusal s ≡ 0
    unfolding walk_refused refusal_of
    image-zero = image-kept s _ z

    lending : Lending s (own_resolutions s) (own_bindings s) (walk_lent buffer buffer buffer buffer)
    lending =
        let b = sym buffer-long in
        record { image = image-zero; resolutions = refl; bindings = refl; edges_big = b; narrowings_big = b; exprs_big = b; working_big = b }

    edges_most : 4 * length (edges (decode s) (own (decode s))) ≤ 65536
    unfolding walk_refused edge_count
    edges_most = rw (own-tables lending) at (edges_room lending z)

    narrowings-most : 8 * length (recorded (decode s) (own (decode s))) ≤ 65536
    unfolding walk_refused narrowing_count
    narrowings-most = rw (own-tables lending) at (narrowings-room lending z)

    edge-lines-few : length (edge_lines (edge_list (decode s) (own (decode s)))) ≤ 278528
    unfolding edge_lines
    edge-lines-few =
        let l = edge_list (decode s) (own (decode s)) in
        omega (arith, edges_most, edges-long (decode s) (own (decode s)), lines-few (edge_line l) 17 0 (length l / 4) (λ j _. edge_few l j))

    bind_lines-few : length (bind_lines (expr_table (decode s) (own (decode s)))) ≤ 278528
    unfolding bind_lines
    bind_lines-few =
        let l = expr_table (decode s) (own (decode s)) in
        let few : name_count s < 2 ^ 14 = field_lt s 14 14 in
        let n : length l / 2 ≤ name_count s = omega (arith, exprs-long s (own (decode s))) in
        omega (arith, few, n, lines-few (bind_line l) 17 0 (length l / 2) (λ j h. bind_few l j (omega (arith, h, n, few))))

    narrow-lines-few : length (narrow_lines (narrowing_list (decode s) (own (decode s)))) ≤ 253952
    unfolding narrow_lines
    narrow-lines-few =
        let l = narrowing_list (decode s) (own (decode s)) in
        omega (arith, narrowings-most, narrowings-long (decode s) (own (decode s)), lines-few (narrow_line l) 31 0 (length l / 8) (λ j _. narrow-few l j))

    walked-few : length (walked_text s) ≤ 811034
    unfolding walked_text
    walked-few =
        let a = line (bytes "walk") (walk_steps (decode s) (own (decode s)) ∷ []) in
        let b = edge_lines (edge_list (decode s) (own (decode s))) in
        let c = bind_lines (expr_table (decode s) (own (decode s))) in
        let d = narrow_lines (narrowing_list (decode s) (own (decode s))) in
        omega (
          arith,
          length-append (a ++ b ++ c) d,
          length-append (a ++ b) c,
          length-append a b,
          head_few (bytes "walk") (walk_steps (decode s) (own (decode s))),
          edge-lines-few,
          bind_lines-few,
          narrow-lines-few,
        )

  walk-few : length (walk_text s) ≤ 811034
  unfolding walk_text
  walk-few = elim (ℕ_discrete (walk_refused s) 0) [
    | yes z ↦ rw (eq-eqb (walk_refused s) 0 z) (walked-few z)
    | no z ↦ rw (ne_eqb (walk_refused s) 0 z) (omega (arith, head_few (bytes "refused") (walk_refused s)))
  ]

  resolved-few : resolve_refused s ≡ 0 → length (resolved_text s) ≤ 1179648
  unfolding resolved_text
  resolved-few z =
      let few : expr_count s < 2 ^ 14 = field_lt s 0 14 in
      let a = line (bytes "resolve") (resolve_steps (decode s) ∷ []) in
      let b = resolution_lines (own_resolutions s) in
      omega (arith, few, length-append (a ++ b) (walk_text s), length-append a b, head_few (bytes "resolve") (resolve_steps (decode s)), resolutions-few z, walk-few)

  pub text-few : length (survey_text s) ≤ 1179648
  unfolding survey_text
  text-few = elim (ℕ_discrete (resolve_refused s) 0) [
    | yes z ↦ rw (eq-eqb (resolve_refused s) 0 z) (resolved-few z)
    | no z ↦ rw (ne_eqb (resolve_refused s) 0 z) (omega (arith, head_few (bytes "refused") (resolve_refused s)))
  ]
