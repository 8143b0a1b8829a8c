-- The ways out of the call, in the terms of the code.
use Rattle.std.specs.Prelude.{Option, Some, None, Result, Ok, Err}
use mathlib.Core.Path.{◌≡◌, refl, ap, sym, ◌∙◌}
use mathlib.Core.Bool.{Bool, true, false, cond, ◌&&◌}
use mathlib.Core.Logic.{inl}
use mathlib.Core.List.{List, [], ◌∷◌, ◌++◌, map}
use Prim.Native.Nat.{ℕ, zero, suc, ◌+◌, ◌-◌, ◌*◌, ◌^◌, ◌≤◌, ◌<◌}
use native.Mathlib.Nat.{zero-add}
use native.Mathlib.Omega.{arith}
use lib.Dec.{eqb, leb}
use lib.ListN.{length, get_or, drop, replicate, length-map}
use borrow.Author.Tests.{le-leb, lt-leb, leb-true, eq-eqb, ne_eqb, eqb-true}
use Rattle.semantics.specs.Base.{each, final, ◌>>=◌}
use Rattle.semantics.specs.Tree.{Tree}
use Rattle.semantics.specs.Resolution.{Tables}
use Rattle.semantics.specs.Narrow.{Narrowing}
use Rattle.semantics.specs.Walk.{edges, recorded, name_expr, walk_steps, walk_need, walk}
use Rattle.semantics.specs.Formats.{option_bytes, record_bytes, edge_bytes, recorded_bytes, edge_list, narrowing_list, expr_table}
use Rattle.semantics.proofs.BaseLaws.{true≢false, and_left, and_right}
use Rattle.image_fields.specs.Image.{name_count, table, decode}
use Rattle.image_fields.proofs.TableLaws.{table-length, table_at}
use Rattle.image_fields.proofs.ImageLaws.{tree-names}
use Rattle.image.specs.Inside.Accepted.{Accepted}
use Rattle.lent.specs.Calls.{first_broken, zeros, leaves, outcome_after}
use Rattle.lent.specs.Inside.Stores.{pairs, entered}
use Rattle.lent.proofs.CallLaws.{breaks, on_answer, on_zeroing}
use Rattle.lent.proofs.PairLaws.{entries}
use Rattle.lent.proofs.EntryLaws.{or_number, entered_all}
use Rattle.index.proofs.IndexLaws.{number_of, two_bytes}
use Rattle.given.specs.Given.{given}
use Rattle.narrow_leaf.specs.Inside.Told.{record_number}
use Rattle.narrow_run.proofs.ListLaws.{four, quads, four_bytes, stored-whole, quads_each}
use Rattle.walk.specs.declared.Walked.{Walked}
use Rattle.codes.specs.declared.refusals.Refusal.{Refusal}
use Rattle.codes.specs.declared.refusals.Refusal.TheVariants.{OverBudget}
use Rattle.codes.specs.Refusals.{refusal_numbered}
use Rattle.walk.specs.Outcome.{Question, Lent, question, lent, cleared, steps_of, edge_count, narrowing_count, affordable, room, written, walked, run_rules, walking}
use Rattle.walk_run.specs.Inside.Effects.{doing, recorded_numbers}
use Rattle.walk_visit.specs.declared.State.{State}
use Rattle.walk_visit.specs.Inside.Parts.{edge_number}
use Rattle.walk_run.specs.Inside.Run.{sheet, Ran, Traversed}
use Rattle.walk_counts.specs.Inside.Visits.{Affordable}
use Rattle.walk.specs.Inside.Ended.{end_of, walked_of, end_in, Ended}
use Rattle.walk_run.proofs.RanLaws.{numbers-many}
use Rattle.walk.proofs.TotalLaws.{walk-edges, walk-recorded, walk-bound, walk_binds}
use Rattle.walk.proofs.RunLaws.{begin, ran as run·ran, left_is as run·left-is, edges_are as run·edges-are, recorded_are as run·recorded-are, most-is as run·most-is}
use Rattle.walk.proofs.EndLaws.{short, end_over, end_number}

-- the bytes of the lists
edges-bytes : (es : List (ℕ × ℕ)) → quads (map edge_number es) ≡ each edge_bytes es
unfolding edge_bytes edge_number
edges-bytes es = quads_each edge_number es

recorded-bytes : (rs : List (ℕ × Narrowing)) → quads (recorded_numbers rs) ≡ each recorded_bytes rs
unfolding recorded_numbers quads each recorded_bytes record_bytes record_number
recorded-bytes [] = refl
recorded-bytes (r ∷ rs) =
    rw (four_bytes (r.0 * 2 ^ 18), four_bytes (record_number r.1)) (ap (λ l. four (r.0 * 2 ^ 18) (four (record_number r.1) l)) (recorded-bytes rs))

zeros-same : (l m : List ℕ) → length l ≡ length m → zeros l ≡ zeros m
unfolding zeros
zeros-same l m h = ap (λ n. replicate n 0) h

-- `walk`, where the steps are known before a run
module _ (s resolutions bindings : List ℕ) (budget : ℕ) (l : Lent) where
  abbrev asked : Question
  asked = question s resolutions bindings budget

  pub walk_unaffordable : {b : Bool} → Affordable s resolutions budget b → b ≡ false → {r : Result Walked Refusal} {l' : Lent} → r ≡ Err OverBudget → l' ≡ cleared l
      → leaves r l' ≡ outcome_after walking (first_broken (run_rules asked l)) asked l
  unfolding affordable steps_of refusal_numbered
  walk_unaffordable a z p c =
      let f : first_broken (run_rules asked l) ≡ 8 = breaks 8 _ (lt-leb (walk_steps (decode s) (given resolutions bindings)) budget ((a.walks bindings).over z)) in
      rw (f, p, c) (sym (on_zeroing walking asked l (inl refl)))

-- `walk`
module _ (s resolutions bindings : List ℕ) (a : Accepted s) {budget whole names entry : ℕ} (small : budget < 2 ^ 32) (w : whole ≡ budget + 1) (nn : names ≡ name_count s) (en : entry ≡ (decode s).entry) (l : Lent)
    {exprs₀ : List ℕ} (cl : exprs₀ ≡ cond (leb (2 * names) (length l.exprs)) (pairs (replicate names 16383) ++ drop (2 * names) l.exprs) l.exprs) where
  abbrev q : Question
  q = question s resolutions bindings budget

  -- what is promised of an accepted image with tables that fit
  abbrev Walks : Result Walked Refusal → Lent → Type 0
  Walks r l' = leaves r l' ≡ outcome_after walking (first_broken (run_rules q l)) q l

  module _ {state : State} {edges' narrowings' exprs' working' : List ℕ} (tr : Traversed s resolutions bindings entry 16383 0 (sheet (begin whole) l.edges l.narrowings exprs₀ l.working) (sheet state edges' narrowings' exprs' working'))
      (k₁ : length edges' ≡ length l.edges) (k₂ : length narrowings' ≡ length l.narrowings) (k₃ : length exprs' ≡ length l.exprs) (k₄ : length working' ≡ length l.working) where
    abbrev t : Tree
    t = decode s

    abbrev tab : Tables
    tab = given resolutions bindings

    ran : Ran (doing t tab (walk t tab)) (sheet (begin whole) l.edges l.narrowings exprs₀ l.working) (sheet state edges' narrowings' exprs' working')
    ran = run·ran s resolutions bindings budget w en tr

    left_is : state.left ≡ budget + 1 - walk_steps t tab
    left_is = run·left-is s resolutions bindings budget w en tr

    module _ (o : state.left ≡ 0 → ⊥) where
      open_still : 0 < state.left
      open_still = omega (arith, o)

      edges_are : state.edges ≡ edge_count q
      unfolding edge_count
      edges_are = run·edges-are s resolutions bindings budget w en tr o

      recorded_are : state.recorded ≡ narrowing_count q
      unfolding narrowing_count
      recorded_are = run·recorded-are s resolutions bindings budget w en tr o

      most-is : 4 * state.most ≡ walk_need t tab
      unfolding walk_need
      most-is = ap (λ n. 4 * n) (run·most-is s resolutions bindings budget w en tr o)

      rooms : (leb (4 * state.edges) (length edges') && (leb (8 * state.recorded) (length narrowings') && (leb (2 * names) (length exprs') && leb (4 * state.most) (length working')))) ≡ room q l
      unfolding room
      rooms = rw (edges_are, recorded_are, most-is, nn, k₁, k₂, k₃, k₄)

    -- the refusal is the definition's
    end_is : end_of state names (length edges') (length narrowings') (length exprs') (length working') ≡ first_broken (run_rules q l)
    unfolding end_of first_broken affordable steps_of
    end_is = go (eqb state.left 0) refl
      where
        go : (x : Bool) → eqb state.left 0 ≡ x
            → ◌≡◌ {A = ℕ} (cond x 8 (cond (leb (4 * state.edges) (length edges') && (leb (8 * state.recorded) (length narrowings') && (leb (2 * names) (length exprs') && leb (4 * state.most) (length working')))) 0 9))
            (cond (leb (walk_steps t tab) budget) (cond (room q l) 0 9) 8)
        go true h = rw (lt-leb (walk_steps t tab) budget (omega (arith, left_is, eqb-true state.left 0 h)))
        go false h =
            let o : state.left ≡ 0 → ⊥ = λ z. true≢false (eq-eqb state.left 0 z) h in
            rw (le-leb (walk_steps t tab) budget (omega (arith, left_is, o)), rooms o)

    module _ {refusal : ℕ} (f : refusal ≡ end_of state names (length edges') (length narrowings') (length exprs') (length working')) where
      pub walk_refused_lem : {r : Refusal} → (0 < refusal) × (r ≡ refusal_numbered refusal) → {l' : Lent} → l' ≡ cleared (lent edges' narrowings' exprs' working') → Walks (Err r) l'
      unfolding cleared
      walk_refused_lem z c =
          rw (← end_is, ← f, z.1, c, zeros-same edges' l.edges k₁, zeros-same narrowings' l.narrowings k₂, zeros-same exprs' l.exprs k₃, zeros-same working' l.working k₄)
          (sym (on_zeroing walking q l (end_number state names _ _ _ _ f (λ e. omega (arith, e, z.0)))))

      module _ (z : refusal ≡ 0) where
        ended : end_of state names (length edges') (length narrowings') (length exprs') (length working') ≡ 0
        ended = sym f ∙ z

        still : state.left ≡ 0 → ⊥
        still h = absurd (omega (arith, ended, end_over state names (length edges') (length narrowings') (length exprs') (length working') h))

        roomy : (leb (4 * state.edges) (length edges') && (leb (8 * state.recorded) (length narrowings') && (leb (2 * names) (length exprs') && leb (4 * state.most) (length working')))) ≡ true
        unfolding end_of
        roomy = go _ refl
          where
            go : (y : Bool) → (leb (4 * state.edges) (length edges') && (leb (8 * state.recorded) (length narrowings') && (leb (2 * names) (length exprs') && leb (4 * state.most) (length working')))) ≡ y → y ≡ true
            go true q = refl
            go false q = absurd (omega (arith, ended, short state names (length edges') (length narrowings') (length exprs') (length working') still q))

        -- each buffer has room
        room-edges : 4 * state.edges ≤ length l.edges
        room-edges = let h : 4 * state.edges ≤ length edges' = leb-true _ _ (and_left _ _ roomy) in omega (arith, h, k₁)

        room-narrowings : 8 * state.recorded ≤ length l.narrowings
        room-narrowings =
            let h : 8 * state.recorded ≤ length narrowings' = leb-true _ _ (and_left _ _ (and_right (leb (4 * state.edges) (length edges')) _ roomy)) in
            omega (arith, h, k₂)

        room-exprs : 2 * names ≤ length l.exprs
        room-exprs =
            let h : 2 * names ≤ length exprs' =
            leb-true _ _ (and_left _ _ (and_right (leb (8 * state.recorded) (length narrowings')) _ (and_right (leb (4 * state.edges) (length edges')) _ roomy))) in
            omega (arith, h, k₃)

        room-working : 4 * state.most ≤ length working'
        room-working =
            leb-true _ _ (and_right (leb (2 * names) (length exprs')) _ (and_right (leb (8 * state.recorded) (length narrowings')) _ (and_right (leb (4 * state.edges) (length edges')) _ roomy)))

        edges-written : edges' ≡ edge_list t tab ++ drop (4 * edge_count q) l.edges
        unfolding edge_list
        edges-written =
            let n = length-map (doing t tab (walk t tab)).edges edge_number in
            let m : length (doing t tab (walk t tab)).edges ≡ state.edges = sym ((ran.edges (open_still still)).number ∙ zero-add _ ∙ n) in
            (ran.edges (open_still still)).value
            ∙ stored-whole (map edge_number (doing t tab (walk t tab)).edges) l.edges (omega (arith, n, m, room-edges))
            ∙ rw (n, m, edges_are still, walk-edges t tab, edges-bytes (edges t tab))

        narrowings-written : narrowings' ≡ narrowing_list t tab ++ drop (8 * narrowing_count q) l.narrowings
        unfolding narrowing_list
        narrowings-written =
            let n = numbers-many (recorded t tab) in
            let m : length (recorded t tab) ≡ state.recorded = sym (ran.recorded (open_still still) ∙ zero-add _ ∙ ap length (walk-recorded t tab)) in
            let d : 4 * length (recorded_numbers (recorded t tab)) ≡ 8 * narrowing_count q = omega (arith, n, m, recorded_are still) in
            ran.narrowings (open_still still) (record { working = room-working; narrowings = omega (arith, room-narrowings, k₂) })
            ∙ rw (walk-recorded t tab) (stored-whole (recorded_numbers (recorded t tab)) l.narrowings (omega (arith, n, m, room-narrowings)) ∙ rw (d, recorded-bytes (recorded t tab)))

        exprs-written : exprs' ≡ expr_table t tab ++ drop (2 * name_count s) l.exprs
        unfolding expr_table number_of or_number ◌>>=◌
        exprs-written =
            let q : length names-numbers ≡ name_count s = table-length number 0 (length t.names) ∙ tree-names s in
            let c : exprs₀ ≡ pairs (replicate (length names-numbers) 16383) ++ drop (2 * name_count s) l.exprs = cl ∙ rw (le-leb (2 * names) (length l.exprs) room-exprs, q, nn) in
            ran.exprs (open_still still)
            ∙ ap (entered (doing t tab (walk t tab)).bound) c
            ∙ entered_all 16383 names-numbers (drop (2 * name_count s) l.exprs) (doing t tab (walk t tab)).bound (rw q (walk_binds s a tab)) (λ n h. last-is n (rw q at h))
            ∙ ap (λ r. r ++ drop (2 * name_count s) l.exprs) (sym (entries (λ n. option_bytes (name_expr t tab n)) number (λ n. two_bytes (name_expr t tab n)) t.names))
          where
            number : ℕ → ℕ
            number n = number_of (name_expr t tab n)

            names-numbers : List ℕ
            names-numbers = table number 0 (length t.names)

            last-number : (o : Option (ℕ × ℕ)) → or_number o 16383 ≡ number_of (o >>= λ b. Some b.1)
            last-number None = refl
            last-number (Some b) = refl

            last-is : (n : ℕ) → n < name_count s → or_number (final (λ b. eqb b.0 n) (doing t tab (walk t tab)).bound) 16383 ≡ get_or names-numbers n 0
            last-is n h =
                last-number (final (λ b. eqb b.0 n) (doing t tab (walk t tab)).bound)
                ∙ ap number_of (walk-bound t tab n)
                ∙ sym (table_at number (length t.names) n 0 (rw (tree-names s) h))

        pub walk-done : {cleared-working : List ℕ} → cleared-working ≡ zeros working'
            → Walks (Ok (walked (whole - state.left) state.edges state.recorded)) (lent edges' narrowings' exprs' cleared-working)
        unfolding written steps_of
        walk-done c =
            let e : whole - state.left ≡ walk_steps t tab = omega (arith, left_is, w, still) in
            rw (e, edges_are still, recorded_are still, c, zeros-same working' l.working k₄, edges-written, narrowings-written, exprs-written)
            (sym (on_answer walking q l (sym end_is ∙ ended)))

    -- `ended` answers so
    pub walk-ended : {r : Result Walked Refusal} {l' : Lent} → Ended state whole names (lent edges' narrowings' exprs' working') r l' → Walks r l'
    unfolding walked_of
    walk-ended {r} {l'} d = go (end_in state names (lent edges' narrowings' exprs' working')) refl d.answer d.buffers
      where
        go : (n : ℕ) → n ≡ end_in state names (lent edges' narrowings' exprs' working') → r ≡ walked_of n (whole - state.left) state.edges state.recorded
            → l' ≡ cond (eqb n 0) (lent edges' narrowings' exprs' (zeros working')) (cleared (lent edges' narrowings' exprs' working'))
            → Walks r l'
        go zero f p q = rw (p, q) (walk-done f refl refl)
        go (suc n) f p q = let z : suc n ≡ 0 → ⊥ = λ z. absurd (omega arith) in rw p (walk_refused_lem f (omega arith, refl) (rw (ne_eqb (suc n) 0 z) at q))
