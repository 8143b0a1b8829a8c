-- The loop of `traverse_bindings`: what each way through it leaves, in the terms of the code.
use mathlib.Core.Path.{◌≡◌, refl, ap, sym, subst, ◌∙◌}
use mathlib.Core.Logic.{◌⊎◌, inl, inr, ⊎_elim}
use mathlib.Core.Bool.{Bool, true, false, cond}
use mathlib.Core.List.{List, []}
use Prim.Native.Nat.{ℕ, suc, ◌+◌, ◌-◌, ◌*◌, ◌^◌, ◌≤◌, ◌<◌}
use native.Mathlib.Omega.{arith}
use native.Mathlib.Decide.{ℕ_discrete}
use lib.Dec.{eqb, ltb}
use lib.ListN.{length, get_or, drop, drop_of_length-le}
use borrow.Author.Tests.{ne_eqb}
use Rattle.semantics.specs.Tree.{Tree, Item, no_item, expr_at, item_at}
use Rattle.semantics.specs.Scopes.{Scope, inside}
use Rattle.semantics.specs.Resolution.{with_of}
use Rattle.semantics.proofs.BaseLaws.{true≢false}
use Rattle.image_fields.specs.Image.{expr_count, item_place, first_of, count_of, item_here, decode}
use Rattle.image_fields.proofs.ImageLaws.{tree-items}
use Rattle.image.specs.Inside.Accepted.{Accepted}
use Rattle.image.proofs.AcceptedLaws.{item-below}
use Rattle.resolve_defs.proofs.DefinitionLaws.{item_here_lem, an_item}
use Rattle.resolve_events.specs.declared.Round.{Round}
use Rattle.resolve_events.specs.declared.Round.TheVariants.{Whole, Inside, Outside}
use Rattle.resolve_events.specs.declared.Due.{Due}
use Rattle.resolve_events.specs.declared.Due.TheVariants.{Now, Not, Later}
use Rattle.resolve_events.specs.Inside.Turns.{has_bindings}
use Rattle.resolve_laws.specs.Inside.Logged.{closing}
use Rattle.resolve_events.specs.Inside.Pass.{Trail, visit, pass, pass_all, ended, pass_below, Sheet, sheet, Held, spare_of, number_of}
use Rattle.resolve_events.specs.Inside.Pass.{Ready, Went, Traversed, turn_visits, round_of, when_of, ends_with, place_of, around_of, Ended}
use Rattle.resolve_events.proofs.PassLaws.{pass_all-one, pass_all-none, pass_all-few, ended-not}
use Rattle.resolve_events.proofs.TurnLaws.{first_turns, second_turns, turn_visit, first-at, second_at, first-length, second-length, second-long, second_none, both-other, assert_two}
use Rattle.resolve_events.proofs.RoundLaws.{visits_of, visits_nil, pass-next, none-next, both_rounds, rounds_done}
use Rattle.resolve_events.proofs.HeldLaws.{went-same, went_then, held_less, held-few, held-ended}
use Rattle.resolve_events.proofs.WhenLaws.{is_second, second_or_not, not_second, Fits, Sorted, sorted, fits-first, first-not-second, due_first, due_second, tag_at, tag-second, tag-first, tag_with, visits-some, visit-one, around_with, around_other, around_small}

-- The loop of `traverse_bindings`: in this round the items from the last one down to this are done.
module _ (s : List ℕ) (e : ℕ) where
  -- after the first round and its end
  pub after_first : Scope → Trail → Trail
  after_first c x = ended (closing (decode s) e) e (length x.events) (pass_all (decode s) (visits_of (decode s) e c (first_turns (decode s) e)) x)

  pub from_item : Round → Scope → ℕ → Trail → Trail
  from_item round c k x =
      cond (is_second round) (pass_all (decode s) (visits_of (decode s) e c (drop k (second_turns (decode s) e))) (after_first c x))
      (pass_all (decode s) (visits_of (decode s) e c (drop k (first_turns (decode s) e))) x)

  from_second : {round : Round} → round ≡ Outside → (c : Scope) (k : ℕ) (x : Trail)
      → from_item round c k x ≡ pass_all (decode s) (visits_of (decode s) e c (drop k (second_turns (decode s) e))) (after_first c x)
  unfolding from_item is_second
  from_second h c k x = rw h

  from_first : {round : Round} → (round ≡ Outside → ⊥) → (c : Scope) (k : ℕ) (x : Trail)
      → from_item round c k x ≡ pass_all (decode s) (visits_of (decode s) e c (drop k (first_turns (decode s) e))) x
  unfolding from_item
  from_first {round} h c k x = rw (not_second round h)

  -- outside: whether something is to be visited in the second round
  pub record Going (with : ℕ) (y here : Sheet) (round : Round) (outside : Bool) (k : ℕ) : Type 0 where
    pub below : k ≤ length (expr_at (decode s) e).items
    pub fits : Fits (expr_at (decode s) e).kind round
    pub flag : outside ≡ true → round ≡ Inside
    pub quiet : (round ≡ Outside → ⊥) → outside ≡ false → (c : Scope) → visits_of (decode s) e c (drop k (second_turns (decode s) e)) ≡ []
    pub done : Traversed s (λ c. from_item round c k) with (spare_of (decode s) e) 0 y here

spare-one : (t : Tree) (e : ℕ) → closing t e ≡ true → spare_of t e ≡ 1
unfolding spare_of
spare-one t e h = rw h

-- the turns left, at most: a second round may come
unfoldable pub turns_left : Round → ℕ → ℕ
turns_left round k = k + cond (is_second round) 0 (2 ^ 20)

pub left-next : (round : Round) {next k : ℕ} → (k ≡ 0 → ⊥) → next ≡ k - 1 → turns_left round next < turns_left round k
unfolding turns_left
left-next round o m = omega (arith, o, m)

pub left_again : (k : ℕ) {round : Round} {count : ℕ} → round ≡ Inside → count < 2 ^ 20 → turns_left Outside count < turns_left round k
unfolding turns_left is_second
left_again k h l = rw h (omega (arith, l))

module _ {s : List ℕ} {e with : ℕ} {y : Sheet} (r : Ready s e with (spare_of (decode s) e) y) where
  abbrev tree : Tree
  tree = decode s

  nothing-from : (us : List (Bool × Item)) (k : ℕ) → length us ≤ k → (c : Scope) → visits_of tree e c (drop k us) ≡ []
  nothing-from us k h c = ap (visits_of tree e c) (drop_of_length-le us {i = k} h) ∙ visits_nil tree e c

  pub going_start : {k kind : ℕ} {round : Round} → kind ≡ (expr_at (decode s) e).kind → k ≡ length (expr_at (decode s) e).items → round ≡ round_of kind → Going s e with y y round false k
  going_start {k} {kind} {round} kk n q =
      record {
        below = omega (arith, n);
        fits = fits-first first_one;
        flag = λ h. absurd (true≢false h refl);
        quiet = λ z h c. nothing-from (second_turns tree e) k (omega (arith, n, second-length s r.accepted e r.inside)) c;
        done = record {
          went = went-same y;
          passed = λ c x w d. subst (λ u. Held tree (expr_count s) 0 u y) (sym (nothing c x)) (held_less (omega arith) d);
        };
      }
    where
      first_one : round ≡ round_of (expr_at tree e).kind
      first_one = q ∙ ap round_of kk

      nothing : (c : Scope) (x : Trail) → from_item s e round c k x ≡ x
      nothing c x =
          from_first s e (first-not-second (expr_at tree e).kind first_one) c k x
          ∙ ap (λ z. pass_all tree z x) (nothing-from (first_turns tree e) k (omega (arith, n, first-length s r.accepted e r.inside)) c)
          ∙ pass_all-none tree x

  -- the number of events is small all the way
  pub going-few : {here : Sheet} {round : Round} {outside : Bool} {k : ℕ} → Going s e with y here round outside k → here.at ≤ expr_count s
  going-few g = held-few (g.done.passed r.scope r.trail r.within r.held)

  -- after a round
  module _ {table working working' : List ℕ} {now at' at k kind : ℕ} {round : Round} {outside ends : Bool} (g : Going s e with y (sheet table working now) round outside k) (z : k ≡ 0) (kk : kind ≡ (expr_at (decode s) e).kind)
      (b : ends ≡ ends_with kind round) (a : at ≡ y.at) (d : Ended ends e at working now working' at') where
    went_end : Went (expr_count s) y (sheet table working' at')
    went_end =
        record {
          table-long = g.done.went.table-long;
          working-long = d.long ∙ g.done.went.working-long;
          behind = g.done.went.behind;
        }

    is : ends ≡ ends_with (expr_at tree e).kind round
    is = b ∙ ap (λ i. ends_with i round) kk

    -- the first one, which ends
    module _ (n : round ≡ Outside → ⊥) (c : Scope) (x : Trail) (h : Held (decode s) (expr_count s) (spare_of (decode s) e) x y) (w : with ≡ number_of (with_of (decode s) c)) where
      whole : from_item s e round c k x ≡ pass_all tree (visits_of tree e c (first_turns tree e)) x
      whole = from_first s e n c k x ∙ ap (λ i. pass_all tree (visits_of tree e c (drop i (first_turns tree e))) x) z

      more : closing tree e ≡ true → suc (length (pass_all tree (visits_of tree e c (first_turns tree e)) x).events) ≤ length (pass_all tree (visits_of tree e c (first_turns tree e)) x).visits
      more f = omega (arith, pass_all-few tree (visits_of tree e c (first_turns tree e)) x, h.few, spare-one tree e f)

      held_first : Held tree (expr_count s) 0 (after_first s e c x) (sheet table working' at')
      unfolding after_first
      held_first =
          held-ended (subst (λ u. Held tree (expr_count s) 0 u (sheet table working now)) whole (g.done.passed c x w h))
          (subst (λ u. Ended u e (length x.events) working now working' at') (is ∙ due_first tree e g.fits n) (subst (λ u. Ended ends e u working now working' at') (a ∙ h.number) d))
          (omega (arith, r.working-room, g.done.went.working-long)) more

    -- the second one, which does not
    held-second : round ≡ Outside → (c : Scope) (x : Trail) → Held tree (expr_count s) (spare_of tree e) x y → with ≡ number_of (with_of tree c)
        → Held tree (expr_count s) 0 (from_item s e round c k x) (sheet table working' at')
    held-second n c x h w =
        subst (λ u. Held tree (expr_count s) 0 u (sheet table working' at')) (ap (λ u. ended u e at (from_item s e round c k x)) never ∙ ended-not e at (from_item s e round c k x))
        (held-ended (g.done.passed c x w h) d (omega (arith, r.working-room, g.done.went.working-long)) (λ f. absurd (true≢false f never)))
      where
        never : ends ≡ false
        never = is ∙ due_second tree e g.fits n

    pub going_done : outside ≡ false → Traversed s (pass_below (decode s) e) with (spare_of (decode s) e) 0 y (sheet table working' at')
    unfolding both_rounds after_first
    going_done o =
        record {
          went = went_end;
          passed = λ c x w h. subst (λ u. Held tree (expr_count s) 0 u (sheet table working' at')) (rounds_done s r.accepted e r.inside c x)
              (elim (second_or_not round) [
                | inl n ↦ subst (λ u. Held tree (expr_count s) 0 u (sheet table working' at'))
                    (from_second s e n c k x ∙ ap (λ i. pass_all tree (visits_of tree e c (drop i (second_turns tree e))) (after_first s e c x)) z) (held-second n c x h w)
                | inr n ↦ subst (λ u. Held tree (expr_count s) 0 u (sheet table working' at')) (sym (skipped n c x)) (held_first n c x h w)
              ]);
        }
      where
        skipped : (round ≡ Outside → ⊥) → (c : Scope) (x : Trail) → pass_all tree (visits_of tree e c (second_turns tree e)) (after_first s e c x) ≡ after_first s e c x
        skipped n c x =
            ap (λ u. pass_all tree u (after_first s e c x)) (ap (λ i. visits_of tree e c (drop i (second_turns tree e))) (sym z) ∙ g.quiet n o c)
            ∙ pass_all-none tree (after_first s e c x)

    -- on to the second round
    pub going_again : outside ≡ true → {count : ℕ} → count ≡ length (expr_at (decode s) e).items → Going s e with y (sheet table working' at') Outside false count
    going_again o {count} m =
        record {
          below = omega (arith, m);
          fits = record { plain = λ h. absurd (cc h); bound = λ h. g.fits.bound (λ u. cc (u, g.flag o)) };
          flag = λ h. absurd (true≢false h refl);
          quiet = λ h. absurd (h refl);
          done = record {
            went = went_end;
            passed = λ c x w h. subst (λ u. Held tree (expr_count s) 0 u (sheet table working' at')) (sym (begun c x)) (held_first (λ u. cc (u, g.flag o)) c x h w);
          };
        }
      where
        begun : (c : Scope) (x : Trail) → from_item s e Outside c count x ≡ after_first s e c x
        begun c x =
            from_second s e refl c count x
            ∙ ap (λ u. pass_all tree u (after_first s e c x)) (nothing-from (second_turns tree e) count (omega (arith, m, second-length s r.accepted e r.inside)) c)
            ∙ pass_all-none tree (after_first s e c x)

  -- the next item of a round
  module _ {here : Sheet} {round : Round} {k : ℕ} {outside : Bool} (g : Going s e with y here round outside k) (o : k ≡ 0 → ⊥) {next : ℕ} (m : next ≡ k - 1) {kind : ℕ} (kk : kind ≡ (expr_at (decode s) e).kind)
    where
      this : suc next ≡ k
      this = omega (arith, m, o)

      next_in : next < length (expr_at tree e).items
      next_in = omega (arith, this, g.below)

      pub place_asks : kind ≡ 14 → next ≤ 1
      place_asks h = omega (arith, next_in, assert_two s r.accepted e r.inside (sym kk ∙ h))

      module _ {j : ℕ} (p : j ≡ place_of kind next) where
        j_is : j ≡ place_of (expr_at tree e).kind next
        j_is = p ∙ ap (λ z. place_of z next) kk

        pub place-few : j < count_of s e
        place-few = rw (j_is, ← tree-items s e r.inside) (first-at s r.accepted e r.inside next next_in).1

        module _ {i : Item} (q : item_at (decode s) e j ≡ i) where
          tag : Bool
          tag = tag_at tree e g.fits next

          item-is : item_at tree e (place_of (expr_at tree e).kind next) ≡ i
          item-is = ap (item_at tree e) (sym j_is) ∙ q

          both : (round ≡ Outside) ⊎ (round ≡ Inside) → has_bindings (expr_at tree e).kind ≡ true
          both (inl h) = g.fits.bound (λ z. cc (z, h))
          both (inr h) = g.fits.bound (λ z. cc (z, h))

          second_turn : (h : round ≡ Outside) → get_or (second_turns tree e) next (true, no_item) ≡ (tag, i)
          unfolding tag
          second_turn h =
              second_at s r.accepted e r.inside (both (inl h)) next next_in
              ∙ ap (λ z. (false, z)) item-is ∙ ap (λ z. (z, i)) (sym (tag-second tree e g.fits next h))

          first_turn : (round ≡ Outside → ⊥) → get_or (first_turns tree e) next (true, no_item) ≡ (tag, i)
          unfolding tag
          first_turn h =
              (first-at s r.accepted e r.inside next next_in).0
              ∙ ap (λ z. (cond (eqb (expr_at tree e).kind 13) (ltb 0 next) true, z)) item-is ∙ ap (λ z. (z, i)) (sym (tag-first tree e g.fits next h))

          step : (c : Scope) (x : Trail) → from_item s e round c next x ≡ pass_all tree (turn_visit tree e c (tag, i)) (from_item s e round c k x)
          step c x = elim (second_or_not round) [
            | inl h ↦
                from_second s e h c next x
                ∙ pass-next tree e c (second_turns tree e) next (omega (arith, next_in, second-long s r.accepted e r.inside (both (inl h)))) (second_turn h) (after_first s e c x)
                ∙ ap (λ z. pass_all tree (turn_visit tree e c (tag, i)) (pass_all tree (visits_of tree e c (drop z (second_turns tree e))) (after_first s e c x))) this
                ∙ ap (pass_all tree (turn_visit tree e c (tag, i))) (sym (from_second s e h c k x))
            | inr h ↦
                from_first s e h c next x
                ∙ pass-next tree e c (first_turns tree e) next (omega (arith, next_in, first-length s r.accepted e r.inside)) (first_turn h) x
                ∙ ap (λ z. pass_all tree (turn_visit tree e c (tag, i)) (pass_all tree (visits_of tree e c (drop z (first_turns tree e))) x)) this
                ∙ ap (pass_all tree (turn_visit tree e c (tag, i))) (sym (from_first s e h c k x))
          ]

          module _ {role child : ℕ} {due : Due} (a : role ≡ i.role) (b : child ≡ i.expression) (w : due ≡ when_of round role child) where
            what : Sorted (expr_at tree e).kind round tag i due
            unfolding tag
            what =
                sorted (expr_at tree e).kind round tag i g.fits
                (λ h. tag-first tree e g.fits next (λ z. cc (z, h)) ∙ rw (ne_eqb _ 13 (both-other s r.accepted e r.inside (both (inr h))).0))
                (λ h. tag-second tree e g.fits next h) (w ∙ ap (λ z. when_of round z child) a ∙ ap (when_of round i.role) b)

            visit-none : (c : Scope) (z : Bool) → turn_visits (expr_at tree e).kind z i ≡ false → turn_visit tree e c (z, i) ≡ []
            unfolding turn_visit
            visit-none c z h = rw h

            -- it is not visited in this round
            passed_by : (due ≡ Now → ⊥) → Traversed s (λ c. from_item s e round c next) with (spare_of tree e) 0 y here
            passed_by h =
                record {
                  went = g.done.went;
                  passed = λ c x v d. subst (λ u. Held tree (expr_count s) 0 u here)
                      (sym (step c x ∙ ap (λ z. pass_all tree z (from_item s e round c k x)) (visit-none c tag (what.passes h)) ∙ pass_all-none tree (from_item s e round c k x)))
                      (g.done.passed c x v d);
                }

            quiet_next : (due ≡ Later → ⊥) → (round ≡ Outside → ⊥) → outside ≡ false → (c : Scope) → visits_of tree e c (drop next (second_turns tree e)) ≡ []
            quiet_next n h f c = go round refl
              where
                go : (r : Round) → round ≡ r → visits_of tree e c (drop next (second_turns tree e)) ≡ []
                go Whole u = nothing-from (second_turns tree e) next (omega (arith, ap length (second_none s r.accepted e r.inside (g.fits.plain u)))) c
                go Inside u =
                    none-next tree e c (second_turns tree e) next (omega (arith, next_in, second-long s r.accepted e r.inside (both (inr u))))
                    (second_at s r.accepted e r.inside (both (inr u)) next next_in ∙ ap (λ z. (false, z)) item-is) (visit-none c false (what.quiet u n))
                    (ap (λ z. visits_of tree e c (drop z (second_turns tree e))) this ∙ g.quiet h f c)
                go Outside u = absurd (h u)

            pub going_skip : due ≡ Not → Going s e with y here round outside next
            going_skip h =
                record { below = omega (arith, next_in); fits = g.fits; flag = g.flag; quiet = quiet_next (λ z. cc (z, h)); done = passed_by (λ z. cc (z, h)) }

            pub going_later : due ≡ Later → Going s e with y here round true next
            going_later h =
                record { below = omega (arith, next_in); fits = g.fits; flag = λ z. what.first_round h; quiet = λ z f. absurd (true≢false refl f); done = passed_by (λ z. cc (z, h)) }

            module _ (now : due ≡ Now) where
              -- what is visited is below its owner
              pub child-below : child < e
              child-below = rw b (subst (λ z. z.expression < e) q (⊎_elim (λ h. h) (λ h. absurd (visits-some (expr_at tree e).kind tag i (what.visits now) (ap (λ z. z.expression) (sym q) ∙ h))) (item-below s r.accepted e r.inside j place-few)))

              module _ {number : ℕ} (v : number ≡ around_of kind next e with) where
                numbered : (c : Scope) → with ≡ number_of (with_of tree c) → number ≡ number_of (with_of tree (cond tag (inside tree e c) c))
                unfolding tag
                numbered c h = v ∙ ap (λ z. around_of z next e with) kk ∙ elim (ℕ_discrete (expr_at tree e).kind 13) [
                  | yes z ↦ around_with tree e with next c z h ∙ ap (λ u. number_of (with_of tree (cond u (inside tree e c) c))) (sym (tag_with tree e g.fits next (no_second z) z))
                  | no z ↦ around_other tree e with next c z h tag
                ]
                  where
                    no_second : (expr_at tree e).kind ≡ 13 → round ≡ Outside → ⊥
                    no_second z u = (both-other s r.accepted e r.inside (both (inl u))).0 z

                pub ready_child : Ready s child number 0 here
                ready_child =
                    record {
                      accepted = r.accepted;
                      inside = omega (arith, child-below, r.inside);
                      with_small = rw v (around_small kind next e with r.with_small (omega (arith, r.inside, r.accepted.sized.exprs-few)));
                      table-room = omega (arith, r.table-room, g.done.went.table-long);
                      working-room = omega (arith, r.working-room, g.done.went.working-long);
                      scope = cond tag (inside tree e r.scope) r.scope;
                      within = numbered r.scope r.within;
                      trail = from_item s e round r.scope k r.trail;
                      held = g.done.passed r.scope r.trail r.within r.held;
                    }

                pub going_more : {after : Sheet} → Traversed s (λ c. pass (decode s) (visit child c)) number 0 0 here after → Going s e with y after round outside next
                going_more {after} d =
                    record {
                      below = omega (arith, next_in);
                      fits = g.fits;
                      flag = g.flag;
                      quiet = quiet_next (λ z. cc (z, now));
                      done = record {
                        went = went_then g.done.went d.went;
                        passed = λ c x u h. subst (λ z. Held tree (expr_count s) 0 z after) (sym (step c x ∙ visits c (from_item s e round c k x)))
                            (d.passed (cond tag (inside tree e c) c) (from_item s e round c k x) (numbered c u) (g.done.passed c x u h));
                      };
                    }
                  where
                    visits : (c : Scope) (x : Trail) → pass_all tree (turn_visit tree e c (tag, i)) x ≡ pass tree (visit child (cond tag (inside tree e c) c)) x
                    visits c x = ap (λ z. pass_all tree z x) (visit-one tree e c tag i (what.visits now)) ∙ pass_all-one tree (visit i.expression (cond tag (inside tree e c) c)) x ∙ ap (λ z. pass tree (visit z (cond tag (inside tree e c) c)) x) (sym b)

-- The item that a turn looks at.
module _ (s : List ℕ) (a : Accepted s) (e : ℕ) (l : e < expr_count s) {items : ℕ} (j : ℕ) (p : items ≡ item_place s (first_of s e + 0)) (m : j < count_of s e) where
  pub turn_here : item_at (decode s) e j ≡ item_here s (items + 4 * j)
  turn_here = item_here_lem s a e l j m (omega (arith, p))

  pub turn_in : items + 4 * j + 4 ≤ length s
  turn_in = (an_item s a e l j m {at = items + 4 * j} (omega (arith, p))).inside
