-- What one call leaves stands, and stays when the analysis runs again.
use mathlib.Core.Path.{◌≡◌, refl, ap, sym, ◌∙◌}
use mathlib.Core.Bool.{true, false, ◌&&◌}
use mathlib.Core.List.{List, [], ◌∷◌, ◌++◌, map}
use Prim.Native.Nat.{ℕ, ◌+◌, ◌*◌, ◌≤◌}
use native.Mathlib.Omega.{arith}
use lib.Dec.{ltb, leb}
use lib.ListN.{length, drop, length-map}
use lib.Seq.{drop-append_seam}
use borrow.Author.Tests.{ltb-true, leb-true}
use Rattle.semantics.specs.Base.{each}
use Rattle.semantics.specs.Narrow.{Narrowing, nodes, analyze}
use Rattle.semantics.specs.Formats.{record_bytes, then_list, else_list}
use Rattle.semantics.proofs.BaseLaws.{and_left, and_right}
use Rattle.image_fields.specs.Image.{expr_count, decode}
use Rattle.image.proofs.AcceptedLaws.{accepted}
use Rattle.image.proofs.CallLaws.{image-kept, behind-image, told_by_answer}
use Rattle.given.specs.Bindings.{bindings_fit}
use Rattle.given.specs.Resolutions.{resolutions_fit}
use Rattle.lent.specs.Calls.{first_broken, leaves, refusal_of, outcome, refusal_told}
use Rattle.lent.proofs.CallLaws.{kept, on_answer}
use Rattle.given.specs.Given.{given}
use Rattle.narrow_leaf.specs.Inside.Told.{record_number}
use Rattle.narrow_run.specs.declared.Takes.TheVariants.{ForTrue, ForFalse}
use Rattle.narrow_run.specs.Inside.Run as run
use Rattle.narrow_run.specs.Inside.Run.{Sheet, sheet, takes, codes, Ran}
use Rattle.narrow.specs.Outcome.{Question, Lent, question, lent, numbers_fit, steps_of, count_of, affordable, room, written, run_rules, fit_rules, analysis}
use Rattle.narrow.specs.declared.Analyzed.{Analyzed}
use Rattle.codes.specs.declared.refusals.Refusal.{Refusal}
use Rattle.codes.specs.Refusals.{number_of, refusal_numbered}
use Rattle.std.specs.Prelude.{Result, Ok, Err}
use Rattle.narrow_run.proofs.ListLaws.{quads, quads_bytes}
use Rattle.narrow.proofs.OutcomeLaws.{many_then, many_else, done}
use Rattle.narrow_timing.specs.Inside.Standing.{Standing}

-- records written over themselves
quads_length : (xs : List ℕ) → length (quads xs) ≡ 4 * length xs
unfolding quads
quads_length [] = refl
quads_length (x ∷ xs) = omega (arith, quads_length xs)

records-length : (rs : List Narrowing) → length (each record_bytes rs) ≡ 4 * length rs
records-length rs = ap length (sym (quads_bytes rs)) ∙ quads_length (map record_number rs) ∙ rw (length-map rs record_number)

written_again : (rs : List Narrowing) (l : List ℕ) → each record_bytes rs ++ drop (4 * length rs) (each record_bytes rs ++ drop (4 * length rs) l) ≡ each record_bytes rs ++ drop (4 * length rs) l
written_again rs l = rw (← records-length rs) (ap (λ r. each record_bytes rs ++ r) (drop-append_seam (each record_bytes rs) (drop (length (each record_bytes rs)) l)))

module _ (q : Question) (l : Lent) where
  again : written q (written q l) ≡ written q l
  unfolding written then_list else_list count_of
  again =
      let t = analyze (decode q.image) (given q.resolutions q.bindings) true q.condition in
      let e = analyze (decode q.image) (given q.resolutions q.bindings) false q.condition in
      rw (written_again t l.thens, written_again e l.elses)

  -- a refusal looks at the lists' lengths alone
  same-room : (l' : Lent) → length l'.thens ≡ length l.thens → length l'.elses ≡ length l.elses → first_broken (run_rules q l') ≡ first_broken (run_rules q l)
  unfolding room
  same-room l' p r = rw (p, r)

  -- the number of an answer
  told : {r : Result Analyzed Refusal} {l' : Lent} → leaves r l' ≡ outcome analysis q l → refusal_told r ≡ refusal_of analysis q l
  unfolding refusal_numbered
  told e = told_by_answer analysis q l q.image (fit_rules q l) refl (λ n. refl) refl (refl, (refl, (refl, tt))) e

  pub when_done : {r : Result Analyzed Refusal} {a : Analyzed} {l' : Lent} → Ok a ≡ r → leaves r l' ≡ outcome analysis q l → refusal_of analysis q l ≡ 0
  unfolding refusal_told
  when_done d e = sym (told e) ∙ ap refusal_told (sym d)

  pub when_turned_back : {r : Result Analyzed Refusal} {f : Refusal} {l' : Lent} → Err f ≡ r → leaves r l' ≡ outcome analysis q l → refusal_of analysis q l ≡ number_of f
  unfolding refusal_told
  when_turned_back d e = sym (told e) ∙ ap refusal_told (sym d)

  -- after a call that answers
  pub standing : refusal_of analysis q l ≡ 0 → {r : Result Analyzed Refusal} {l' : Lent} → leaves r l' ≡ outcome analysis q l
      → length l'.thens ≡ length l.thens → length l'.elses ≡ length l.elses → Standing q l'
  unfolding refusal_of outcome numbers_fit
  standing h {r} {l'} e p f =
      let i = image-kept q.image (fit_rules q l) h in
      let z = sym (behind-image q.image (fit_rules q l) i) ∙ h in
      let w = kept (numbers_fit q, 7) (run_rules q l) (omega arith) z in
      let tables = resolutions_fit q.image q.resolutions && bindings_fit q.image q.bindings in
      let u : l' ≡ written q l = ap (λ o. o.lent) (e ∙ on_answer analysis q l h) in
      record {
        accepted = accepted q.image i;
        inside = ltb-true _ _ (and_left (ltb q.condition (expr_count q.image)) tables w.0);
        resolved = and_left (resolutions_fit q.image q.resolutions) (bindings_fit q.image q.bindings) (and_right (ltb q.condition (expr_count q.image)) tables w.0);
        bound = and_right (resolutions_fit q.image q.resolutions) (bindings_fit q.image q.bindings) (and_right (ltb q.condition (expr_count q.image)) tables w.0);
        answered = same-room l' p f ∙ w.1;
        stands = rw u again;
      }

-- an analysis of what stands leaves the lists as they are
module _ {s resolutions bindings : List ℕ} {c budget : ℕ} {l m : List ℕ} (h : Standing (question s resolutions bindings c budget) (lent l m)) {y : Sheet}
    (ran : Ran (nodes (decode s) c) (takes (run.outcome ForTrue) (codes (decode s) (given resolutions bindings) c)) (takes (run.outcome ForFalse) (codes (decode s) (given resolutions bindings) c))
    (sheet (record { left = budget + 1; thens = 0; elses = 0 }) l m) y)
    (kl : length y.then_list ≡ length l) (km : length y.else_list ≡ length m) where
  abbrev q : Question
  q = question s resolutions bindings c budget

  rules : (affordable q ≡ true) × (first_broken ((room q (lent l m), 9) ∷ []) ≡ 0)
  rules = kept (affordable q, 8) _ (omega arith) h.answered

  within : nodes (decode s) c ≤ budget
  unfolding affordable steps_of
  within = leb-true (nodes (decode s) c) budget rules.0

  roomy : room q (lent l m) ≡ true
  roomy = (kept (room q (lent l m), 9) [] (omega arith) rules.1).0

  going : y.at.left ≡ 0 → ⊥
  going z = omega (arith, ran.count, within)

  rooms : (4 * count_of q true ≤ length l) × (4 * count_of q false ≤ length m)
  unfolding room
  rooms =
      let thens = leb (4 * count_of q true) (length l) in
      let elses = leb (4 * count_of q false) (length m) in
      (leb-true (4 * count_of q true) (length l) (and_left thens elses roomy), leb-true (4 * count_of q false) (length m) (and_right thens elses roomy))

  then_room : 4 * y.at.thens ≤ length y.then_list
  then_room = omega (arith, many_then s resolutions bindings c budget l m ran kl km going, kl, rooms.0)

  else_room : 4 * y.at.elses ≤ length y.else_list
  else_room = omega (arith, many_else s resolutions bindings c budget l m ran kl km going, km, rooms.1)

  stay : lent y.then_list y.else_list ≡ lent l m
  stay =
      ap (λ o. o.lent) (done s resolutions bindings c budget l m ran kl km going then_room else_room ∙ on_answer analysis q (lent l m) h.answered)
      ∙ h.stands

  pub stays : {l₀ m₀ : List ℕ} → l ≡ l₀ → m ≡ m₀ → Standing q (lent y.then_list y.else_list) × (y.then_list ≡ l₀) × (y.else_list ≡ m₀)
  stays p f = (rw stay h, ap (λ x. x.thens) stay ∙ p, ap (λ x. x.elses) stay ∙ f)
