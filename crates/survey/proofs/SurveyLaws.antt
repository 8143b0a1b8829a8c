-- The whole text of an image, part by part.
use mathlib.Core.Path.{◌≡◌, refl, ap, sym, ◌∙◌}
use mathlib.Core.List.{List, [], ◌∷◌}
use Prim.Native.Nat.{ℕ, zero, suc, ◌*◌}
use native.Mathlib.Omega.{arith}
use lib.ListN.{length, take, length-replicate}
use borrow.Author.Tests.{eq-eqb, ne_eqb}
use Rattle.semantics.specs.Tree.{bytes}
use Rattle.semantics.specs.Scopes.{resolve_steps}
use Rattle.image_fields.specs.Image.{expr_count, decode}
use Rattle.image.specs.Inside.Accepted.{Accepted}
use Rattle.image.specs.Refusals.{image_refusal}
use Rattle.image.proofs.AcceptedLaws.{accepted}
use Rattle.image.proofs.CallLaws.{image-kept, told_by_answer}
use Rattle.lent.proofs.CallLaws.{refusal-positive}
use Rattle.lent.specs.Calls.{refusal_told, leaves, answer_after, outcome_after, refusal_of, outcome}
use Rattle.codes.specs.declared.refusals.Refusal.{Refusal}
use Rattle.codes.specs.Refusals.{number_of, refusal_numbered}
use Rattle.std.specs.Prelude.{Result, Ok, Err}
use Rattle.resolve.specs.Outcome.{Question, Lent, question, lent, steps_of, room, run_rules, resolving}
use Rattle.resolve.proofs.OutcomeLaws.{table-own}
use Rattle.survey_lines.specs.Text.{line}
use Rattle.survey_lines.specs.Inside.Page.{Printed}
use Rattle.survey_lines.specs.declared.text.Page.{Page}
use Rattle.survey_lines.specs.Lines.{resolution_lines}
use Rattle.index.specs.Own.{own_resolutions}
use Rattle.survey.specs.Survey.{budget, buffer, resolve_refused, refused_text, walk_text, resolved_text, survey_text}
use Rattle.survey_lines.proofs.PageLaws.{both}

pub buffer-long : length buffer ≡ 65536
unfolding buffer
buffer-long = length-replicate {A = ℕ} 65536 0

-- the number of an answer
done-only : (q : Question) (n m : ℕ) → Ok m ≡ answer_after resolving n q → (n ≡ 0) × (m ≡ steps_of q)
unfolding answer_after
done-only q zero m h = (refl, cc)
done-only q (suc n) m h = absurd (let z : ◌≡◌ {A = ℕ} 0 1 = cc in omega arith)

-- the resolution, with two buffers of 65,536 bytes, whatever they are
module _ (s table working : List ℕ) (a : 65536 ≡ length table) (b : 65536 ≡ length working) {r : Result ℕ Refusal} {l' : Lent}
    (e : leaves r l' ≡ outcome resolving (question s budget) (lent table working)) where
  abbrev refusal : ℕ
  refusal = refusal_of resolving (question s budget) (lent table working)

  same_refusal : refusal ≡ resolve_refused s
  unfolding resolve_refused refusal_of room
  same_refusal = rw (← a, ← b, buffer-long)

  answer-is : r ≡ answer_after resolving refusal (question s budget)
  unfolding outcome outcome_after
  answer-is = ap (λ o. o.answer) e

  pub resolve-refused : {m : Refusal} {p p' : Page} → Err m ≡ r → Printed (refused_text (number_of m)) p p' → Printed (survey_text s) p p'
  unfolding survey_text refusal_told refusal_numbered
  resolve-refused {m} h k =
      let f : number_of m ≡ refusal =
      ap refusal_told h ∙ told_by_answer resolving (question s budget) (lent table working) s (run_rules (question s budget) (lent table working)) refl (λ n. refl) refl (refl, (refl, tt)) e in
      let g : number_of m ≡ resolve_refused s = f ∙ same_refusal in
      rw (ne_eqb (resolve_refused s) 0 (λ z. absurd (omega (arith, refusal-positive m, g, z))), ← g) k

  module _ {m : ℕ} (h : Ok m ≡ r) where
    none-refused : (refusal ≡ 0) × (m ≡ resolve_steps (decode s))
    none-refused = done-only (question s budget) refusal m (h ∙ answer-is)

    pub resolve-steps : m ≡ resolve_steps (decode s)
    resolve-steps = none-refused.1

    pub resolve-image : image_refusal s ≡ 0
    unfolding refusal_of
    resolve-image = image-kept s _ none-refused.0

    pub resolve-accepted : Accepted s
    resolve-accepted = accepted s resolve-image

    pub resolve-table : take (2 * expr_count s) l'.table ≡ own_resolutions s
    resolve-table = ap (λ o. take (2 * expr_count s) o.lent.table) e ∙ table-own (question s budget) (lent table working) none-refused.0

    pub resolve-done : {p p' : Page} → Printed (resolved_text s) p p' → Printed (survey_text s) p p'
    unfolding survey_text
    resolve-done k = rw (eq-eqb (resolve_refused s) 0 (sym same_refusal ∙ none-refused.0)) k

pub counted : {m n : ℕ} (l : List ℕ) {table : List ℕ} → m ≡ n → take (2 * n) l ≡ table → take (2 * m) l ≡ table
counted l e h = rw e h

-- what is printed of it, and the walk behind
pub resolved_put : (s : List ℕ) {steps : ℕ} {table : List ℕ} {p q r z : Page} → steps ≡ resolve_steps (decode s) → table ≡ own_resolutions s
    → Printed (line (bytes "resolve") (steps ∷ [])) p q → Printed (resolution_lines table) q r → Printed (walk_text s) r z → Printed (resolved_text s) p z
unfolding resolved_text
resolved_put s e f a b c = both (both (rw e at a) (rw f at b)) c
