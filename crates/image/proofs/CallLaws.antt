-- A call whose first rules are those of its image: `check` accepts that, and the rules behind decide, or refuses it.
use mathlib.Core.Path.{◌≡◌, refl, sym, subst, ap, ◌∙◌}
use mathlib.Core.Logic.{⊎_elim}
use mathlib.Core.List.{List, ◌++◌}
use Prim.Native.Nat.{ℕ, zero, suc, ◌<◌}
use native.Mathlib.Omega.{arith}
use Rattle.semantics.specs.Base.{All}
use Rattle.semantics.proofs.BaseLaws.{All-++}
use Rattle.lent.specs.Calls.{Rule, first_broken, Call, Outcome, leaves, turned_back, refusal_told, outcome_after, refusal_of, outcome}
use Rattle.lent.proofs.CallLaws.{behind-kept, behind_broken, front_kept, below_eight, above_nine, on_other, broken_has, Numbered, told_refusal}
use Rattle.codes.specs.declared.refusals.Refusal.{Refusal}
use Rattle.codes.specs.Refusals.{refusal_numbered}
use Rattle.std.specs.Prelude.{Result, Ok, Err}
use Rattle.image.specs.Refusals.{image_rules, image_refusal, verdict_of}
use Rattle.image.proofs.AcceptedLaws.{accepts_only, refuses_only, refusal_few}

-- each rule of an image has a number
rules-numbered : (s : List ℕ) → All (λ r. 0 < r.1) (image_rules s)
unfolding image_rules
rules-numbered s = (omega arith, (omega arith, (omega arith, (omega arith, (omega arith, (omega arith, (omega arith, (omega arith, tt))))))))

-- the rules behind those of an image, where that is accepted
pub behind-image : (s : List ℕ) (more : List Rule) → image_refusal s ≡ 0 → first_broken (image_rules s ++ more) ≡ first_broken more
unfolding image_refusal
behind-image s more h = behind-kept (image_rules s) more (rules-numbered s) h

-- where the image is refused, so is the call, with the same number
pub front_broken : (s : List ℕ) (more : List Rule) → (image_refusal s ≡ 0 → ⊥) → first_broken (image_rules s ++ more) ≡ image_refusal s
unfolding image_refusal
front_broken s more h = behind_broken (image_rules s) more refl (omega (arith, h))

-- where none is broken, the image is accepted
pub image-kept : (s : List ℕ) (more : List Rule) → first_broken (image_rules s ++ more) ≡ 0 → image_refusal s ≡ 0
unfolding image_refusal
image-kept s more h = front_kept (image_rules s) more h

-- each refusal of an image is the one with its number
image-numbered : (s : List ℕ) → All Numbered (image_rules s)
unfolding image_rules refusal_numbered
image-numbered s = (refl, (refl, (refl, (refl, (refl, (refl, (refl, (refl, tt))))))))

-- the number of a verdict is the refusal's
pub verdict-told : (s : List ℕ) → refusal_told (verdict_of (image_refusal s)) ≡ image_refusal s
unfolding image_refusal image_rules verdict_of refusal_told refusal_numbered
verdict-told s = broken_has (λ n. refusal_told (verdict_of n) ≡ n) refl (image_rules s) (refl, (refl, (refl, (refl, (refl, (refl, (refl, (refl, tt))))))))

module _ {Question Lent Answer : Type 0} (call : Call Question Lent Answer) (q : Question) (l : Lent) (s : List ℕ) (more : List Rule)
    (rules : call.rules q l ≡ image_rules s ++ more) where
  pub on_accepted : Ok tt ≡ verdict_of (image_refusal s) → {x : Outcome Lent Answer} → x ≡ outcome_after call (first_broken more) q l → x ≡ outcome call q l
  unfolding outcome refusal_of
  on_accepted v e = e ∙ rw (rules, behind-image s more (accepts_only _ v))

  pub on_turned_back : {r : Refusal} → Err r ≡ verdict_of (image_refusal s) → leaves (call.refused (image_refusal s)) l ≡ outcome call q l
  unfolding outcome refusal_of image_refusal
  on_turned_back {r} v =
      let e = refuses_only (image_refusal s) r v in
      rw (rules, behind_broken (image_rules s) more refl e.0)
      (sym (on_other call q l e.0 (⊎_elim (λ f. below_eight (image_refusal s) (omega (arith, f))) (λ f. above_nine (image_refusal s) (omega (arith, f))) (refusal_few s))))

-- the same of a call that answers a refusal by its name
module _ {Question Lent Answer : Type 0} (call : Call Question Lent (Result Answer Refusal)) (q : Question) (l : Lent) (s : List ℕ) (more : List Rule)
    (rules : call.rules q l ≡ image_rules s ++ more) (back : (n : ℕ) → call.refused n ≡ turned_back n) where
  pub on_refused : {r : Refusal} → Err r ≡ verdict_of (image_refusal s) → leaves (Err r) l ≡ outcome call q l
  on_refused {r} v =
      let e = refuses_only (image_refusal s) r v in
      ap (λ a. leaves a l) (ap Err e.1 ∙ sym (back (image_refusal s))) ∙ on_turned_back call q l s more rules v

  -- the refusal is told by the answer
  pub told_by_answer : {a : Answer} → call.done q ≡ Ok a → All Numbered more → {r : Result Answer Refusal} {l' : Lent} → leaves r l' ≡ outcome call q l
      → refusal_told r ≡ refusal_of call q l
  told_by_answer d h = told_refusal call q l back d (subst (All Numbered) (sym rules) (All-++ Numbered (image_rules s) more (image-numbered s) h))
