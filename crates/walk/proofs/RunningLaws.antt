-- Demand 3 of what runs, proved (specs/Running.antt).
use Rattle.std.specs.Prelude.{Option, Some, None}
use mathlib.Core.Path.{◌≡◌, refl, sym, subst, ◌∙◌}
use mathlib.Core.Logic.{◌⊎◌, inl, inr, ⊎_elim}
use mathlib.Core.Bool.{Bool, true, false, cond}
use mathlib.Core.List.{List, map}
use Prim.Native.Nat.{ℕ, ◌<◌}
use native.Mathlib.Omega.{arith}
use native.Mathlib.Decide.{ℕ_discrete}
use Rattle.semantics.specs.Base.{listed, All, ◌∈◌}
use Rattle.semantics.specs.Narrow.{Narrowing}
use Rattle.semantics.specs.Walk.{Visit, opened, walk, recorded}
use Rattle.semantics.specs.Soundness.{Demand3}
use Rattle.semantics.proofs.BaseLaws.{All-at, All_of, All_each', All-map}
use Rattle.image_fields.specs.Image.{decode}
use Rattle.image.specs.Refusals.{image_refusal}
use Rattle.image.proofs.AcceptedLaws.{refusal_few}
use Rattle.image.proofs.CallLaws.{behind-image, front_broken}
use Rattle.image.proofs.OrderedLaws.{sound-image}
use Rattle.lent.specs.Calls.{first_broken, refusal_of}
use Rattle.lent.proofs.CallLaws.{keeps, keeps_last}
use Rattle.index.proofs.OwnLaws.{read_back, own_fit}
use Rattle.walk.specs.Outcome.{Question, Lent, tables_fit, affordable, room, run_rules, fit_rules, walking}
use Rattle.walk.specs.Running.{own_question, RunningSound, InForceAt, RecordedInForce, NeverSeven, Answers}

-- DEMAND 3, of the walk that runs
pub running_sound : RunningSound
running_sound s h m a = subst (λ tab. Demand3 (decode s) tab m) (sym (read_back s h)) (sound-image s h m a)

pub recorded_in_force : RecordedInForce
unfolding recorded listed
recorded_in_force t tab b e = All-at At (recorded t tab) all e
  where
    At : ℕ × Narrowing → Type 0
    At x = InForceAt t tab x.0 x.1

    own_name : (v : Visit) (o : Option ℕ) → opened v ≡ o → All (λ n. opened v ≡ Some n) (listed o)
    own_name v None q = tt
    own_name v (Some n) q = (q, tt)

    here : (v : Visit) → v ∈ walk t tab → (n : ℕ) → opened v ≡ Some n → All At (map (λ r. (n, r)) v.in_force)
    here v m n q =
        All-map At (λ r. (n, r)) v.in_force
        (All_of (λ r. InForceAt t tab n r) v.in_force (λ r i. record { visit = v; walked = m; opens = q; stands = i }))

    all : All At (recorded t tab)
    all =
        All_each' At (λ v. v ∈ walk t tab) _ (walk t tab) (All_of (λ v. v ∈ walk t tab) (walk t tab) (λ v m. m))
        λ v m. All_each' At (λ n. opened v ≡ Some n) _ (listed (opened v)) (own_name v (opened v) refl) (here v m)

module _ (s : List ℕ) (h : image_refusal s ≡ 0) (budget : ℕ) (l : Lent) where
  abbrev q : Question
  q = own_question s budget

  fits : tables_fit q ≡ true
  unfolding tables_fit
  fits = rw ((own_fit s h).0, (own_fit s h).1)

  -- what is refused of an accepted image is the run
  run_alone : refusal_of walking q l ≡ first_broken (run_rules q l)
  unfolding refusal_of
  run_alone = behind-image s (fit_rules q l) h ∙ keeps 7 (run_rules q l) fits

  run-number : (first_broken (run_rules q l) ≡ 0) ⊎ (7 < first_broken (run_rules q l))
  unfolding first_broken
  run-number = go (affordable q) (room q l)
    where
      go : (b c : Bool) → (◌≡◌ {A = ℕ} (cond b (cond c 0 9) 8) 0) ⊎ (7 < cond b (cond c 0 9) 8)
      go false c = inr (omega arith)
      go true true = inl refl
      go true false = inr (omega arith)

pub never_seven : NeverSeven
unfolding refusal_of
never_seven s budget l e = elim (ℕ_discrete (image_refusal s) 0) [
  | yes h ↦ ⊎_elim (λ f. omega (arith, f, e, run_alone s h budget l)) (λ f. omega (arith, f, e, run_alone s h budget l)) (run-number s h budget l)
  | no h ↦
      let f = front_broken s (fit_rules (own_question s budget) l) h in
      ⊎_elim (λ g. omega (arith, f, g, e)) (λ g. omega (arith, f, g, e)) (refusal_few s)
]

pub answers : Answers
answers s h budget l n r = run_alone s h budget l ∙ keeps 8 _ n ∙ keeps_last 9 r
