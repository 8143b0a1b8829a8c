-- What a run from the entry leaves in its state, whatever the buffers are.
use Rattle.std.specs.Prelude.{None}
use mathlib.Core.Path.{◌≡◌, refl, ap, subst, ◌∙◌}
use mathlib.Core.Bool.{true}
use mathlib.Core.List.{List, []}
use Prim.Native.Nat.{ℕ, ◌+◌, ◌-◌, ◌^◌, ◌<◌}
use native.Mathlib.Nat.{zero-max, zero-add}
use native.Mathlib.Omega.{arith}
use lib.ListN.{length, length-map}
use Rattle.semantics.specs.Tree.{Tree}
use Rattle.semantics.specs.Resolution.{Tables}
use Rattle.semantics.specs.Walk.{edges, recorded, walk_steps, most_in_force, visits_from, walk}
use Rattle.image_fields.specs.Image.{decode}
use Rattle.image.specs.Inside.Accepted.{Accepted}
use Rattle.given.specs.Bindings.{bindings_fit}
use Rattle.given.specs.Resolutions.{resolutions_fit}
use Rattle.given.specs.Given.{given}
use Rattle.narrow_texts.proofs.NumberLaws.{numbered-none}
use Rattle.walk_visit.specs.declared.State.{State}
use Rattle.walk_visit.specs.Inside.Parts.{edge_number}
use Rattle.walk_guard.specs.Inside.Added.{Ready}
use Rattle.walk_run.specs.Inside.Effects.{doing}
use Rattle.walk_run.specs.Inside.Run.{Sheet, sheet, Ran, step_to, Traversed}
use Rattle.walk_run.proofs.WorkLaws.{stands-nothing}
use Rattle.walk.proofs.TotalLaws.{walk_from, walk-cost, walk-most, walk-edges, walk-recorded}

-- the state that a run begins with
abbrev pub begin : ℕ → State
begin whole = record { left = whole; edges = 0; recorded = 0; most = 0; elses = 0 }

module _ (s resolutions bindings : List ℕ) (budget : ℕ) {whole entry : ℕ} (w : whole ≡ budget + 1) (en : entry ≡ (decode s).entry) where
  pub ready_entry : Accepted s → budget < 2 ^ 32 → resolutions_fit s resolutions ≡ true → bindings_fit s bindings ≡ true
      → Ready s resolutions bindings entry 0 (begin whole)
  unfolding decode
  ready_entry a small r b =
      record {
        accepted = a;
        resolved = r;
        bound = b;
        inside = rw en a.entry;
        going = omega arith;
        force_few = omega arith;
        edges_few = omega arith;
        credit-few = omega arith;
      }

  module _ {edges₀ narrowings₀ exprs₀ working₀ : List ℕ} {state : State} {edges' narrowings' exprs' working' : List ℕ}
      (tr : Traversed s resolutions bindings entry 16383 0 (sheet (begin whole) edges₀ narrowings₀ exprs₀ working₀) (sheet state edges' narrowings' exprs' working')) where
    abbrev t : Tree
    t = decode s

    abbrev tab : Tables
    tab = given resolutions bindings

    abbrev start : Sheet
    start = sheet (begin whole) edges₀ narrowings₀ exprs₀ working₀

    abbrev end : Sheet
    end = sheet state edges' narrowings' exprs' working'

    pub ran : Ran (doing t tab (walk t tab)) start end
    ran =
        subst (λ vs. Ran (doing t tab vs) start end) (walk_from t tab)
        (subst (λ n. Ran (doing t tab (visits_from t tab (step_to n None) [] [])) start end) en
        (subst (λ b. Ran (doing t tab (visits_from t tab (step_to entry b) [] [])) start end) (numbered-none {r = 16383} refl) (tr.ran [] [] (stands-nothing working₀))))

    pub left_is : state.left ≡ budget + 1 - walk_steps t tab
    left_is = omega (arith, ran.count, walk-cost t tab, w)

    module _ (o : state.left ≡ 0 → ⊥) where
      pub open_still : 0 < state.left
      open_still = omega (arith, o)

      pub edges_are : state.edges ≡ length (edges t tab)
      edges_are = (ran.edges open_still).number ∙ ap (λ n. 0 + n) (length-map (doing t tab (walk t tab)).edges edge_number) ∙ zero-add _ ∙ ap length (walk-edges t tab)

      pub recorded_are : state.recorded ≡ length (recorded t tab)
      recorded_are = ran.recorded open_still ∙ zero-add _ ∙ ap length (walk-recorded t tab)

      pub most-is : state.most ≡ most_in_force t tab
      most-is = ran.most open_still ∙ zero-max _ ∙ walk-most t tab
