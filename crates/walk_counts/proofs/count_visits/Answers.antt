use Prim.Native.Nat.{◌-◌, ◌<◌, ◌≤◌, ◌^◌}
use mathlib.Core.Path.{refl, ◌∙◌}
use native.Mathlib.Omega.{arith}
use lib.ListN.{length, get_or, length-set}
use Rattle.image_fields.specs.Image.{expr_count}
use Rattle.resolve_counts.proofs.TallyLaws.{entry-inside}
use Rattle.walk_counts.proofs.TallyLaws.{counting_start, counting_skip, counting_over, counting_more, counting_done, waiting_few, product_few}
use Rattle.walk_counts.proofs.count_visits.Goals as goal
use Rattle.walk_counts.proofs.count_visits.Goals.{In-loop-e}

-- the expression that a turn looks at
inside : (c : In-loop-e) → c.loop-e.e - 1 < expr_count c.args.image.bytes.now
inside c = omega (arith, c.loop-e-test.true, c.loop-e.invariant.0.inside)

long : (c : In-loop-e) → expr_count c.args.image.bytes.now ≤ length c.loop-e.visits
long c = omega (arith, c.loop-e.invariant.1, length-set c.args.visits.now c.entry-entry.result 1, c.requires.holds.long)

few : (c : In-loop-e) → get_or c.loop-e.visits (c.loop-e.e - 1) 0 < 2 ^ 32
few c = waiting_few _ _ c.args.image.accepted _ c.loop-e.invariant.0 _ (omega (arith, c.loop-e-test.true)) refl

pub offset_bounds-visits-entry : goal.offset_bounds-visits-entry
offset_bounds-visits-entry c = omega (arith, c.entry-entry.ensures, entry-inside _ c.args.image.accepted, c.args.image.accepted.sized.exprs-few)

pub bounds-visits-entry : goal.bounds-visits-entry
bounds-visits-entry c = omega (arith, c.entry-entry.ensures, entry-inside _ c.args.image.accepted, c.requires.holds.long)

pub overflow_step-e : goal.overflow_step-e
overflow_step-e c = omega (arith, c.entry-entry.ensures, entry-inside _ c.args.image.accepted, c.args.image.accepted.sized.exprs-few)

pub loop-e-init : goal.loop-e-init
loop-e-init c = (counting_start _ _ c.args.image.accepted _ c.requires.holds c.entry-entry.ensures, refl)

pub offset_bounds-visits-e : goal.offset_bounds-visits-e
offset_bounds-visits-e c = omega (arith, inside ((goal.at.offset_bounds-visits-e c).In-loop-e), c.args.image.accepted.sized.exprs-few)

pub bounds-visits-e : goal.bounds-visits-e
bounds-visits-e c = omega (arith, inside ((goal.at.bounds-visits-e c).In-loop-e), long ((goal.at.bounds-visits-e c).In-loop-e))

pub loop-e-preserved-then-v-eq0 : goal.loop-e-preserved-then-v-eq0
loop-e-preserved-then-v-eq0 c = (
  counting_skip _ _ c.args.image.accepted _ c.loop-e.invariant.0 _ (omega (arith, c.loop-e-test.true)) refl
      c.if-v-eq0.true,
  c.loop-e.invariant.1,
)

pub rule-rule-requires : goal.rule-rule-requires
rule-rule-requires c = (inside ((goal.at.rule-rule-requires c).In-loop-e), c.items_place-items_at.ensures)

pub weight-requires : goal.weight-requires
weight-requires c = record { resolutions_value = c.requires.resolutions_value; e_bound = (inside ((goal.at.weight-requires c).In-loop-e), c.requires.budget_bound.1, c.rule-rule.ensures); filled = c.requires.filled }

pub overflow_mul-steps : goal.overflow_mul-steps
overflow_mul-steps c = omega (arith, product_few _ _ (few ((goal.at.overflow_mul-steps c).In-loop-e)) c.weight.ensures.few)

pub overflow_add-steps : goal.overflow_add-steps
overflow_add-steps c = omega (arith, product_few _ _ (few ((goal.at.overflow_add-steps c).In-loop-e)) c.weight.ensures.few, c.loop-e.invariant.0.small, c.requires.budget_bound.0)

pub returns-then-steps-budget : goal.returns-then-steps-budget
returns-then-steps-budget c = counting_over _ _ c.args.image.accepted _ c.loop-e.invariant.0 _ (omega (arith, c.loop-e-test.true)) refl
    c.weight.ensures c.if-steps-budget.true

pub push-requires : goal.push-requires
push-requires c = record { e_bound = (inside ((goal.at.push-requires c).In-loop-e), c.items_place-items_at.ensures, few ((goal.at.push-requires c).In-loop-e)); image_in_bounds = long ((goal.at.push-requires c).In-loop-e) }

pub loop-e-preserved : goal.loop-e-preserved
loop-e-preserved c = (
  counting_more _ _ c.args.image.accepted _ c.loop-e.invariant.0 _ (omega (arith, c.loop-e-test.true)) refl
      c.weight.ensures c.requires.budget_bound.0 c.if-v-eq0.false
      (omega (arith, c.if-steps-budget.false))
      (rw c.rule-rule.ensures at c.push.ensures),
  c.push.ensures.kept ∙ c.loop-e.invariant.1,
)

pub returns : goal.returns
returns c = counting_done _ _ c.args.image.accepted _ c.loop-e.invariant.0 (omega (arith, c.loop-e-test.false))
