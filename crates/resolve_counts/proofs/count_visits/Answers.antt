use Prim.Native.Nat.{◌*◌, ◌-◌, ◌<◌, ◌≤◌, ◌^◌}
use mathlib.Core.Path.{refl}
use native.Mathlib.Omega.{arith}
use lib.ListN.{length, get_or, length-set}
use Rattle.image_fields.specs.Image.{expr_count}
use Rattle.resolve_counts.proofs.TallyLaws.{counting_start, counting_skip, counting_over, counting_makes, counting_plain, counting_done}
use Rattle.resolve_counts.proofs.TallyLaws.{waiting_few, pushed-few, product_few, entry-inside}
use Rattle.resolve_counts.proofs.count_visits.Goals as goal
use Rattle.resolve_counts.proofs.count_visits.Goals.{After-push, In-loop-e}

-- the expression that a turn looks at
inside : (c : In-loop-e) → c.loop-e.e - 1 < expr_count c.args.image.bytes.now
inside c = omega (arith, c.loop-e-test.true, c.loop-e.invariant.inside)

long : (c : In-loop-e) → expr_count c.args.image.bytes.now ≤ length c.loop-e.room
long c = omega (arith, c.loop-e.auto.room, length-set c.args.room.now c.entry-entry.result 1, c.requires.holds.long)

few : (c : In-loop-e) → get_or c.loop-e.room (c.loop-e.e - 1) 0 < 2 ^ 32
few c = waiting_few _ c.args.image.accepted c.loop-e.invariant _ (omega (arith, c.loop-e-test.true)) refl

product : (c : After-push) → get_or c.loop-e.room (c.loop-e.e - 1) 0 * c.push.result < 2 ^ 52
product c = product_few _ _ (waiting_few _ c.args.image.accepted c.loop-e.invariant _ (omega (arith, c.loop-e-test.true)) refl)
    (pushed-few _ c.args.image.accepted (omega (arith, c.loop-e-test.true, c.loop-e.invariant.inside)) c.push.ensures)

pub offset_bounds-room-entry : goal.offset_bounds-room-entry
offset_bounds-room-entry c = omega (arith, c.entry-entry.ensures, entry-inside _ c.args.image.accepted, c.args.image.accepted.sized.exprs-few)

pub bounds-room-entry : goal.bounds-room-entry
bounds-room-entry c = omega (arith, c.entry-entry.ensures, entry-inside _ c.args.image.accepted, c.requires.holds.long)

pub overflow_step-e : goal.overflow_step-e
overflow_step-e c = omega (arith, c.entry-entry.ensures, entry-inside _ c.args.image.accepted, c.args.image.accepted.sized.exprs-few)

pub loop-e-init : goal.loop-e-init
loop-e-init c = counting_start _ c.args.image.accepted c.requires.holds c.entry-entry.ensures

pub loop-e-preserved-then-v-eq0 : goal.loop-e-preserved-then-v-eq0
loop-e-preserved-then-v-eq0 c = counting_skip _ c.args.image.accepted c.loop-e.invariant _ (omega (arith, c.loop-e-test.true)) refl c.if-v-eq0.true

pub returns-then-steps-budget : goal.returns-then-steps-budget
returns-then-steps-budget c = counting_over _ c.args.image.accepted c.loop-e.invariant _ (omega (arith, c.loop-e-test.true)) refl
    c.if-steps-budget.true refl

pub overflow_mul-steps : goal.overflow_mul-steps
overflow_mul-steps c = omega (arith, product ((goal.at.overflow_mul-steps c).After-push))

pub overflow_add-steps-in-loop-e : goal.overflow_add-steps-in-loop-e
overflow_add-steps-in-loop-e c = omega (arith, product ((goal.at.overflow_add-steps-in-loop-e c).After-push), few ((goal.at.overflow_add-steps-in-loop-e c).In-loop-e), c.loop-e.invariant.small)

pub loop-e-preserved-then-makes_scope : goal.loop-e-preserved-then-makes_scope
loop-e-preserved-then-makes_scope c = counting_makes _ c.args.image.accepted c.loop-e.invariant _ (omega (arith, c.loop-e-test.true)) refl c.requires.budget_bound
    (omega (arith, c.if-steps-budget.false))
    (inside ((goal.at.loop-e-preserved-then-makes_scope c).In-loop-e)) c.push.ensures c.if-v-eq0.false c.makes_scope.ensures c.if-makes_scope.true

pub loop-e-preserved : goal.loop-e-preserved
loop-e-preserved c = counting_plain _ c.args.image.accepted c.loop-e.invariant _ (omega (arith, c.loop-e-test.true)) refl c.requires.budget_bound
    (omega (arith, c.if-steps-budget.false))
    (inside ((goal.at.loop-e-preserved c).In-loop-e)) c.push.ensures c.if-v-eq0.false c.makes_scope.ensures c.if-makes_scope.false

pub returns : goal.returns
returns c = counting_done _ c.args.image.accepted c.loop-e.invariant (omega (arith, c.loop-e-test.false)) _ refl refl
