use native.Mathlib.Omega.{arith}
use Rattle.walk_visit.proofs.AnswerLaws.{copying_start, copying_more, copying_done}
use Rattle.walk_visit.proofs.answers.record_active.Goals as goal

pub returns-then-working-force : goal.returns-then-working-force
returns-then-working-force c = λ h g. absurd (omega (arith, h, c.if-working-force.true))

pub overflow_add-count : goal.overflow_add-count
overflow_add-count c = omega (arith, c.requires.1)

pub returns-then-narrowings-count : goal.returns-then-narrowings-count
returns-then-narrowings-count c = λ h g. absurd (omega (arith, g, c.if-narrowings-count.true))

pub loop-i-init : goal.loop-i-init
loop-i-init c = copying_start (omega (arith, c.if-working-force.false)) (omega (arith, c.if-narrowings-count.false))

pub overflow_add-at : goal.overflow_add-at
overflow_add-at c = omega (arith, c.loop-i-test.true, c.loop-i.invariant.fits, c.requires.1)

pub overflow_mul-at : goal.overflow_mul-at
overflow_mul-at c = omega (arith, c.loop-i-test.true, c.loop-i.invariant.fits, c.if-narrowings-count.false)

pub overflow_mul-name : goal.overflow_mul-name
overflow_mul-name c = omega (arith, c.requires.0)

pub put32-requires : goal.put32-requires
put32-requires c = omega (arith, c.loop-i-test.true, c.loop-i.invariant.fits, c.if-narrowings-count.false)

pub overflow_add-at-in-loop-i : goal.overflow_add-at-in-loop-i
overflow_add-at-in-loop-i c = omega (arith, c.loop-i-test.true, c.loop-i.invariant.fits, c.if-narrowings-count.false)

pub overflow_mul-i : goal.overflow_mul-i
overflow_mul-i c = omega (arith, c.loop-i-test.true, c.loop-i.invariant.room, c.if-working-force.false)

pub four-requires : goal.four-requires
four-requires c = omega (arith, c.loop-i-test.true, c.loop-i.invariant.room)

pub put32-requires-in-loop-i : goal.put32-requires-in-loop-i
put32-requires-in-loop-i c = omega (arith, c.loop-i-test.true, c.loop-i.invariant.fits, c.if-narrowings-count.false)

pub loop-i-preserved : goal.loop-i-preserved
loop-i-preserved c = copying_more c.loop-i.invariant c.loop-i-test.true c.put32.ensures c.four.ensures c.put32-in-loop-i.ensures (omega arith)

pub returns : goal.returns
returns c = copying_done c.loop-i.invariant c.loop-i-test.false
