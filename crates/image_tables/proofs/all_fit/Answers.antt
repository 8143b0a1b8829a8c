use Prim.Native.Nat.{◌-◌, ◌+◌, ◌*◌, ◌%◌, ◌<◌}
use mathlib.Core.Path.{◌≡◌, refl, sym, ◌∙◌}
use native.Mathlib.Omega.{arith}
use borrow.Author.Tests.{not-true, not-false}
use Rattle.image_fields.specs.Image.{expr_count, item_total, item_place, first_of, count_of}
use Rattle.image_rules.proofs.BareLaws.{owner-known}
use Rattle.image_tables.specs.Tables.{total}
use Rattle.image_tables.proofs.PassLaws.{Read, reads, one_breaks, bare-is, owner_breaks, owner-passes, passed_start, bare-run, owner-run, starts-before, ends_past, passed-bare, passed-owner, passed-done, fits_at}
use mathlib.Core.Path.{ap}
use mathlib.Core.Bool.{not}
use Rattle.image_tables.proofs.all_fit.Goals as goal
use Rattle.image_tables.proofs.all_fit.Goals.{After-bare_fits, After-items_fit, After-part-text, Else-limit-stop, In-loop-e, Start}

limit_is : (c : Start) → c.args.items_at + 4 * c.args.items ≡ item_place c.args.image.now (item_total c.args.image.now)
limit_is c = omega (arith, c.requires.items_at_value, c.requires.texts_value.1)

inside : (c : In-loop-e) → c.loop-e.e < expr_count c.args.image.now
inside c = omega (arith, c.loop-e-test.true, c.requires.exprs_value.0)

-- what has been read of the expression
read : (c : After-part-text) → Read c.args.image.now c.loop-e.e (c.eight-expr.result % 1099511627776) c.part-form.result c.part-text.result
read c = reads _ (λ i. (c.type_inv.image i).fits) c.eight-expr.ensures refl c.part-form.ensures c.part-text.ensures

pub loop-e-init : goal.loop-e-init
loop-e-init c = passed_start c.requires.items_at_value

-- what has been read of the expression
read_after_bare_fits : (c : After-bare_fits) → Read c.args.image.now c.loop-e.e (c.eight-expr.result % 1099511627776) c.part-form.result c.part-text.result
read_after_bare_fits c = reads _ (λ i. (c.type_inv.image i).fits) c.eight-expr.ensures refl c.part-form.ensures c.part-text.ensures

inside_after_bare_fits : (c : After-bare_fits) → c.loop-e.e < expr_count c.args.image.now
inside_after_bare_fits c = omega (arith, c.loop-e-test.true, c.requires.exprs_value.0)

bare : (c : After-bare_fits) → fits_at c.args.image.now c.loop-e.e ≡ c.bare_fits.result
bare c = bare-is (read_after_bare_fits c) (inside_after_bare_fits c) (bare-run c.requires.sized c.loop-e.invariant (inside_after_bare_fits c) (read_after_bare_fits c) c.if-run-next.true).1 c.bare_fits.ensures c.requires.texts_value.0

pub returns-then-not-bare_fits : goal.returns-then-not-bare_fits
returns-then-not-bare_fits c = one_breaks _ _ (inside ((goal.at.returns-then-not-bare_fits c).In-loop-e)) (bare ((goal.at.returns-then-not-bare_fits c).After-bare_fits) ∙ not-true _ (ap not c.if-not-bare_fits.true))

pub loop-e-preserved-then-run-next : goal.loop-e-preserved-then-run-next
loop-e-preserved-then-run-next c = passed-bare c.requires.sized c.loop-e.invariant (inside ((goal.at.loop-e-preserved-then-run-next c).In-loop-e)) (read ((goal.at.loop-e-preserved-then-run-next c).After-part-text)) c.if-run-next.true (bare ((goal.at.loop-e-preserved-then-run-next c).After-bare_fits) ∙ not-false _ (ap not c.if-not-bare_fits.false))

pub returns-then-run-next-2 : goal.returns-then-run-next-2
returns-then-run-next-2 c = starts-before c.requires.sized c.loop-e.invariant (inside ((goal.at.returns-then-run-next-2 c).In-loop-e)) (read ((goal.at.returns-then-run-next-2 c).After-part-text)) c.if-run-next-2.true

pub returns-then-limit-stop : goal.returns-then-limit-stop
returns-then-limit-stop c = ends_past c.requires.sized c.loop-e.invariant (inside ((goal.at.returns-then-limit-stop c).In-loop-e)) (read ((goal.at.returns-then-limit-stop c).After-part-text)) (limit_is ((goal.at.returns-then-limit-stop c).Start)) c.if-limit-stop.true

inside_else_limit_stop : (c : Else-limit-stop) → c.loop-e.e < expr_count c.args.image.now
inside_else_limit_stop c = omega (arith, c.loop-e-test.true, c.requires.exprs_value.0)

-- what has been read of the expression
read_else_limit_stop : (c : Else-limit-stop) → Read c.args.image.now c.loop-e.e (c.eight-expr.result % 1099511627776) c.part-form.result c.part-text.result
read_else_limit_stop c = reads _ (λ i. (c.type_inv.image i).fits) c.eight-expr.ensures refl c.part-form.ensures c.part-text.ensures

limit_is_else_limit_stop : (c : Else-limit-stop) → c.args.items_at + 4 * c.args.items ≡ item_place c.args.image.now (item_total c.args.image.now)
limit_is_else_limit_stop c = omega (arith, c.requires.items_at_value, c.requires.texts_value.1)

-- the run starts where the last ended, and has items
run : (c : Else-limit-stop) → (first_of c.args.image.now c.loop-e.e ≡ total (count_of c.args.image.now) c.loop-e.e) × (count_of c.args.image.now c.loop-e.e ≡ c.eight-expr.result % 1099511627776 - c.loop-e.next)
run c = owner-run c.requires.sized c.loop-e.invariant (inside_else_limit_stop c) (read_else_limit_stop c) (limit_is_else_limit_stop c) c.if-run-next-2.false c.if-limit-stop.false

some : (c : Else-limit-stop) → 0 < count_of c.args.image.now c.loop-e.e
some c = omega (arith, (run c).1, c.if-run-next.false, c.if-run-next-2.false)

pub returns-then-not-owner_fits : goal.returns-then-not-owner_fits
returns-then-not-owner_fits c = one_breaks _ _ (inside ((goal.at.returns-then-not-owner_fits c).In-loop-e)) (owner_breaks (read ((goal.at.returns-then-not-owner_fits c).After-part-text)) (inside ((goal.at.returns-then-not-owner_fits c).In-loop-e)) (some ((goal.at.returns-then-not-owner_fits c).Else-limit-stop)) c.owner_fits.ensures (not-true _ (ap not c.if-not-owner_fits.true)))

pub items_fit-requires : goal.items_fit-requires
items_fit-requires c = let r = read ((goal.at.items_fit-requires c).After-part-text) in
    let q = run ((goal.at.items_fit-requires c).Else-limit-stop) in
    record { runs = record { sized = c.requires.sized; inside = inside ((goal.at.items_fit-requires c).In-loop-e); known = rw (← r.kind) (owner-known _ _ _ (sym c.owner_fits.ensures ∙ not-false _ (ap not c.if-not-owner_fits.false))); run = omega (arith, q.0, q.1, c.loop-e.invariant.there, limit_is ((goal.at.items_fit-requires c).Start), c.if-limit-stop.false) }; first_value = (omega (arith, c.loop-e.invariant.there, q.0), sym q.1); kind_value = (r.kind, c.requires.exprs_value.1) }

-- what has been read of the expression
read_after_items_fit : (c : After-items_fit) → Read c.args.image.now c.loop-e.e (c.eight-expr.result % 1099511627776) c.part-form.result c.part-text.result
read_after_items_fit c = reads _ (λ i. (c.type_inv.image i).fits) c.eight-expr.ensures refl c.part-form.ensures c.part-text.ensures

inside_after_items_fit : (c : After-items_fit) → c.loop-e.e < expr_count c.args.image.now
inside_after_items_fit c = omega (arith, c.loop-e-test.true, c.requires.exprs_value.0)

limit_is_after_items_fit : (c : After-items_fit) → c.args.items_at + 4 * c.args.items ≡ item_place c.args.image.now (item_total c.args.image.now)
limit_is_after_items_fit c = omega (arith, c.requires.items_at_value, c.requires.texts_value.1)

-- the run starts where the last ended, and has items
run_after_items_fit : (c : After-items_fit) → (first_of c.args.image.now c.loop-e.e ≡ total (count_of c.args.image.now) c.loop-e.e) × (count_of c.args.image.now c.loop-e.e ≡ c.eight-expr.result % 1099511627776 - c.loop-e.next)
run_after_items_fit c = owner-run c.requires.sized c.loop-e.invariant (inside_after_items_fit c) (read_after_items_fit c) (limit_is_after_items_fit c) c.if-run-next-2.false c.if-limit-stop.false

some_after_items_fit : (c : After-items_fit) → 0 < count_of c.args.image.now c.loop-e.e
some_after_items_fit c = omega (arith, (run_after_items_fit c).1, c.if-run-next.false, c.if-run-next-2.false)

both : (c : After-items_fit) → fits_at c.args.image.now c.loop-e.e ≡ c.items_fit.result
both c = owner-passes (read_after_items_fit c) (inside_after_items_fit c) (some_after_items_fit c) c.owner_fits.ensures (not-false _ (ap not c.if-not-owner_fits.false)) c.items_fit.ensures

pub returns-then-not-items_fit : goal.returns-then-not-items_fit
returns-then-not-items_fit c = one_breaks _ _ (inside ((goal.at.returns-then-not-items_fit c).In-loop-e)) (both ((goal.at.returns-then-not-items_fit c).After-items_fit) ∙ not-true _ (ap not c.if-not-items_fit.true))

pub loop-e-preserved : goal.loop-e-preserved
loop-e-preserved c = passed-owner c.requires.sized c.loop-e.invariant (inside ((goal.at.loop-e-preserved c).In-loop-e)) (read ((goal.at.loop-e-preserved c).After-part-text)) (limit_is ((goal.at.loop-e-preserved c).Start)) c.if-run-next-2.false c.if-limit-stop.false (both ((goal.at.loop-e-preserved c).After-items_fit) ∙ not-false _ (ap not c.if-not-items_fit.false))

pub returns : goal.returns
returns c = passed-done c.loop-e.invariant (omega (arith, c.loop-e-test.false, c.requires.exprs_value.0)) (limit_is ((goal.at.returns c).Start))
