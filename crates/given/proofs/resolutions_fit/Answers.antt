use mathlib.Core.Path.{refl, ◌∙◌}
use native.Mathlib.Omega.{arith}
use borrow.Author.Rules.{rules}
use borrow.Author.Tests.{tests}
use Rattle.std.proofs.lemmas.Iterator.{YieldsList-from_range}
use Rattle.std.proofs.lemmas.Iterator.Search.{all_from_yields_List}
use Rattle.image_fields.specs.Image.{decode}
use Rattle.given.specs.Resolutions.{entry_fits}
use Rattle.given.proofs.AllLaws.{all_listed}
use Rattle.given.proofs.ResolutionLaws.{other_length, entries_are}
use Rattle.given.proofs.resolutions_fit.Goals as goal

pub returns-then-table-exprs : goal.returns-then-table-exprs
returns-then-table-exprs c = other_length _ _ c.expr_count-exprs.ensures c.if-table-exprs.true

pub returns : goal.returns
returns c =
    all_from_yields_List (entry_fits (decode c.args.image.bytes.now) c.args.table.now) _ _ _ c.all.ensures.ran
    (YieldsList-from_range 0 c.expr_count-exprs.result c.expr_count-exprs.result refl (omega arith)) (λ x b q k. search (rules, tests))
    ∙ all_listed _ _ ∙ entries_are _ _ c.expr_count-exprs.ensures c.if-table-exprs.false
