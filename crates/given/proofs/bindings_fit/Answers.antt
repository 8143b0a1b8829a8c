use mathlib.Core.Path.{refl, sym, ◌∙◌}
use native.Mathlib.Omega.{arith}
use borrow.Author.Rules.{rules}
use borrow.Author.Tests.{tests}
use Rattle.std.proofs.lemmas.Iterator.{YieldsList-from_range}
use Rattle.std.proofs.lemmas.Iterator.Search.{all_from_yields_List}
use Rattle.given.specs.Bindings.{entry_fits}
use Rattle.given.proofs.AllLaws.{all_listed}
use Rattle.given.proofs.BindingLaws.{other_length, entries_are, entry-is}
use Rattle.given.proofs.bindings_fit.Goals as goal

pub returns-then-table-names : goal.returns-then-table-names
returns-then-table-names c = other_length _ _ c.name_count-names.ensures c.if-table-names.true

pub returns : goal.returns
returns c =
    all_from_yields_List (entry_fits c.args.image.bytes.now c.args.table.now) _ _ _ c.all.ensures.ran
    (YieldsList-from_range 0 c.name_count-names.result c.name_count-names.result refl (omega arith)) (λ x b q k. (search (rules, tests), sym (entry-is _ _ _ (search (rules, tests)) c.expr_count-exprs.ensures)))
    ∙ all_listed _ _ ∙ entries_are _ _ c.name_count-names.ensures c.if-table-names.false
