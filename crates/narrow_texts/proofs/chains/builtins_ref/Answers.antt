use Rattle.std.specs.Prelude.{Some}
use Rattle.std.proofs.Common.{rules}
use mathlib.Core.Path.{ap, sym, ◌∙◌}
use borrow.Author.Tests.{not-true, not-false}
use Rattle.narrow_texts.proofs.NameLaws.{entry-inside}
use Rattle.narrow_texts.proofs.ChainLaws.{ref_other, says_beside, says_unresolved, says_builtin}
use mathlib.Core.Bool.{not}
use Rattle.narrow_texts.proofs.chains.builtins_ref.Goals as goal

pub returns-then-not-spelt_builtins : goal.returns-then-not-spelt_builtins
returns-then-not-spelt_builtins c = ref_other _ _ _ (sym c.spelt_builtins.ensures ∙ not-true _ (ap not c.if-not-spelt_builtins.true))

pub get-requires : goal.get-requires
get-requires c = entry-inside _ _ c.requires.1 _ c.requires.0

pub returns-in-Some-Builtin-eq2 : goal.returns-in-Some-Builtin-eq2
returns-in-Some-Builtin-eq2 c = says_builtin _ _ _ _ c.get.ensures c.spelt_builtins.ensures (not-false _ (ap not c.if-not-spelt_builtins.false))
    (c.in-Some-Builtin-eq2.is ∙ ap Some c.in-Some-Builtin-eq2.field-0-is) c.in-Some-Builtin-eq2.field-0-0-test

pub returns-in_default : goal.returns-in_default
returns-in_default c = says_beside _ _ _ _ c.get.ensures c.spelt_builtins.ensures (not-false _ (ap not c.if-not-spelt_builtins.false))
    _ c.in_default.is (λ h. search rules)

pub returns-in_default-2 : goal.returns-in_default-2
returns-in_default-2 c = says_beside _ _ _ _ c.get.ensures c.spelt_builtins.ensures (not-false _ (ap not c.if-not-spelt_builtins.false))
    _ c.in_default.is (λ w. search rules)

pub returns-in_default-3 : goal.returns-in_default-3
returns-in_default-3 c = says_unresolved _ _ _ _ c.get.ensures c.spelt_builtins.ensures (not-false _ (ap not c.if-not-spelt_builtins.false))
    c.in_default.is
