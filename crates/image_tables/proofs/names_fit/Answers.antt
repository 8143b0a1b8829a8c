use native.Mathlib.Omega.{arith}
use Rattle.std.proofs.Common.{rules, tests, ◌∙◌, refl}
use Rattle.std.proofs.lemmas.Iterator.{YieldsList-from_range}
use Rattle.std.proofs.lemmas.Iterator.Search.{all_from_yields_List}
use Rattle.image_tables.specs.Tables.{name_fits}
use Rattle.image_tables.proofs.RunLaws.{all-range, name-is, names_are}
use Rattle.image_tables.proofs.names_fit.Goals as goal

pub returns : goal.returns
returns c =
    all_from_yields_List (name_fits c.args.image.now) _ _ _ c.all.ensures.ran (YieldsList-from_range 0 _ c.args.names refl (omega arith))
    (λ x b q k. search (rules, tests, name-is, c.requires.names_at_value, c.requires.names_value)) ∙ all-range _ _ ∙ names_are _ c.requires.names_value.0
