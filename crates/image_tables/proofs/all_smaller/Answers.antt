use native.Mathlib.Omega.{arith}
use Rattle.std.proofs.Common.{rules, tests, ◌∙◌, refl}
use Rattle.std.proofs.lemmas.Iterator.{YieldsList-from_range, serves_from_Range}
use Rattle.std.proofs.lemmas.Iterator.Search.{all_from_yields_List}
use Rattle.image_fields.specs.Image.{decode}
use Rattle.image_rules.specs.Rules.{items_smaller}
use Rattle.image_tables.proofs.RunLaws.{all-range}
use Rattle.image_tables.proofs.PartLaws.{runs, smaller-all}
use Rattle.image_tables.proofs.all_smaller.Goals as goal

pub all-requires-clause-callable : goal.all-requires-clause-callable
all-requires-clause-callable c = serves_from_Range (λ x q k. search (rules, tests)) (λ x l h. search (rules, runs c.requires.sized.0 c.requires.sized.1 x (omega (arith, h, c.requires.items_at_value.1))))

pub returns : goal.returns
returns c =
    all_from_yields_List (items_smaller (decode c.args.image.now)) _ _ _ c.all.ensures.ran (YieldsList-from_range 0 _ c.args.exprs refl (omega arith))
    (λ x b q k. search (rules, tests)) ∙ all-range _ _ ∙ smaller-all _ c.requires.items_at_value.1
