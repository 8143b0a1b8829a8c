use native.Mathlib.Omega.{arith}
use Rattle.std.proofs.Common.{rules, tests, ◌∙◌, refl}
use Rattle.std.proofs.lemmas.Iterator.{YieldsList-from_range}
use Rattle.std.proofs.lemmas.Iterator.Search.{all_from_yields_List}
use Rattle.semantics.specs.Tree.{item_at}
use Rattle.image_fields.specs.Image.{decode}
use Rattle.image_rules.specs.Rules.{smaller}
use Rattle.image_rules.proofs.ItemLaws.{items-number}
use Rattle.image_rules.proofs.ChildLaws.{every-item}
use Rattle.image_rules.proofs.StandLaws.{smaller-is, all-smaller}
use Rattle.image_rules.proofs.parts.items_smaller.Goals as goal

pub returns : goal.returns
returns c =
    all_from_yields_List (λ k. smaller c.args.e (item_at (decode c.args.image.now) c.args.e k)) _ _ _ c.all.ensures.ran
    (YieldsList-from_range 0 _ c.of-items.result.count refl (omega arith)) (λ x b q k. search (rules, tests, smaller-is, c.of-items.ensures)) ∙
    every-item _ _ _ _ (rw (← c.of-items.ensures.0, ← c.of-items.ensures.1) (items-number c.of-items.result)) ∙ all-smaller _ _
