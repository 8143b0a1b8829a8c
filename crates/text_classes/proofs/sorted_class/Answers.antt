use mathlib.Core.Path.{◌∙◌}
use Rattle.text_classes.proofs.SortLaws.{sorted-class}
use Rattle.text_classes.proofs.sorted_class.Goals as goal

pub returns : goal.returns
returns c = c.unwrap_or.ensures ∙ sorted-class c.requires.sorted c.look.ensures
