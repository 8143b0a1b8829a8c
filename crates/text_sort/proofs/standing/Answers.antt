use mathlib.Core.Path.{ap, ◌∙◌}
use native.Mathlib.Omega.{arith}
use Rattle.semantics.specs.Tree.{text_at}
use Rattle.image_fields.specs.Image.{decode}
use Rattle.text_sort.proofs.MergeLaws.{stands-compared}
use Rattle.text_sort.proofs.standing.Goals as goal

pub returns : goal.returns
returns c = stands-compared c.requires.first_ordered c.requires.second_ordered (omega arith) (omega arith)
    (c.text.ensures ∙ ap (text_at (decode c.args.image.bytes.now)) c.from-x.ensures)
    (c.text-2.ensures ∙ ap (text_at (decode c.args.image.bytes.now)) c.from-y.ensures) c.compare.ensures
