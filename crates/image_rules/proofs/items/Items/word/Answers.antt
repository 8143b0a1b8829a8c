use mathlib.Core.Path.{sym}
use native.Mathlib.Omega.{arith}
use Rattle.image_fields.proofs.FieldLaws.{Bytes, word_lt}
use Rattle.semantics.specs.Tree.{item_at}
use Rattle.image_rules.proofs.ItemLaws.{item_here_lem}
use Rattle.image_rules.proofs.items.Items.word.Goals as goal

pub returns : goal.returns
unfolding item_at
returns c =
    let b : Bytes c.args.self.image.now = c.args.self.bytes in
    (sym (item_here_lem b c.args.self.runs (omega (arith, c.args.self.counted, c.requires)) c.four.ensures (omega (arith, c.args.self.placed))), rw c.four.ensures (word_lt _ b _ 4))
