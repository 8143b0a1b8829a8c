use mathlib.Core.Path.{◌∙◌, ap}
use Rattle.lent.specs.Inside.Stores.{stored}
use Rattle.lent.proofs.BufferLaws.{four_stored}
use Rattle.lent.proofs.put32.Goals as goal

pub returns : goal.returns
returns c = c.put.ensures ∙ ap (stored c.args.buffer.now c.args.at) c.to_be_bytes.ensures ∙ four_stored _ _ _
