use mathlib.Core.Path.{ap}
use Rattle.texts.proofs.same.Goals as goal

pub returns : goal.returns
returns c = ap (λ r. r.same) c.same_text-compared.ensures
