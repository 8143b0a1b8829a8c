use Rattle.image.proofs.accepted.Image.text_first.Goals as goal

pub returns : goal.returns
returns c = cc
