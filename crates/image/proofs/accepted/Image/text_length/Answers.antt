use Rattle.image.proofs.accepted.Image.text_length.Goals as goal

pub returns : goal.returns
returns c = cc
