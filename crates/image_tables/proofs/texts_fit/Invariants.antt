use Rattle.image_fields.specs.Image.{text_first_of, text_length_of}
use Rattle.image_tables.specs.Tables.{starts_there}
use Rattle.image_tables.proofs.RunLaws.{Standing}
use Rattle.image_tables.proofs.texts_fit.Given as goal

abbrev pub invariant-loop-x : goal.invariant-loop-x
invariant-loop-x l = Standing (starts_there (text_first_of l.image) (text_length_of l.image)) (text_length_of l.image) 4096 l.texts l.next l.x
