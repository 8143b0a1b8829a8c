use Rattle.image_fields.specs.Image.{count_of}
use Rattle.image_tables.specs.Tables.{expr_stands}
use Rattle.image_tables.proofs.RunLaws.{Standing}
use Rattle.image_tables.proofs.exprs_fit.Given as goal

abbrev pub invariant-loop-e : goal.invariant-loop-e
invariant-loop-e l = Standing (expr_stands l.image) (count_of l.image) 1048576 l.exprs l.next l.e
