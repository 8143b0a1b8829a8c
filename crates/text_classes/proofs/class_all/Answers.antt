use native.Mathlib.Omega.{arith}
use Rattle.text_classes.proofs.NameLaws.{class_inside}
use Rattle.text_classes.proofs.SortLaws.{classing_start}
use Rattle.text_classes.proofs.class_all.Goals as goal

pub loop-x-init : goal.loop-x-init
loop-x-init c = classing_start c.requires.told

pub overflow_add-class : goal.overflow_add-class
overflow_add-class c = omega
    (arith, c.sorted_class.ensures, class_inside c.args.image.accepted {x = c.loop-x.x} (omega arith), c.args.image.accepted.sized.texts-few)

pub overflow_cast-class : goal.overflow_cast-class
overflow_cast-class c = omega
    (arith, c.sorted_class.ensures, class_inside c.args.image.accepted {x = c.loop-x.x} (omega arith), c.args.image.accepted.sized.texts-few)
