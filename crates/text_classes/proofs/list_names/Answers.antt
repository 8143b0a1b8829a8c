use native.Mathlib.Omega.{arith}
use Rattle.text_classes.proofs.NameLaws.{name-text}
use Rattle.text_classes.proofs.SortLaws.{listing_class, listing_known, listing_fits, listing_new, listing_done}
use Rattle.text_classes.proofs.list_names.Goals as goal

pub offset_bounds-class-x : goal.offset_bounds-class-x
offset_bounds-class-x c = omega (arith, name-text c.args.image.accepted (omega arith) c.name_text-x.ensures, c.args.image.accepted.sized.texts-few)

pub bounds-class-x : goal.bounds-class-x
bounds-class-x c = listing_class c.loop-n.invariant c.args.image.accepted (omega arith) c.name_text-x.ensures c.requires.image_in_bounds

pub loop-n-preserved-then-class-x-ne0 : goal.loop-n-preserved-then-class-x-ne0
loop-n-preserved-then-class-x-ne0 c = listing_known c.loop-n.invariant c.args.image.accepted (omega arith) c.name_text-x.ensures c.requires.image_in_bounds c.if-class-x-ne0.true

pub offset_bounds-class-x-in-loop-n : goal.offset_bounds-class-x-in-loop-n
offset_bounds-class-x-in-loop-n c = omega (arith, name-text c.args.image.accepted (omega arith) c.name_text-x.ensures, c.args.image.accepted.sized.texts-few)

pub bounds-class-x-in-loop-n : goal.bounds-class-x-in-loop-n
bounds-class-x-in-loop-n c = listing_class c.loop-n.invariant c.args.image.accepted (omega arith) c.name_text-x.ensures c.requires.image_in_bounds

pub overflow_cast-order : goal.overflow_cast-order
overflow_cast-order c = omega (arith, name-text c.args.image.accepted (omega arith) c.name_text-x.ensures, c.args.image.accepted.sized.texts-few)

pub bounds-order-count : goal.bounds-order-count
bounds-order-count c = listing_fits c.loop-n.invariant c.args.image.accepted (omega arith) c.name_text-x.ensures c.requires.image_in_bounds c.if-class-x-ne0.false
    c.requires.image_in_bounds_2

pub loop-n-preserved : goal.loop-n-preserved
loop-n-preserved c = listing_new c.loop-n.invariant c.args.image.accepted (omega arith) c.name_text-x.ensures c.requires.image_in_bounds c.if-class-x-ne0.false
    c.requires.image_in_bounds_2 (omega arith)

pub returns : goal.returns
returns c = listing_done c.loop-n.invariant (omega arith)
