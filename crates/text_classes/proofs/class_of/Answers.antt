use mathlib.Core.Path.{sym, ◌∙◌}
use native.Mathlib.Omega.{arith}
use Rattle.text_classes.proofs.EnterLaws.{known-told, class_alone_nameless, class_texts, class_small, class_found, class_alone}
use Rattle.text_classes.proofs.class_of.Goals as goal

pub returns-then-known-ne0 : goal.returns-then-known-ne0
returns-then-known-ne0 c = known-told c.requires.known c.args.image.accepted c.requires.x_bound (λ z. c.if-known-ne0.true (omega (arith, c.from-known.ensures, z)))
    c.from-known.ensures

pub returns-then-name_count-eq0 : goal.returns-then-name_count-eq0
returns-then-name_count-eq0 c = class_alone_nameless c.requires.known c.requires.x_bound (sym c.name_count.ensures ∙ c.if-name_count-eq0.true)

pub seek-requires-clause-all : goal.seek-requires-clause-all
seek-requires-clause-all c = class_texts c.requires.known c.args.image.accepted c.requires.x_bound (omega (arith, c.from-known.ensures, c.if-known-ne0.false))
    c.text.ensures c.slot-slot.ensures c.from.ensures

pub overflow_add-class : goal.overflow_add-class
overflow_add-class c = omega (
  arith,
  class_small c.requires.known c.args.image.accepted c.requires.x_bound (omega (arith, c.from-known.ensures, c.if-known-ne0.false))
      c.text.ensures c.slot-slot.ensures c.from.ensures c.seek.ensures c.in-At.is,
  c.args.image.accepted.sized.texts-few,
)

pub overflow_cast-class : goal.overflow_cast-class
overflow_cast-class c = omega (
  arith,
  class_small c.requires.known c.args.image.accepted c.requires.x_bound (omega (arith, c.from-known.ensures, c.if-known-ne0.false))
      c.text.ensures c.slot-slot.ensures c.from.ensures c.seek.ensures c.in-At.is,
  c.args.image.accepted.sized.texts-few,
)

pub returns-in-At : goal.returns-in-At
returns-in-At c = class_found c.requires.known c.args.image.accepted c.requires.x_bound (omega (arith, c.from-known.ensures, c.if-known-ne0.false))
    c.text.ensures c.slot-slot.ensures c.from.ensures c.seek.ensures c.in-At.is

pub returns-in-Absent : goal.returns-in-Absent
returns-in-Absent c = class_alone c.requires.known c.args.image.accepted c.requires.x_bound (omega (arith, c.from-known.ensures, c.if-known-ne0.false))
    c.text.ensures c.slot-slot.ensures c.from.ensures c.seek.ensures c.in-Absent.is
