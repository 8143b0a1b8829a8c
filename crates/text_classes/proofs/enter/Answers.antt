use native.Mathlib.Omega.{arith}
use Rattle.text_classes.proofs.NameLaws.{name-text}
use Rattle.text_classes.proofs.EnterLaws.{enter-known, enter-texts, enter-small, enter-alike, enter_new}
use Rattle.text_classes.proofs.enter.Goals as goal

pub offset_bounds-class-x : goal.offset_bounds-class-x
offset_bounds-class-x c = omega (arith, name-text c.args.image.accepted c.requires.n_bound c.name_text-x.ensures, c.args.image.accepted.sized.texts-few)

pub bounds-class-x : goal.bounds-class-x
bounds-class-x c = omega (arith, name-text c.args.image.accepted c.requires.n_bound c.name_text-x.ensures, c.requires.entered.room.classes_fit)

pub returns-then-class-x-ne0 : goal.returns-then-class-x-ne0
returns-then-class-x-ne0 c = enter-known c.requires.entered c.args.image.accepted c.requires.n_bound c.name_text-x.ensures c.if-class-x-ne0.true

pub text-requires : goal.text-requires
text-requires c = name-text c.args.image.accepted c.requires.n_bound c.name_text-x.ensures

pub seek_from-requires-clause-x_bound : goal.seek_from-requires-clause-x_bound
seek_from-requires-clause-x_bound c = name-text c.args.image.accepted c.requires.n_bound c.name_text-x.ensures

pub seek_from-requires-clause-all : goal.seek_from-requires-clause-all
seek_from-requires-clause-all c = enter-texts c.requires.entered c.args.image.accepted c.requires.n_bound c.name_text-x.ensures c.text.ensures c.slot-slot.ensures
    c.from.ensures

pub overflow_add-class : goal.overflow_add-class
overflow_add-class c = omega (
  arith,
  enter-small c.requires.entered c.args.image.accepted c.requires.n_bound c.name_text-x.ensures c.text.ensures c.slot-slot.ensures
      c.from.ensures c.seek_from.ensures c.in-At.is,
  c.args.image.accepted.sized.texts-few,
)

pub overflow_cast-class : goal.overflow_cast-class
overflow_cast-class c = omega (
  arith,
  enter-small c.requires.entered c.args.image.accepted c.requires.n_bound c.name_text-x.ensures c.text.ensures c.slot-slot.ensures
      c.from.ensures c.seek_from.ensures c.in-At.is,
  c.args.image.accepted.sized.texts-few,
)

pub offset_bounds-class-x-in-At : goal.offset_bounds-class-x-in-At
offset_bounds-class-x-in-At c = omega (arith, name-text c.args.image.accepted c.requires.n_bound c.name_text-x.ensures, c.args.image.accepted.sized.texts-few)

pub bounds-class-x-in-At : goal.bounds-class-x-in-At
bounds-class-x-in-At c = omega (arith, name-text c.args.image.accepted c.requires.n_bound c.name_text-x.ensures, c.requires.entered.room.classes_fit)

pub returns-in-At : goal.returns-in-At
returns-in-At c = enter-alike c.requires.entered c.args.image.accepted c.requires.n_bound c.name_text-x.ensures c.text.ensures c.slot-slot.ensures
    c.from.ensures c.seek_from.ensures c.in-At.is

pub overflow_add-class-in-Absent : goal.overflow_add-class-in-Absent
overflow_add-class-in-Absent c = omega (arith, name-text c.args.image.accepted c.requires.n_bound c.name_text-x.ensures, c.args.image.accepted.sized.texts-few)

pub overflow_cast-class-in-Absent : goal.overflow_cast-class-in-Absent
overflow_cast-class-in-Absent c = omega (arith, name-text c.args.image.accepted c.requires.n_bound c.name_text-x.ensures, c.args.image.accepted.sized.texts-few)

pub offset_bounds-class-x-in-Absent : goal.offset_bounds-class-x-in-Absent
offset_bounds-class-x-in-Absent c = omega (arith, name-text c.args.image.accepted c.requires.n_bound c.name_text-x.ensures, c.args.image.accepted.sized.texts-few)

pub bounds-class-x-in-Absent : goal.bounds-class-x-in-Absent
bounds-class-x-in-Absent c = omega (arith, name-text c.args.image.accepted c.requires.n_bound c.name_text-x.ensures, c.requires.entered.room.classes_fit)

pub offset_bounds-next-x : goal.offset_bounds-next-x
offset_bounds-next-x c = omega (arith, name-text c.args.image.accepted c.requires.n_bound c.name_text-x.ensures, c.args.image.accepted.sized.texts-few)

pub bounds-next-x : goal.bounds-next-x
bounds-next-x c = omega (arith, name-text c.args.image.accepted c.requires.n_bound c.name_text-x.ensures, c.requires.entered.room.next_fits)

pub overflow_add-buckets : goal.overflow_add-buckets
overflow_add-buckets c = omega (arith, name-text c.args.image.accepted c.requires.n_bound c.name_text-x.ensures, c.args.image.accepted.sized.texts-few)

pub overflow_cast-buckets : goal.overflow_cast-buckets
overflow_cast-buckets c = omega (arith, name-text c.args.image.accepted c.requires.n_bound c.name_text-x.ensures, c.args.image.accepted.sized.texts-few)

pub returns-in-Absent : goal.returns-in-Absent
returns-in-Absent c = enter_new c.requires.entered c.args.image.accepted c.requires.n_bound c.name_text-x.ensures c.text.ensures c.slot-slot.ensures
    c.from.ensures c.seek_from.ensures c.in-Absent.is
