use mathlib.Core.Path.{refl}
use Rattle.image_rules.proofs.OrderLaws.{computed, row_of}
use Rattle.image_rules.proofs.order.row.Goals as goal

pub returns-in-0 : goal.returns-in-0
unfolding computed
returns-in-0 c = row_of _ c.in-0.is refl

pub returns-in-1 : goal.returns-in-1
unfolding computed
returns-in-1 c = row_of _ c.in-1.is refl

pub returns-in-2 : goal.returns-in-2
unfolding computed
returns-in-2 c = row_of _ c.in-2.is refl

pub returns-in-3 : goal.returns-in-3
unfolding computed
returns-in-3 c = row_of _ c.in-3.is refl

pub returns-in-4 : goal.returns-in-4
unfolding computed
returns-in-4 c = row_of _ c.in-4.is refl

pub returns-in-5 : goal.returns-in-5
unfolding computed
returns-in-5 c = row_of _ c.in-5.is refl

pub returns-in-6 : goal.returns-in-6
unfolding computed
returns-in-6 c = row_of _ c.in-6.is refl

pub returns-in-7 : goal.returns-in-7
unfolding computed
returns-in-7 c = row_of _ c.in-7.is refl

pub returns-in-8 : goal.returns-in-8
unfolding computed
returns-in-8 c = row_of _ c.in-8.is refl

pub returns-in-9 : goal.returns-in-9
unfolding computed
returns-in-9 c = row_of _ c.in-9.is refl

pub returns-in-10 : goal.returns-in-10
unfolding computed
returns-in-10 c = row_of _ c.in-10.is refl

pub returns-in-11 : goal.returns-in-11
unfolding computed
returns-in-11 c = row_of _ c.in-11.is refl

pub returns-in-12 : goal.returns-in-12
unfolding computed
returns-in-12 c = row_of _ c.in-12.is refl

pub returns-in-13 : goal.returns-in-13
unfolding computed
returns-in-13 c = row_of _ c.in-13.is refl

pub returns-in-14 : goal.returns-in-14
unfolding computed
returns-in-14 c = row_of _ c.in-14.is refl

pub returns-in-15 : goal.returns-in-15
unfolding computed
returns-in-15 c = row_of _ c.in-15.is refl

pub returns-in-16 : goal.returns-in-16
unfolding computed
returns-in-16 c = row_of _ c.in-16.is refl

pub returns-in-17 : goal.returns-in-17
unfolding computed
returns-in-17 c = row_of _ c.in-17.is refl

pub returns-in-18 : goal.returns-in-18
unfolding computed
returns-in-18 c = row_of _ c.in-18.is refl

pub returns-in-19 : goal.returns-in-19
unfolding computed
returns-in-19 c = row_of _ c.in-19.is refl
