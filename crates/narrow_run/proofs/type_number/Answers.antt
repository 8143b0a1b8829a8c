use mathlib.Core.Path.{ap, sym}
use Rattle.narrow_texts.specs.Inside.Predicates.{type_number}
use Rattle.narrow_run.proofs.type_number.Goals as goal

pub returns-in-Null : goal.returns-in-Null
unfolding type_number
returns-in-Null c = sym (ap type_number c.in-Null.is)

pub returns-in-Bool : goal.returns-in-Bool
unfolding type_number
returns-in-Bool c = sym (ap type_number c.in-Bool.is)

pub returns-in-Int : goal.returns-in-Int
unfolding type_number
returns-in-Int c = sym (ap type_number c.in-Int.is)

pub returns-in-Float : goal.returns-in-Float
unfolding type_number
returns-in-Float c = sym (ap type_number c.in-Float.is)

pub returns-in-String : goal.returns-in-String
unfolding type_number
returns-in-String c = sym (ap type_number c.in-String.is)

pub returns-in-Path : goal.returns-in-Path
unfolding type_number
returns-in-Path c = sym (ap type_number c.in-Path.is)
