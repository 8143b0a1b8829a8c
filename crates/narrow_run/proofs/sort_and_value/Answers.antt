use mathlib.Core.Path.{ap, sym, ◌∙◌}
use Prim.Native.Nat.{◌+◌, ◌*◌}
use native.Mathlib.Omega.{arith}
use Rattle.narrow_texts.specs.Inside.Predicates.{sort_and_value}
use Rattle.narrow_run.specs.Inside.Run.{as_number}
use Rattle.narrow_run.proofs.RunLaws.{type_small, field-few, not-field-few}
use Rattle.narrow_run.proofs.sort_and_value.Goals as goal

pub overflow_add-result-in-IsNotType : goal.overflow_add-result-in-IsNotType
overflow_add-result-in-IsNotType c = omega (arith, type_small _ c.type_number-in-IsNotType.ensures)

pub overflow_add-result-in-HasField : goal.overflow_add-result-in-HasField
overflow_add-result-in-HasField c = omega (arith, field-few c.requires c.in-HasField.is)

pub overflow_add-result-in-NotHasField : goal.overflow_add-result-in-NotHasField
overflow_add-result-in-NotHasField c = omega (arith, not-field-few c.requires c.in-NotHasField.is)

pub returns-in-IsType : goal.returns-in-IsType
unfolding sort_and_value
returns-in-IsType c = ap (λ n. 0 * 16384 + n) c.type_number.ensures ∙ sym (ap (λ p. as_number (sort_and_value p)) c.in-IsType.is)

pub returns-in-IsNotType : goal.returns-in-IsNotType
unfolding sort_and_value
returns-in-IsNotType c = ap (λ n. 1 * 16384 + n) c.type_number-in-IsNotType.ensures ∙ sym (ap (λ p. as_number (sort_and_value p)) c.in-IsNotType.is)

pub returns-in-HasField : goal.returns-in-HasField
unfolding sort_and_value
returns-in-HasField c = sym (ap (λ p. as_number (sort_and_value p)) c.in-HasField.is)

pub returns-in-NotHasField : goal.returns-in-NotHasField
unfolding sort_and_value
returns-in-NotHasField c = sym (ap (λ p. as_number (sort_and_value p)) c.in-NotHasField.is)

pub returns-in-IsAttrSet : goal.returns-in-IsAttrSet
unfolding sort_and_value
returns-in-IsAttrSet c = sym (ap (λ p. as_number (sort_and_value p)) c.in-IsAttrSet.is)

pub returns-in-IsList : goal.returns-in-IsList
unfolding sort_and_value
returns-in-IsList c = sym (ap (λ p. as_number (sort_and_value p)) c.in-IsList.is)

pub returns-in-IsFunction : goal.returns-in-IsFunction
unfolding sort_and_value
returns-in-IsFunction c = sym (ap (λ p. as_number (sort_and_value p)) c.in-IsFunction.is)

pub returns-in-IsNumber : goal.returns-in-IsNumber
unfolding sort_and_value
returns-in-IsNumber c = sym (ap (λ p. as_number (sort_and_value p)) c.in-IsNumber.is)
