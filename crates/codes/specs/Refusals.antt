-- The refusals of document 01 ("Turned back, in checking order") and, 10 and 11, of document 02, order 6.
use Rattle.std.specs.Prelude.{ℕ, cond, eqb}
use Rattle.codes.specs.declared.refusals.Refusal.{Refusal}
use Rattle.codes.specs.declared.refusals.Refusal.TheVariants.{Length, Entry, Text, Name, Expr, Item, Given, OverBudget, BufferTooShort, NotSmaller, InheritsOther}

-- "Each refusal is returned as its number"
abbrev pub number_of : Refusal → ℕ
number_of Length = 1
number_of Entry = 2
number_of Text = 3
number_of Name = 4
number_of Expr = 5
number_of Item = 6
number_of Given = 7
number_of OverBudget = 8
number_of BufferTooShort = 9
number_of NotSmaller = 10
number_of InheritsOther = 11

-- the refusal with this number, of 1 to 11
unfoldable pub refusal_numbered : ℕ → Refusal
refusal_numbered n =
    cond (eqb n 1) Length
    (cond (eqb n 2) Entry
    (cond (eqb n 3) Text
    (cond (eqb n 4) Name
    (cond (eqb n 5) Expr
    (cond (eqb n 6) Item
    (cond (eqb n 7) Given
    (cond (eqb n 8) OverBudget
    (cond (eqb n 9) BufferTooShort
    (cond (eqb n 10) NotSmaller InheritsOther)))))))))
