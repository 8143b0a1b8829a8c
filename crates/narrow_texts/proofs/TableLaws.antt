-- A text looked up in a constant table of the code: a row has a name, and what the name is paired with.
use Rattle.std.specs.Prelude.{Some, None, find, option_map}
use mathlib.Core.Path.{◌≡◌, refl}
use mathlib.Core.Bool.{Bool, true, false, cond}
use mathlib.Core.List.{List, [], ◌∷◌, map}
use Rattle.semantics.specs.Tree.{Text, same}
use Rattle.narrow_texts.specs.declared.words.Row.{Row}
use Rattle.narrow_texts.specs.Inside.Rows.{answer_in, paired_in}

-- what the first row of a name is paired with
pub found_paired : {A : Type 0} (x : Text) (rows : List (Row A))
    → answer_in x rows ≡ paired_in None x (map (λ row. (row.name.now, Some row.answer)) rows)
unfolding answer_in paired_in
found_paired x [] = refl
found_paired {A} x (w ∷ ws) = go (same x w.name.now) (found_paired x ws)
  where
    go : (b : Bool) → answer_in x ws ≡ paired_in None x (map (λ row. (row.name.now, Some row.answer)) ws)
        → option_map {T = Row A} (λ row. row.answer) (cond b (Some w) (find (λ row. same x row.name.now) ws))
        ≡ cond b (Some w.answer) (paired_in None x (map (λ row. (row.name.now, Some row.answer)) ws))
    go true h = refl
    go false h = h
