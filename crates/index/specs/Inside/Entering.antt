-- What the private functions of the code promise each other.
use Rattle.std.specs.Prelude.{ℕ, ◌*◌, cond, List, [], ◌∷◌}
use Rattle.semantics.specs.Codes.{widths}
use Rattle.semantics.specs.Tree.{Item}
use Rattle.semantics.specs.Index.{enters}
use Rattle.lent.specs.Inside.Stores.{store16}

-- an item entered into the table, and items one after the other
unfoldable pub entered : List ℕ → Item → List ℕ
entered l i = cond (enters i) (store16 l (widths.entry * i.name) i.expression) l

unfoldable pub entering : List Item → List ℕ → List ℕ
entering [] l = l
entering (i ∷ is) l = entering is (entered l i)
