-- The three rules of an item at once, as the one pass over an image asks them (`items-parts` of PartLaws says that they are these).
use Rattle.std.specs.Prelude.{ℕ, Bool, ◌&&◌, map, leb, length}
use Rattle.semantics.specs.Codes.{roles}
use Rattle.semantics.specs.Base.{every}
use Rattle.semantics.specs.Tree.{Item, Tree, expr_at}
use Rattle.image_rules.specs.Rules.{fits, name_presence, expr_presence, inherits, order, follows}

-- 10, and that an expression is there where the role has one
unfoldable pub lower : ℕ → Item → Bool
lower owner i = fits (expr_presence i.role) owner i.expression

-- an item's role, its name, its expression and what it inherits
unfoldable pub item_fits : Tree → ℕ → Item → Bool
item_fits t owner i =
    leb i.role roles.Parameter && fits (name_presence i.role) (length t.names) i.name && lower owner i && inherits t i

-- the items of an expression: each passes a test, and their roles come in the order of its kind
unfoldable pub ordered : (Item → Bool) → Tree → ℕ → Bool
ordered p t e = every p (expr_at t e).items && follows (order (expr_at t e).kind) (map (λ i. i.role) (expr_at t e).items)

-- each fits, and their roles come in the order of its kind
unfoldable pub items_fit : Tree → ℕ → Bool
items_fit t e = every (item_fits t e) (expr_at t e).items && follows (order (expr_at t e).kind) (map (λ i. i.role) (expr_at t e).items)
