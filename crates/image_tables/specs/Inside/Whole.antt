-- Rules 6, 10 and 11 at once, over the whole image, as the one pass asks them.
use Rattle.std.specs.Prelude.{ℕ, Bool, List}
use Rattle.semantics.specs.Base.{all}
use Rattle.image_fields.specs.Image.{expr_count, decode}
use Rattle.image_rules.specs.Inside.Whole.{items_fit}

unfoldable pub all_items_fit : List ℕ → Bool
all_items_fit s = all (items_fit (decode s)) (expr_count s)
