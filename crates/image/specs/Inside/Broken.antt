-- What `broken` asks of `check`: the image keeps rules 1 to 4, and the one pass over the others refuses it.
use Rattle.std.specs.Prelude.{ℕ, ◌≡◌, true, false, ◌&&◌, List}
use Rattle.image_fields.specs.Inside.Asked.{Sized}
use Rattle.image_tables.specs.Tables.{texts_fit, names_fit, exprs_fit}
use Rattle.image_tables.specs.Inside.Whole.{all_items_fit}
use Rattle.image.specs.Refusals.{length_fits, entry_fits}

pub record Broken (s : List ℕ) : Type 0 where
  pub sized : Sized s
  pub length-fits : length_fits s ≡ true
  pub entry-fits : entry_fits s ≡ true
  pub texts_fit_lem : texts_fit s ≡ true
  pub names_fit_lem : names_fit s ≡ true
  pub refused : (exprs_fit s && all_items_fit s) ≡ false
