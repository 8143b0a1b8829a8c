-- What the repeated analysis asks.
use Rattle.std.specs.Prelude.{◌<◌, ◌≡◌, true}
use Rattle.image_fields.specs.Image.{expr_count}
use Rattle.lent.specs.Calls.{first_broken}
use Rattle.image.specs.Inside.Accepted.{Accepted}
use Rattle.given.specs.Bindings.{bindings_fit}
use Rattle.given.specs.Resolutions.{resolutions_fit}
use Rattle.narrow.specs.Outcome.{Question, Lent, written, run_rules}

-- the image, the condition and the tables passed the checks, the run is answered, and both lists hold its records
pub record Standing (q : Question) (l : Lent) : Type 0 where
  pub accepted : Accepted q.image
  pub inside : q.condition < expr_count q.image
  pub resolved : resolutions_fit q.image q.resolutions ≡ true
  pub bound : bindings_fit q.image q.bindings ≡ true
  pub answered : first_broken (run_rules q l) ≡ 0
  pub stands : written q l ≡ l
