-- What may be missing, as the code hands it on.
use Rattle.std.specs.Prelude.{ℕ, ◌≡◌, cond, List, Option, Some, None}
use Rattle.semantics.specs.Base.{◌>>=◌}
use Rattle.semantics.specs.Tree.{Text, Tree, is_none, text_at}
use Rattle.codes.specs.Inside.Below.{Below}
use Rattle.image_fields.specs.Image.{text_count, decode}

-- "16383 in a 14-bit field outside the header means none": the binding around an expression goes down the walk as that number
unfoldable pub numbered : ℕ → Option ℕ
numbered x = cond (is_none x) None (Some x)

-- the text that was found by its number
unfoldable pub spelling : Tree → Option ℕ → Option Text
spelling t r = r >>= λ x. Some (text_at t x)

-- what the definition finds was found, and is below a bound if anything was
pub record Finds (bound : ℕ) (o : Option ℕ) (r : Option ℕ) : Type 0 where
  pub this : o ≡ r
  pub inside : Below bound r

-- the same of a text of the image: which of several texts with the same bytes stands for it is left open
pub record Spelt (s : List ℕ) (o : Option Text) (r : Option ℕ) : Type 0 where
  pub this : o ≡ spelling (decode s) r
  pub inside : Below (text_count s) r
