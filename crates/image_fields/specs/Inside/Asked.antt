-- What the functions that read a field of an image ask of their callers.
use Rattle.std.specs.Prelude.{ℕ, ◌+◌, ◌*◌, ◌≤◌, ◌<◌, ◌^◌, ◌≡◌, List, length}
use Rattle.semantics.specs.Codes.{kinds}
use Rattle.image_fields.specs.Image.{expr_count, name_count, text_count, item_total, byte_total, length_of, kind_of, first_of, count_of}

-- the field lies in the image, and is one of at most 20 bits, the widest that an image has
pub record InField (s : List ℕ) (at offset width : ℕ) : Type 0 where
  pub inside : 8 * at + offset + width ≤ 8 * length s
  pub narrow : width ≤ 20

-- the image has the length that its header says; the bounds on the counts hold of every image (`sized` of ImageLaws)
pub record Sized (s : List ℕ) : Type 0 where
  pub size : length s ≡ length_of s
  pub exprs-few : expr_count s < 2 ^ 14
  pub names-few : name_count s < 2 ^ 14
  pub texts-few : text_count s < 2 ^ 14
  pub items-few : item_total s < 2 ^ 20
  pub bytes-few : byte_total s < 2 ^ 20

-- an expression of a known kind whose run of items lies in the table
pub record Runs (s : List ℕ) (e : ℕ) : Type 0 where
  pub sized : Sized s
  pub inside : e < expr_count s
  pub known : kind_of s e ≤ kinds.PathInterpolation
  pub run : first_of s e + count_of s e ≤ item_total s
