-- What the functions that read an accepted image ask of their callers: what acceptance gives.
use Rattle.std.specs.Prelude.{ℕ, ◌+◌, ◌≤◌, ◌<◌, ◌≡◌, List, true}
use Rattle.semantics.specs.Codes.{name_kinds}
use Rattle.image_fields.specs.Image.{expr_count, name_count, text_count, item_total, byte_total, entry_of, kind_of, detail_of, expr_text_of, first_of, count_of, name_text_of, name_kind_of, text_first_of, text_length_of, decode}
use Rattle.image_fields.specs.Inside.Asked.{Sized}
use Rattle.image_rules.specs.Rules.{expr_fits}
use Rattle.image_rules.specs.Inside.Whole.{items_fit}
use Rattle.image_tables.specs.Tables.{total}

-- what an image with no refusal has (`accepted` of AcceptedLaws): later proofs use this and do not open the check again
pub record Accepted (s : List ℕ) : Type 0 where
  pub sized : Sized s
  pub entry : entry_of s < expr_count s
  pub texts : (x : ℕ) → x < text_count s → text_first_of s x + text_length_of s x ≤ byte_total s
  pub names : (n : ℕ) → n < name_count s → (name_kind_of s n ≤ name_kinds.PatField) × (name_text_of s n < text_count s)
  pub exprs : (e : ℕ) → e < expr_count s → expr_fits (text_count s) (kind_of s e) (detail_of s e) (expr_text_of s e) ≡ true
  pub runs : (e : ℕ) → e < expr_count s → first_of s e + count_of s e ≤ item_total s
  pub starts : (e : ℕ) → e < expr_count s → first_of s e ≡ total (count_of s) e
  pub whole : total (count_of s) (expr_count s) ≡ item_total s
  pub items : (e : ℕ) → e < expr_count s → items_fit (decode s) e ≡ true
