-- The class of a text: the text of the first name that has the same bytes, else itself. Equal classes stand for equal bytes.
use Rattle.std.specs.Prelude.{List, map, ℕ, Option}
use Rattle.semantics.specs.Base.{first}
use Rattle.semantics.specs.Tree.{Tree, text_at, same}
use Rattle.image_fields.specs.Inside.Numbers.{number_or}

-- the first of some texts that has the bytes of text x
unfoldable pub alike : Tree → ℕ → List ℕ → Option ℕ
alike t x l = first (λ z. same (text_at t x) (text_at t z)) l

-- the texts of the names, in the order of the names
abbrev pub name_texts : Tree → List ℕ
name_texts t = map (λ n. n.text) t.names

unfoldable pub class_of : Tree → ℕ → ℕ
class_of t x = number_or x (alike t x (name_texts t))
