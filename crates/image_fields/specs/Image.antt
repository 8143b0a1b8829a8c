-- The tree image (document 01, "The tree image"): where each field stands, and the tree that an image writes.
use Rattle.std.specs.Prelude.{ℕ, zero, suc, ◌+◌, ◌*◌, List, [], ◌∷◌, take, drop}
use Rattle.semantics.specs.Codes.{widths}
use Rattle.semantics.specs.Tree.{Text, Item, Expr, Name, Tree}
use Rattle.image_fields.specs.Bits.{field_of}

-- the field of `width` bits that starts `offset` bits into the record at byte `at`
abbrev pub field_in : List ℕ → ℕ → ℕ → ℕ → ℕ
field_in s at offset width = field_of s (8 * at + offset) width

-- "Header, 96: expressions E 14, names N 14, texts T 14, items I 20, text bytes B 20, entry 14."
abbrev pub expr_count : List ℕ → ℕ
expr_count s = field_in s 0 0 14

abbrev pub name_count : List ℕ → ℕ
name_count s = field_in s 0 14 14

abbrev pub text_count : List ℕ → ℕ
text_count s = field_in s 0 28 14

abbrev pub item_total : List ℕ → ℕ
item_total s = field_in s 0 42 20

abbrev pub byte_total : List ℕ → ℕ
byte_total s = field_in s 0 62 20

abbrev pub entry_of : List ℕ → ℕ
entry_of s = field_in s 0 82 14

-- "Tables follow in that order": the byte at which each starts, and "Length is 12 + 8E + 4N + 4T + 4I + B"
abbrev pub names_place : List ℕ → ℕ
names_place s = widths.header + widths.expr * expr_count s

abbrev pub texts_place : List ℕ → ℕ
texts_place s = names_place s + widths.name * name_count s

abbrev pub items_place : List ℕ → ℕ
items_place s = texts_place s + widths.text * text_count s

abbrev pub bytes_place : List ℕ → ℕ
bytes_place s = items_place s + widths.item * item_total s

abbrev pub length_of : List ℕ → ℕ
length_of s = bytes_place s + byte_total s

-- the byte at which a record starts
abbrev pub expr_place : ℕ → ℕ
expr_place e = widths.header + widths.expr * e

abbrev pub name_place : List ℕ → ℕ → ℕ
name_place s n = names_place s + widths.name * n

abbrev pub text_place : List ℕ → ℕ → ℕ
text_place s x = texts_place s + widths.text * x

abbrev pub item_place : List ℕ → ℕ → ℕ
item_place s i = items_place s + widths.item * i

-- "Expression, 64: kind 5, detail 5, text 14, first item 20, item count 20."
abbrev pub kind_of : List ℕ → ℕ → ℕ
kind_of s e = field_in s (expr_place e) 0 5

abbrev pub detail_of : List ℕ → ℕ → ℕ
detail_of s e = field_in s (expr_place e) 5 5

abbrev pub expr_text_of : List ℕ → ℕ → ℕ
expr_text_of s e = field_in s (expr_place e) 10 14

abbrev pub first_of : List ℕ → ℕ → ℕ
first_of s e = field_in s (expr_place e) 24 20

abbrev pub count_of : List ℕ → ℕ → ℕ
count_of s e = field_in s (expr_place e) 44 20

-- "Name, 32: text 14, kind 3 (0 to 4 as in `NameKind`), zero 15."
abbrev pub name_text_of : List ℕ → ℕ → ℕ
name_text_of s n = field_in s (name_place s n) 0 14

abbrev pub name_kind_of : List ℕ → ℕ → ℕ
name_kind_of s n = field_in s (name_place s n) 14 3

abbrev pub name_spare_of : List ℕ → ℕ → ℕ
name_spare_of s n = field_in s (name_place s n) 17 15

-- "Text, 32: first byte 20, length 12."
abbrev pub text_first_of : List ℕ → ℕ → ℕ
text_first_of s x = field_in s (text_place s x) 0 20

abbrev pub text_length_of : List ℕ → ℕ → ℕ
text_length_of s x = field_in s (text_place s x) 20 12

-- "Item, 32: role 4, name 14, expression 14.": the item whose bytes start at byte p
abbrev pub item_here : List ℕ → ℕ → Item
item_here s p = record { role = field_in s p 0 4; name = field_in s p 4 14; expression = field_in s p 18 14 }

-- f i, f (i + 1), ..: n of them
unfoldable pub table {ℓ} : {A : Type ℓ} → (ℕ → A) → ℕ → ℕ → List A
table f i zero = []
table f i (suc n) = f i ∷ table f (suc i) n

-- an item of the table, an expression with the run of its items, a name, a text with the run of its bytes
abbrev pub item_of : List ℕ → ℕ → Item
item_of s i = item_here s (item_place s i)

abbrev pub expr_of : List ℕ → ℕ → Expr
expr_of s e =
    record { kind = kind_of s e; detail = detail_of s e; text = expr_text_of s e; items = table (item_of s) (first_of s e) (count_of s e) }

abbrev pub name_of : List ℕ → ℕ → Name
name_of s n = record { text = name_text_of s n; kind = name_kind_of s n }

abbrev pub text_of : List ℕ → ℕ → Text
text_of s x = take (text_length_of s x) (drop (bytes_place s + text_first_of s x) s)

-- the tree that an image writes
unfoldable pub decode : List ℕ → Tree
decode s =
    record {
      exprs = table (expr_of s) 0 (expr_count s);
      names = table (name_of s) 0 (name_count s);
      texts = table (text_of s) 0 (text_count s);
      entry = entry_of s;
    }
