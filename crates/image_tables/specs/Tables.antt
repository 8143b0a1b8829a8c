-- The rules of an image's tables (document 01, "Turned back, in checking order", 3 to 6; document 02, order 6, 10 and 11), each over the whole image.
use Rattle.std.specs.Prelude.{ℕ, zero, suc, ◌+◌, Bool, ◌&&◌, List, eqb, ltb, leb}
use Rattle.semantics.specs.Codes.{name_kinds}
use Rattle.semantics.specs.Base.{all}
use Rattle.image_fields.specs.Image.{expr_count, name_count, text_count, item_total, byte_total, kind_of, detail_of, expr_text_of, first_of, count_of, name_text_of, name_kind_of, name_spare_of, text_first_of, text_length_of, decode}
use Rattle.image_rules.specs.Rules.{expr_fits, items_stand, items_smaller, items_inherit}

-- f 0 + .. + f (n - 1)
unfoldable pub total : (ℕ → ℕ) → ℕ → ℕ
total f zero = 0
total f (suc n) = total f n + f n

-- "Runs of text bytes, and of items by expression, stand end to end and use all B and I.": n runs, each of which
-- starts where the lengths of those before it end
unfoldable pub starts_there : (ℕ → ℕ) → (ℕ → ℕ) → ℕ → Bool
starts_there first count k = eqb (first k) (total count k)

-- 3. "A text run breaks its rule."
unfoldable pub texts_fit : List ℕ → Bool
texts_fit s =
    all (starts_there (text_first_of s) (text_length_of s)) (text_count s) && eqb (total (text_length_of s) (text_count s)) (byte_total s)

-- 4. "A name has kind above 4, a text not below T, or spare bits set."
unfoldable pub name_fits : List ℕ → ℕ → Bool
name_fits s n = leb (name_kind_of s n) name_kinds.PatField && ltb (name_text_of s n) (text_count s) && eqb (name_spare_of s n) 0

unfoldable pub names_fit : List ℕ → Bool
names_fit s = all (name_fits s) (name_count s)

-- 5. "An expression's kind, detail, text or item run breaks its rule."
unfoldable pub expr_stands : List ℕ → ℕ → Bool
expr_stands s e = expr_fits (text_count s) (kind_of s e) (detail_of s e) (expr_text_of s e) && starts_there (first_of s) (count_of s) e

unfoldable pub exprs_fit : List ℕ → Bool
exprs_fit s = all (expr_stands s) (expr_count s) && eqb (total (count_of s) (expr_count s)) (item_total s)

-- 6. "An item or an expression's item order breaks its rule", in all but 10 and 11: "over the whole image, before either"
unfoldable pub all_stand : List ℕ → Bool
all_stand s = all (items_stand (decode s)) (expr_count s)

-- 10. "An expression number present where its role allows one, but not smaller than its owner's"
unfoldable pub all_smaller : List ℕ → Bool
all_smaller s = all (items_smaller (decode s)) (expr_count s)

-- 11. "an Inherit that names something else than a Reference"
unfoldable pub all_inherit : List ℕ → Bool
all_inherit s = all (items_inherit (decode s)) (expr_count s)
