-- Which images are turned back, and with which number (document 01, "Turned back, in checking order", 1 to 6;
-- document 02, order 6, 10 and 11).
use Rattle.std.specs.Prelude.{ℕ, zero, suc, Bool, ◌&&◌, List, [], ◌∷◌, eqb, ltb, leb, length, Result, Ok}
use Rattle.semantics.specs.Codes.{widths}
use Rattle.image_fields.specs.Image.{expr_count, entry_of, length_of}
use Rattle.image_tables.specs.Tables.{texts_fit, names_fit, exprs_fit, all_stand, all_smaller, all_inherit}
use Rattle.lent.specs.Calls.{Rule, first_broken, turned_back}
use Rattle.codes.specs.declared.refusals.Refusal.{Refusal}

-- 1. "The image is under 12 bytes or not of the header's length."
unfoldable pub length_fits : List ℕ → Bool
length_fits s = leb widths.header (length s) && eqb (length s) (length_of s)

-- 2. "The entry is not below E."
unfoldable pub entry_fits : List ℕ → Bool
entry_fits s = ltb (entry_of s) (expr_count s)

-- "Turned back, in checking order": each rule over the whole image before the next. "10 for the number not smaller, after 6; 11 for the Inherit,
-- after 10 and before 7"
unfoldable pub image_rules : List ℕ → List Rule
image_rules s =
    (length_fits s, 1)
    ∷ (entry_fits s, 2)
    ∷ (texts_fit s, 3)
    ∷ (names_fit s, 4)
    ∷ (exprs_fit s, 5)
    ∷ (all_stand s, 6)
    ∷ (all_smaller s, 10)
    ∷ (all_inherit s, 11)
    ∷ []

-- the refusal of an image, 0 where it is accepted
unfoldable pub image_refusal : List ℕ → ℕ
image_refusal s = first_broken (image_rules s)

-- "Each refusal is returned as its number": the answer for each number
unfoldable pub verdict_of : ℕ → Result (Unit {0}) Refusal
verdict_of zero = Ok tt
verdict_of (suc n) = turned_back (suc n)
