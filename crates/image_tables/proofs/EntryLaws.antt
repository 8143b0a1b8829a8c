-- One name, and one expression, in the terms of the code: one law for each way out.
use mathlib.Core.Path.{◌≡◌, refl}
use mathlib.Core.Bool.{Bool, true, false}
use mathlib.Core.List.{List}
use Prim.Native.Nat.{ℕ, ◌+◌, ◌*◌, ◌/◌, ◌%◌, ◌^◌, ◌≤◌, ◌<◌}
use native.Mathlib.Omega.{arith}
use lib.Dec.{eqb}
use lib.Pow.{shr-shr, mod-pow-add}
use borrow.Author.Tests.{lt-ltb, le-ltb, le-leb, lt-leb}
use Rattle.semantics.proofs.BaseLaws.{and-false}
use Rattle.image_fields.specs.Inside.Words.{word_of}
use Rattle.image_fields.proofs.FieldLaws.{Bytes, taken}
use Rattle.image_fields.specs.Image.{field_in, text_count, kind_of, detail_of, expr_text_of, first_of, count_of}
use Rattle.image_rules.specs.Rules.{expr_fits}
use Rattle.image_tables.specs.Tables.{starts_there, expr_stands}
use Rattle.image_tables.specs.Inside.Names.{name_stands}

-- `name_fits`, at byte `at`: kind, text and spare are what it read
module _ (s : List ℕ) (at texts : ℕ) where
  pub kind_above : {kind : ℕ} → kind ≡ field_in s at 14 3 → 4 < kind → false ≡ name_stands s at texts
  unfolding name_stands
  kind_above e h = rw (lt-leb (field_in s at 14 3) 4 (omega arith))

  pub text_above : {text : ℕ} → text ≡ field_in s at 0 14 → texts ≤ text → false ≡ name_stands s at texts
  unfolding name_stands
  text_above e h = rw (le-ltb (field_in s at 0 14) texts (omega arith), and-false)

  pub name-stands : {kind text spare : ℕ} → kind ≡ field_in s at 14 3 → kind ≤ 4 → text ≡ field_in s at 0 14 → text < texts → spare ≡ field_in s at 17 15
      → eqb spare 0 ≡ name_stands s at texts
  unfolding name_stands
  name-stands e h f g i = rw (i, le-leb (field_in s at 14 3) 4 (omega arith), lt-ltb (field_in s at 0 14) texts (omega arith))

-- kind and detail, as the code takes them together out of the eight bytes of an expression
module _ (s : List ℕ) (bytes : Bytes s) (at : ℕ) {v form : ℕ} (e : v ≡ word_of s at 8) (f : form ≡ v / 2 ^ 54 % 2 ^ 10) where
  halves : form ≡ v / 2 ^ 59 % 2 ^ 5 * 32 + v / 2 ^ 54 % 2 ^ 5
  halves = rw (f, mod-pow-add (v / 2 ^ 54) 5 5, shr-shr v 54 5)

  pub form_kind_lem : form / 32 ≡ field_in s at 0 5
  form_kind_lem = let h = halves in taken s bytes at 8 0 5 59 refl e (omega arith)

  pub form_detail_lem : form % 32 ≡ field_in s at 5 5
  form_detail_lem = let h = halves in taken s bytes at 8 5 5 54 refl e (omega arith)

-- rule 5 of one expression: its own fields, and where its run starts
module _ (s : List ℕ) (e : ℕ) where
  pub own-fits : {r : Bool} {texts kind detail text : ℕ} → r ≡ expr_fits texts kind detail text → texts ≡ text_count s → kind ≡ kind_of s e → detail ≡ detail_of s e → text ≡ expr_text_of s e
      → expr_fits (text_count s) (kind_of s e) (detail_of s e) (expr_text_of s e) ≡ r
  own-fits h p k d x = rw (← p, ← k, ← d, ← x, h)

  pub own_breaks : expr_fits (text_count s) (kind_of s e) (detail_of s e) (expr_text_of s e) ≡ false → expr_stands s e ≡ false
  unfolding expr_stands
  own_breaks h = rw h

  pub place_breaks : starts_there (first_of s) (count_of s) e ≡ false → expr_stands s e ≡ false
  unfolding expr_stands
  place_breaks h = rw (h, and-false)

  pub expr-stands : expr_fits (text_count s) (kind_of s e) (detail_of s e) (expr_text_of s e) ≡ true → starts_there (first_of s) (count_of s) e ≡ true → expr_stands s e ≡ true
  unfolding expr_stands
  expr-stands h g = rw (h, g)
