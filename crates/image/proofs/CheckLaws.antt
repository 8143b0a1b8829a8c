-- The ways out of `check` and of `broken`, in the terms of its code: one law for each refusal, and one for acceptance.
use mathlib.Core.Path.{◌≡◌, sym, ◌∙◌}
use mathlib.Core.Bool.{true, false, ◌&&◌}
use mathlib.Core.List.{List}
use Prim.Native.Nat.{ℕ, ◌+◌, ◌*◌, ◌≤◌, ◌<◌}
use native.Mathlib.Omega.{arith}
use lib.ListN.{length}
use borrow.Author.Tests.{lt-ltb, le-ltb, le-leb, lt-leb, eq-eqb, ne_eqb}
use Rattle.semantics.proofs.BaseLaws.{and_left, and_right, and-false}
use Rattle.image_fields.specs.Image.{expr_count, name_count, text_count, item_total, byte_total, entry_of, length_of}
use Rattle.lent.specs.Calls.{first_broken}
use Rattle.image.specs.Refusals.{length_fits, entry_fits, image_rules, image_refusal, verdict_of}
use Rattle.image_tables.specs.Tables.{texts_fit, names_fit, exprs_fit, all_stand, all_smaller, all_inherit}
use Rattle.image_tables.specs.Inside.Whole.{all_items_fit}
use Rattle.image_tables.proofs.PartLaws.{all-parts}
use Rattle.image.specs.Inside.Broken.{Broken}
use Rattle.codes.specs.declared.refusals.Refusal.TheVariants.{Length, Entry, Text, Name, Expr, Item, NotSmaller, InheritsOther}
use Rattle.codes.specs.Refusals.{refusal_numbered}
use Rattle.std.specs.Prelude.{Ok, Err}
use Rattle.image_fields.specs.Inside.Asked.{Sized}
use Rattle.image_fields.proofs.FieldLaws.{field_lt}
use Rattle.image_fields.proofs.ImageLaws.{sized}

-- what the header says, as the code has read it
pub record Header (s : List ℕ) (exprs names texts items bytes : ℕ) : Type 0 where
  pub exprs_are : exprs ≡ expr_count s
  pub names_are : names ≡ name_count s
  pub texts_are : texts ≡ text_count s
  pub items_are : items ≡ item_total s
  pub bytes_are : bytes ≡ byte_total s

-- the counts are small, so that no sum of them wraps
pub record Few (exprs names texts items bytes : ℕ) : Type 0 where
  pub exprs-few : exprs < 16384
  pub names-few : names < 16384
  pub texts-few : texts < 16384
  pub items-few : items < 1048576
  pub bytes-few : bytes < 1048576

pub few : {s : List ℕ} {exprs names texts items bytes : ℕ} → Header s exprs names texts items bytes → Few exprs names texts items bytes
few {s} h =
    record {
      exprs-few = rw h.exprs_are (field_lt s _ 14);
      names-few = rw h.names_are (field_lt s _ 14);
      texts-few = rw h.texts_are (field_lt s _ 14);
      items-few = rw h.items_are (field_lt s _ 20);
      bytes-few = rw h.bytes_are (field_lt s _ 20);
    }

module _ (s : List ℕ) where
  pub too_short : length s < 12 → length_fits s ≡ false
  unfolding length_fits
  too_short h = rw (lt-leb 12 (length s) h)

  module _ {exprs names texts items bytes : ℕ} (h : Header s exprs names texts items bytes) where
    pub wrong_length : (length s ≡ 12 + 8 * exprs + 4 * names + 4 * texts + 4 * items + bytes → ⊥) → length_fits s ≡ false
    unfolding length_fits
    wrong_length n = rw (ne_eqb (length s) (length_of s) (λ e. n (omega arith)), and-false)

    module _ (e : length s ≡ 12 + 8 * exprs + 4 * names + 4 * texts + 4 * items + bytes) where
      pub right_length : 12 ≤ length s → length_fits s ≡ true
      unfolding length_fits
      right_length l = rw (le-leb 12 (length s) l, eq-eqb (length s) (length_of s) (omega arith))

      pub is-sized : Sized s
      is-sized = sized s (omega arith)

    pub entry_outside : {at : ℕ} → at ≡ entry_of s → exprs ≤ at → entry_fits s ≡ false
    unfolding entry_fits
    entry_outside a n = le-ltb (entry_of s) (expr_count s) (omega arith)

    pub entry-inside : {at : ℕ} → at ≡ entry_of s → at < exprs → entry_fits s ≡ true
    unfolding entry_fits
    entry-inside a n = lt-ltb (entry_of s) (expr_count s) (omega arith)

  pub refused_1 : length_fits s ≡ false → Err Length ≡ verdict_of (image_refusal s)
  unfolding image_refusal image_rules first_broken verdict_of refusal_numbered
  refused_1 b = rw b

  module _ (h₁ : length_fits s ≡ true) where
    pub refused_2 : entry_fits s ≡ false → Err Entry ≡ verdict_of (image_refusal s)
    unfolding image_refusal image_rules first_broken verdict_of refusal_numbered
    refused_2 b = rw (h₁, b)

    module _ (h₂ : entry_fits s ≡ true) where
      pub refused_3 : texts_fit s ≡ false → Err Text ≡ verdict_of (image_refusal s)
      unfolding image_refusal image_rules first_broken verdict_of refusal_numbered
      refused_3 b = rw (h₁, h₂, b)

      module _ (h₃ : texts_fit s ≡ true) where
        pub refused_4 : names_fit s ≡ false → Err Name ≡ verdict_of (image_refusal s)
        unfolding image_refusal image_rules first_broken verdict_of refusal_numbered
        refused_4 b = rw (h₁, h₂, h₃, b)

        module _ (h₄ : names_fit s ≡ true) where
          pub all_fit : Sized s → (exprs_fit s && all_items_fit s) ≡ true → Ok tt ≡ verdict_of (image_refusal s)
          unfolding image_refusal image_rules first_broken verdict_of refusal_numbered
          all_fit z h =
              let p = sym (all-parts s z) ∙ and_right (exprs_fit s) (all_items_fit s) h in
              let q = and_left (all_stand s && all_smaller s) (all_inherit s) p in
              rw (
                h₁,
                h₂,
                h₃,
                h₄,
                and_left (exprs_fit s) (all_items_fit s) h,
                and_left (all_stand s) (all_smaller s) q,
                and_right (all_stand s) (all_smaller s) q,
                and_right (all_stand s && all_smaller s) (all_inherit s) p,
              )

-- the ways out of `broken`
module _ {s : List ℕ} (b : Broken s) where
  pub refused_5 : exprs_fit s ≡ false → Err Expr ≡ verdict_of (image_refusal s)
  unfolding image_refusal image_rules first_broken verdict_of refusal_numbered
  refused_5 h = rw (b.length-fits, b.entry-fits, b.texts_fit_lem, b.names_fit_lem, h)

  module _ (h₅ : exprs_fit s ≡ true) where
    pub refused_6 : all_stand s ≡ false → Err Item ≡ verdict_of (image_refusal s)
    unfolding image_refusal image_rules first_broken verdict_of refusal_numbered
    refused_6 h = rw (b.length-fits, b.entry-fits, b.texts_fit_lem, b.names_fit_lem, h₅, h)

    module _ (h₆ : all_stand s ≡ true) where
      pub refused_10 : all_smaller s ≡ false → Err NotSmaller ≡ verdict_of (image_refusal s)
      unfolding image_refusal image_rules first_broken verdict_of refusal_numbered
      refused_10 h = rw (b.length-fits, b.entry-fits, b.texts_fit_lem, b.names_fit_lem, h₅, h₆, h)

      -- what keeps all but the last rule, and is refused, breaks that
      pub refused_11 : all_smaller s ≡ true → Err InheritsOther ≡ verdict_of (image_refusal s)
      unfolding image_refusal image_rules first_broken verdict_of refusal_numbered
      refused_11 h =
          let f : all_inherit s ≡ false = rw (h₅, all-parts s b.sized, h₆, h) at b.refused in
          rw (b.length-fits, b.entry-fits, b.texts_fit_lem, b.names_fit_lem, h₅, h₆, h, f)
