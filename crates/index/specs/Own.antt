-- The tables that our own calls write for an image, and what a call that is given them reads in them.
use Rattle.std.specs.Prelude.{ℕ, ◌≡◌, List}
use Rattle.semantics.specs.Resolution.{Tables, own}
use Rattle.semantics.specs.Formats.{resolution_table, binding_table}
use Rattle.image_fields.specs.Image.{decode}
use Rattle.image.specs.Refusals.{image_refusal}
use Rattle.given.specs.Given.{given}

-- "Tables come from our own calls on this image.": the bytes that `compute_name_resolution` and `compute_module_indices` write
abbrev pub own_resolutions : List ℕ → List ℕ
own_resolutions s = resolution_table (decode s) (own (decode s))

abbrev pub own_bindings : List ℕ → List ℕ
own_bindings s = binding_table (decode s) (own (decode s))

-- the tables that a call reads in them: all that it answers is over these (Outcome)
abbrev pub tables_read : List ℕ → Tables
tables_read s = given (own_resolutions s) (own_bindings s)

-- what is read is what was written
abbrev pub ReadBack : Type 0
ReadBack = (s : List ℕ) → image_refusal s ≡ 0 → tables_read s ≡ own (decode s)
