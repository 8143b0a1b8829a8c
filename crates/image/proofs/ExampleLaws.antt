-- The examples are accepted, and write the trees of `semantics`: so its cases and its witnesses are of images. Two others are refused.
use mathlib.Core.Path.{◌≡◌, refl}
use Rattle.semantics.specs.Cases.{survey}
use Rattle.semantics.specs.Witness.{guarded}
use Rattle.semantics.proofs.Compute.{computed}
use Rattle.semantics.proofs.Cases.{computed_Cases}
use Rattle.semantics.specs.Base.{every}
use Rattle.image_fields.specs.Bits.{bit_of, field_of}
use Rattle.image_fields.specs.Image.{table, decode}
use Rattle.image_rules.specs.Rules.{texted, text_fits, expr_fits, detail_count, fits, name_presence, expr_presence, item_stands, smaller, inherits, follows, items_stand, items_smaller, items_inherit}
use Rattle.image_tables.specs.Tables.{total, starts_there, texts_fit, name_fits, names_fit, expr_stands, exprs_fit, all_stand, all_smaller, all_inherit}
use Rattle.lent.specs.Calls.{first_broken}
use Rattle.image.specs.Refusals.{length_fits, entry_fits, image_rules, image_refusal}
use Rattle.image.specs.Examples.{printed, guarded_image, own_child, inherits_other}
use Rattle.image_rules.proofs.OrderLaws.{computed as computed·Order}

-- To compute with images: whoever unfolds this unfolds fields, decoding and rules.
unfoldable computed_Image : Unit {0}
unfolding bit_of field_of table decode every texted text_fits expr_fits detail_count fits name_presence expr_presence item_stands smaller inherits follows items_stand items_smaller
    items_inherit total starts_there length_fits entry_fits texts_fit name_fits names_fit expr_stands exprs_fit all_stand all_smaller all_inherit first_broken
    image_rules image_refusal printed guarded_image own_child inherits_other
computed_Image = tt

pub printed-accepted : image_refusal printed ≡ 0
unfolding computed_Image computed computed·Order
printed-accepted = refl

pub printed-tree : decode printed ≡ survey
unfolding computed_Image computed computed_Cases survey
printed-tree = refl

pub guarded-accepted : image_refusal guarded_image ≡ 0
unfolding computed_Image computed computed·Order
guarded-accepted = refl

pub guarded-tree : decode guarded_image ≡ guarded
unfolding computed_Image computed computed_Cases guarded
guarded-tree = refl

-- "A child with its owner's number" gives 10, and an Inherit of what is no Reference 11
pub own-child-refused : image_refusal own_child ≡ 10
unfolding computed_Image computed computed·Order
own-child-refused = refl

pub inherits-other-refused : image_refusal inherits_other ≡ 11
unfolding computed_Image computed computed·Order
inherits-other-refused = refl
