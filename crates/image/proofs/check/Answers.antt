use mathlib.Core.Path.{◌≡◌, refl, sym, ◌∙◌}
use mathlib.Core.Bool.{true}
use native.Mathlib.Omega.{arith}
use borrow.Author.Tests.{not-true, not-false}
use Rattle.image_fields.specs.Image.{entry_of}
use Rattle.image.specs.Refusals.{length_fits, entry_fits}
use Rattle.image_tables.specs.Tables.{texts_fit, names_fit}
use Rattle.image_fields.specs.Inside.Asked.{Sized}
use Rattle.image_fields.proofs.FieldLaws.{Bytes, taken}
use Rattle.image.proofs.CheckLaws.{Header, few, too_short, wrong_length, right_length, is-sized, entry_outside, entry-inside, refused_1, refused_2, refused_3, refused_4, all_fit}
use mathlib.Core.Path.{ap}
use mathlib.Core.Bool.{not}
use Rattle.image.proofs.check.Goals as goal
use Rattle.image.proofs.check.Goals.{After-part, After-part-text_bytes, Else-image-items_at, Else-not-names_fit, Else-not-texts_fit, Else-part-exprs}

pub returns-then-image-lt-HEADER : goal.returns-then-image-lt-HEADER
returns-then-image-lt-HEADER c = refused_1 _ (too_short _ c.if-image-lt-HEADER.true)

header : (c : After-part-text_bytes) → Header c.args.image.now c.part-exprs.result c.part-names.result c.part-texts.result
    c.part-items.result c.part-text_bytes.result
header c =
    let s = c.args.image.now in
    let bytes : Bytes s = λ i. (c.type_inv.image i).fits in
    record {
      exprs_are = taken s bytes 0 8 0 14 50 refl c.eight-low.ensures c.part-exprs.ensures;
      names_are = taken s bytes 0 8 14 14 36 refl c.eight-low.ensures c.part-names.ensures;
      texts_are = taken s bytes 0 8 28 14 22 refl c.eight-low.ensures c.part-texts.ensures;
      items_are = taken s bytes 0 8 42 20 2 refl c.eight-low.ensures c.part-items.ensures;
      bytes_are = taken s bytes 4 8 30 20 14 refl c.eight-high.ensures c.part-text_bytes.ensures;
    }

pub overflow_mul-names_at : goal.overflow_mul-names_at
overflow_mul-names_at c = let f = few (header ((goal.at.overflow_mul-names_at c).After-part-text_bytes)) in omega arith

pub overflow_add-names_at : goal.overflow_add-names_at
overflow_add-names_at c = let f = few (header ((goal.at.overflow_add-names_at c).After-part-text_bytes)) in omega arith

pub overflow_mul-texts_at : goal.overflow_mul-texts_at
overflow_mul-texts_at c = let f = few (header ((goal.at.overflow_mul-texts_at c).After-part-text_bytes)) in omega arith

pub overflow_add-texts_at : goal.overflow_add-texts_at
overflow_add-texts_at c = let f = few (header ((goal.at.overflow_add-texts_at c).After-part-text_bytes)) in omega arith

pub overflow_mul-items_at : goal.overflow_mul-items_at
overflow_mul-items_at c = let f = few (header ((goal.at.overflow_mul-items_at c).After-part-text_bytes)) in omega arith

pub overflow_add-items_at : goal.overflow_add-items_at
overflow_add-items_at c = let f = few (header ((goal.at.overflow_add-items_at c).After-part-text_bytes)) in omega arith

pub overflow_mul-items : goal.overflow_mul-items
overflow_mul-items c = let f = few (header ((goal.at.overflow_mul-items c).After-part-text_bytes)) in omega arith

pub overflow_add-items_at-2 : goal.overflow_add-items_at-2
overflow_add-items_at-2 c = let f = few (header ((goal.at.overflow_add-items_at-2 c).After-part-text_bytes)) in omega arith

pub overflow_add-items_at-3 : goal.overflow_add-items_at-3
overflow_add-items_at-3 c = let f = few (header ((goal.at.overflow_add-items_at-3 c).After-part-text_bytes)) in omega arith

pub returns-then-image-items_at : goal.returns-then-image-items_at
returns-then-image-items_at c = refused_1 _ (wrong_length _ (header ((goal.at.returns-then-image-items_at c).After-part-text_bytes)) c.if-image-items_at.true)

header_else_image_items_at : (c : Else-image-items_at) → Header c.args.image.now c.part-exprs.result c.part-names.result c.part-texts.result
    c.part-items.result c.part-text_bytes.result
header_else_image_items_at c =
    let s = c.args.image.now in
    let bytes : Bytes s = λ i. (c.type_inv.image i).fits in
    record {
      exprs_are = taken s bytes 0 8 0 14 50 refl c.eight-low.ensures c.part-exprs.ensures;
      names_are = taken s bytes 0 8 14 14 36 refl c.eight-low.ensures c.part-names.ensures;
      texts_are = taken s bytes 0 8 28 14 22 refl c.eight-low.ensures c.part-texts.ensures;
      items_are = taken s bytes 0 8 42 20 2 refl c.eight-low.ensures c.part-items.ensures;
      bytes_are = taken s bytes 4 8 30 20 14 refl c.eight-high.ensures c.part-text_bytes.ensures;
    }

-- what each test has shown, once it is passed
length-fits : (c : Else-image-items_at) → length_fits c.args.image.now ≡ true
length-fits c = right_length _ (header_else_image_items_at c) c.if-image-items_at.false c.if-image-lt-HEADER.false

whole : (c : Else-image-items_at) → Sized c.args.image.now
whole c = is-sized _ (header_else_image_items_at c) c.if-image-items_at.false

entry-is : (c : After-part) → c.part.result ≡ entry_of c.args.image.now
entry-is c = taken _ (λ i. (c.type_inv.image i).fits) 4 8 50 14 0 refl c.eight-high.ensures c.part.ensures

header_else_part_exprs : (c : Else-part-exprs) → Header c.args.image.now c.part-exprs.result c.part-names.result c.part-texts.result
    c.part-items.result c.part-text_bytes.result
header_else_part_exprs c =
    let s = c.args.image.now in
    let bytes : Bytes s = λ i. (c.type_inv.image i).fits in
    record {
      exprs_are = taken s bytes 0 8 0 14 50 refl c.eight-low.ensures c.part-exprs.ensures;
      names_are = taken s bytes 0 8 14 14 36 refl c.eight-low.ensures c.part-names.ensures;
      texts_are = taken s bytes 0 8 28 14 22 refl c.eight-low.ensures c.part-texts.ensures;
      items_are = taken s bytes 0 8 42 20 2 refl c.eight-low.ensures c.part-items.ensures;
      bytes_are = taken s bytes 4 8 30 20 14 refl c.eight-high.ensures c.part-text_bytes.ensures;
    }

entry-is_else_part_exprs : (c : Else-part-exprs) → c.part.result ≡ entry_of c.args.image.now
entry-is_else_part_exprs c = taken _ (λ i. (c.type_inv.image i).fits) 4 8 50 14 0 refl c.eight-high.ensures c.part.ensures

entry-fits : (c : Else-part-exprs) → entry_fits c.args.image.now ≡ true
entry-fits c = entry-inside _ (header_else_part_exprs c) (entry-is_else_part_exprs c) c.if-part-exprs.false

pub returns-then-part-exprs : goal.returns-then-part-exprs
returns-then-part-exprs c = refused_2 _ (length-fits ((goal.at.returns-then-part-exprs c).Else-image-items_at))
    (entry_outside _ (header ((goal.at.returns-then-part-exprs c).After-part-text_bytes)) (entry-is ((goal.at.returns-then-part-exprs c).After-part)) c.if-part-exprs.true)

pub texts_fit-requires : goal.texts_fit-requires
texts_fit-requires c = let h = header ((goal.at.texts_fit-requires c).After-part-text_bytes) in
    record { sized = whole ((goal.at.texts_fit-requires c).Else-image-items_at); texts_at_value = rw (h.exprs_are, h.names_are); texts_value = (h.texts_are, h.bytes_are) }

pub returns-then-not-texts_fit : goal.returns-then-not-texts_fit
returns-then-not-texts_fit c = refused_3 _ (length-fits ((goal.at.returns-then-not-texts_fit c).Else-image-items_at)) (entry-fits ((goal.at.returns-then-not-texts_fit c).Else-part-exprs))
    (sym c.texts_fit.ensures ∙ not-true _ (ap not c.if-not-texts_fit.true))

texts-fit : (c : Else-not-texts_fit) → texts_fit c.args.image.now ≡ true
texts-fit c = sym c.texts_fit.ensures ∙ not-false _ (ap not c.if-not-texts_fit.false)

pub names_fit-requires : goal.names_fit-requires
names_fit-requires c = let h = header ((goal.at.names_fit-requires c).After-part-text_bytes) in
    record { sized = whole ((goal.at.names_fit-requires c).Else-image-items_at); names_at_value = rw h.exprs_are; names_value = (h.names_are, h.texts_are) }

pub returns-then-not-names_fit : goal.returns-then-not-names_fit
returns-then-not-names_fit c = refused_4 _ (length-fits ((goal.at.returns-then-not-names_fit c).Else-image-items_at)) (entry-fits ((goal.at.returns-then-not-names_fit c).Else-part-exprs)) (texts-fit ((goal.at.returns-then-not-names_fit c).Else-not-texts_fit))
    (sym c.names_fit.ensures ∙ not-true _ (ap not c.if-not-names_fit.true))

names-fit : (c : Else-not-names_fit) → names_fit c.args.image.now ≡ true
names-fit c = sym c.names_fit.ensures ∙ not-false _ (ap not c.if-not-names_fit.false)

pub all_fit-requires : goal.all_fit-requires
all_fit-requires c = let h = header ((goal.at.all_fit-requires c).After-part-text_bytes) in
    record { sized = whole ((goal.at.all_fit-requires c).Else-image-items_at); items_at_value = rw (h.exprs_are, h.names_are, h.texts_are); exprs_value = (h.exprs_are, h.names_are); texts_value = (h.texts_are, h.items_are) }

pub returns-then-all_fit : goal.returns-then-all_fit
returns-then-all_fit c = all_fit _ (length-fits ((goal.at.returns-then-all_fit c).Else-image-items_at)) (entry-fits ((goal.at.returns-then-all_fit c).Else-part-exprs)) (texts-fit ((goal.at.returns-then-all_fit c).Else-not-texts_fit)) (names-fit ((goal.at.returns-then-all_fit c).Else-not-names_fit))
    (whole ((goal.at.returns-then-all_fit c).Else-image-items_at)) (sym c.all_fit.ensures ∙ c.if-all_fit.true)

pub broken-requires : goal.broken-requires
broken-requires c = record {
  sized = whole ((goal.at.broken-requires c).Else-image-items_at);
  length-fits = length-fits ((goal.at.broken-requires c).Else-image-items_at);
  entry-fits = entry-fits ((goal.at.broken-requires c).Else-part-exprs);
  texts_fit_lem = texts-fit ((goal.at.broken-requires c).Else-not-texts_fit);
  names_fit_lem = names-fit ((goal.at.broken-requires c).Else-not-names_fit);
  refused = sym c.all_fit.ensures ∙ c.if-all_fit.false;
}

pub returns : goal.returns
returns c = c.broken.ensures
