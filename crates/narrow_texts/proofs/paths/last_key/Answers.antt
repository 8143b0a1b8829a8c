use Rattle.narrow_texts.proofs.PathLaws.{some_item, last-other, last-string, key_below}
use Rattle.narrow_texts.proofs.NumberLaws.{nothing_spelt, spelt_as, spelt_of}
use mathlib.Core.Path.{refl}
use mathlib.Core.Logic.{inl}
use Rattle.image_fields.proofs.ImageLaws.{tree-items}
use native.Mathlib.Omega.{arith}
use Rattle.narrow_texts.proofs.paths.last_key.Goals as goal

pub overflow_sub-last : goal.overflow_sub-last
overflow_sub-last c = omega
    (arith, c.item_count-count.ensures, some_item _ c.args.image.accepted _ c.requires.0 (inl c.requires.1))

pub item_role-requires : goal.item_role-requires
item_role-requires c = (
  c.requires.0,
  omega (
    arith,
    c.item_count-count.ensures,
    some_item _ c.args.image.accepted _ c.requires.0 (inl c.requires.1),
    tree-items _ _ c.requires.0,
  ),
)

pub returns-then-item_role-ne-PATH_KEY : goal.returns-then-item_role-ne-PATH_KEY
returns-then-item_role-ne-PATH_KEY c = nothing_spelt
    (last-other _ c.args.image.accepted _ c.requires.0 c.requires.1 c.item_count-count.ensures refl
    c.item_role.ensures c.if-item_role-ne-PATH_KEY.true)

pub item_expression-requires : goal.item_expression-requires
item_expression-requires c = (
  c.requires.0,
  omega (
    arith,
    c.item_count-count.ensures,
    some_item _ c.args.image.accepted _ c.requires.0 (inl c.requires.1),
    tree-items _ _ c.requires.0,
  ),
)

pub string-requires : goal.string-requires
string-requires c = omega (
  arith,
  c.requires.0,
  key_below _ c.args.image.accepted _ c.requires.0 _
      (omega (
        arith,
        c.item_count-count.ensures,
        some_item _ c.args.image.accepted _ c.requires.0 (inl c.requires.1),
        tree-items _ _ c.requires.0,
      )) c.item_role.ensures c.if-item_role-ne-PATH_KEY.false c.item_expression.ensures,
)

pub returns : goal.returns
returns c = spelt_as
    (last-string _ c.args.image.accepted _ c.requires.0 c.requires.1 c.item_count-count.ensures refl
    c.item_role.ensures c.if-item_role-ne-PATH_KEY.false c.item_expression.ensures) (spelt_of c.string.ensures)
