use Rattle.narrow_texts.proofs.PathLaws.{other-count, other-role, key-string, key_below}
use Rattle.narrow_texts.proofs.NumberLaws.{nothing-found, found_as}
use Rattle.image_fields.proofs.ImageLaws.{tree-items}
use native.Mathlib.Omega.{arith}
use Rattle.narrow_texts.proofs.paths.single_static_attrpath_key.Goals as goal

pub returns-then-item_count-ne2 : goal.returns-then-item_count-ne2
returns-then-item_count-ne2 c = nothing-found (other-count _ c.args.image.accepted _ c.requires.0 c.requires.1 c.item_count.ensures c.if-item_count-ne2.true)

pub item_role-requires : goal.item_role-requires
item_role-requires c = (c.requires.0, omega (arith, c.item_count.ensures, c.if-item_count-ne2.false, tree-items _ _ c.requires.0))

pub returns-then-item_role-ne-PATH_KEY : goal.returns-then-item_role-ne-PATH_KEY
returns-then-item_role-ne-PATH_KEY c = nothing-found (other-role _ c.args.image.accepted _ c.requires.0 c.requires.1 c.item_count.ensures c.if-item_count-ne2.false c.item_role.ensures c.if-item_role-ne-PATH_KEY.true)

pub item_expression-requires : goal.item_expression-requires
item_expression-requires c = (c.requires.0, omega (arith, c.item_count.ensures, c.if-item_count-ne2.false, tree-items _ _ c.requires.0))

pub string-requires : goal.string-requires
string-requires c = omega (arith, c.requires.0, key_below _ c.args.image.accepted _ c.requires.0 1 (omega (arith, c.item_count.ensures, c.if-item_count-ne2.false, tree-items _ _ c.requires.0)) c.item_role.ensures c.if-item_role-ne-PATH_KEY.false c.item_expression.ensures)

pub returns : goal.returns
returns c = found_as (key-string _ c.args.image.accepted _ c.requires.0 c.requires.1 c.item_count.ensures c.if-item_count-ne2.false c.item_role.ensures c.if-item_role-ne-PATH_KEY.false c.item_expression.ensures) c.string.ensures
