use Rattle.narrow_leaf.proofs.ToldLaws.{no_key, no-set, key_there}
use Rattle.narrow_texts.proofs.PathLaws.{some_item, set_below}
use Rattle.image_fields.proofs.ImageLaws.{tree-items}
use mathlib.Core.Logic.{inr}
use native.Mathlib.Omega.{arith}
use Rattle.narrow_leaf.proofs.told.asked.Goals as goal

pub single_static_attrpath_key-requires : goal.single_static_attrpath_key-requires
single_static_attrpath_key-requires c = (c.requires.c_bound.0, inr c.requires.c_value)

pub returns-in_default : goal.returns-in_default
returns-in_default c = no_key _ _ c.args.image.accepted _ c.requires.c_bound.0 c.requires.c_value c.single_static_attrpath_key.ensures
    c.in_default.is c.nothing.ensures

pub item_expression-set-requires : goal.item_expression-set-requires
item_expression-set-requires c = (
  c.requires.c_bound.0,
  omega (arith, some_item _ c.args.image.accepted _ c.requires.c_bound.0 (inr c.requires.c_value), tree-items _ _ c.requires.c_bound.0),
)

pub expr_as_local_name-requires : goal.expr_as_local_name-requires
expr_as_local_name-requires c = (
  omega (
    arith,
    c.requires.c_bound.0,
    c.item_expression-set.ensures,
    set_below _ c.args.image.accepted _ c.requires.c_bound.0 (inr c.requires.c_value)
        (omega (arith, some_item _ c.args.image.accepted _ c.requires.c_bound.0 (inr c.requires.c_value), tree-items _ _ c.requires.c_bound.0)),
  ),
  c.requires.c_bound.1,
)

pub returns : goal.returns
returns c = key_there _ _ c.args.image.accepted _ c.requires.c_bound.0 c.requires.c_value c.single_static_attrpath_key.ensures
    c.item_expression-set.ensures c.expr_as_local_name.ensures c.in-Some.is c.in-Some-expr_as_local_name.is
    c.narrow_info.ensures

pub returns-in_default-expr_as_local_name : goal.returns-in_default-expr_as_local_name
returns-in_default-expr_as_local_name c = no-set _ _ c.args.image.accepted _ c.requires.c_bound.0 c.requires.c_value c.single_static_attrpath_key.ensures
    c.item_expression-set.ensures c.expr_as_local_name.ensures c.in-Some.is c.in_default-expr_as_local_name.is
    c.nothing-in_default-expr_as_local_name.ensures
