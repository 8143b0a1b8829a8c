use Rattle.narrow_leaf.proofs.CalleeLaws.{not_selected, key-builtin, key-else}
use Rattle.narrow_texts.proofs.NumberLaws.{nothing_spelt, spelt_as, spelt_of}
use Rattle.narrow_texts.proofs.PathLaws.{some_item, set_below}
use Rattle.image_fields.proofs.ImageLaws.{tree-items}
use mathlib.Core.Path.{sym, ◌∙◌}
use mathlib.Core.Logic.{inl}
use native.Mathlib.Omega.{arith}
use Rattle.narrow_leaf.proofs.callees.builtins_key.Goals as goal

pub returns-then-kind-ne-SELECT : goal.returns-then-kind-ne-SELECT
returns-then-kind-ne-SELECT c = nothing_spelt (not_selected _ _ _ c.kind.ensures c.if-kind-ne-SELECT.true)

pub item_expression-requires : goal.item_expression-requires
item_expression-requires c = (
  c.requires.0,
  omega (
    arith,
    some_item _ c.args.image.accepted _ c.requires.0 (inl (sym c.kind.ensures ∙ c.if-kind-ne-SELECT.false)),
    tree-items _ _ c.requires.0,
  ),
)

pub builtins_ref-requires : goal.builtins_ref-requires
builtins_ref-requires c = (
  omega (
    arith,
    c.requires.0,
    c.item_expression.ensures,
    set_below _ c.args.image.accepted _ c.requires.0 (inl (sym c.kind.ensures ∙ c.if-kind-ne-SELECT.false))
        (omega (
          arith,
          some_item _ c.args.image.accepted _ c.requires.0 (inl (sym c.kind.ensures ∙ c.if-kind-ne-SELECT.false)),
          tree-items _ _ c.requires.0,
        )),
  ),
  c.requires.1,
)

pub single_static_attrpath_key-requires : goal.single_static_attrpath_key-requires
single_static_attrpath_key-requires c = (c.requires.0, inl (sym c.kind.ensures ∙ c.if-kind-ne-SELECT.false))

pub returns-in-Builtin : goal.returns-in-Builtin
returns-in-Builtin c = spelt_as
    (key-builtin _ _ _ c.kind.ensures c.if-kind-ne-SELECT.false c.item_expression.ensures c.builtins_ref.ensures
    c.in-Builtin.is) (spelt_of c.single_static_attrpath_key.ensures)

pub returns-in-Another : goal.returns-in-Another
returns-in-Another c = nothing_spelt
    (key-else _ _ _ c.kind.ensures c.if-kind-ne-SELECT.false c.item_expression.ensures c.builtins_ref.ensures
    c.in-Another.is)
