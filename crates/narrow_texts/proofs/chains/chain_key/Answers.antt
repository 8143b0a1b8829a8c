use mathlib.Core.Logic.{inl}
use native.Mathlib.Omega.{arith}
use Rattle.image_fields.proofs.ImageLaws.{tree-items}
use Rattle.narrow_texts.proofs.NumberLaws.{nothing_spelt, spelt_as}
use Rattle.narrow_texts.proofs.PathLaws.{some_item, set_below}
use Rattle.narrow_texts.proofs.ChainLaws.{chain_another, chain_counted}
use Rattle.narrow_texts.proofs.chains.chain_key.Goals as goal

pub item_expression-requires : goal.item_expression-requires
item_expression-requires c = (
  c.requires.e_bound.0,
  omega (arith, some_item _ c.args.image.accepted _ c.requires.e_bound.0 (inl c.requires.e_bound.1), tree-items _ _ c.requires.e_bound.0),
)

pub builtins_ref-requires : goal.builtins_ref-requires
builtins_ref-requires c = (
  omega (
    arith,
    c.requires.e_bound.0,
    c.item_expression.ensures,
    set_below _ c.args.image.accepted _ c.requires.e_bound.0 (inl c.requires.e_bound.1)
        (omega (arith, some_item _ c.args.image.accepted _ c.requires.e_bound.0 (inl c.requires.e_bound.1), tree-items _ _ c.requires.e_bound.0)),
  ),
  c.requires.resolutions_value,
)

pub returns-in-Another : goal.returns-in-Another
returns-in-Another c = nothing_spelt
    (chain_another _ _ _ c.item_expression.ensures c.builtins_ref.ensures c.in-Another.is)

pub returns-in-Builtin : goal.returns-in-Builtin
returns-in-Builtin c = spelt_as (chain_counted _ _ _ c.item_expression.ensures c.builtins_ref.ensures c.in-Builtin.is) c.last_key.ensures
