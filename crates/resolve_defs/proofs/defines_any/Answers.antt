use Prim.Native.Nat.{◌+◌, ◌*◌}
use mathlib.Core.Path.{sym, ap, refl, ◌∙◌}
use native.Mathlib.Omega.{arith}
use Rattle.std.proofs.Common.{rules, tests}
use Rattle.std.proofs.lemmas.Iterator.{YieldsList-from_range, serves_from_Range}
use Rattle.std.proofs.lemmas.Iterator.Search.{any_from_yields_List}
use Rattle.semantics.specs.Scopes.{defines}
use Rattle.image_fields.specs.Image.{item_here, decode}
use Rattle.image_fields.proofs.ImageLaws.{tree-items}
use Rattle.resolve_defs.specs.Inside.Items.{AnItem}
use Rattle.resolve_defs.proofs.DefinitionLaws.{item_here_lem, an_item}
use Rattle.resolve_defs.proofs.ScopeLaws.{any-item}
use Rattle.resolve_defs.proofs.defines_any.Goals as goal

pub any-requires-clause-callable : goal.any-requires-clause-callable
any-requires-clause-callable c =
    serves_from_Range (λ x q k. search (rules, tests))
    (λ x l h.
    let i : AnItem c.args.image.bytes.now (c.item_place-items.result + 4 * x) =
    an_item _ c.args.image.accepted _ c.requires x (omega (arith, h, c.item_count-count.ensures, tree-items c.args.image.bytes.now c.args.e c.requires)) (omega (arith, c.item_place-items.ensures)) in
    search (rules, arith, i, i.inside, c.args.image.accepted))

pub returns : goal.returns
returns c =
    any_from_yields_List (λ k. defines (decode c.args.image.bytes.now) (item_here c.args.image.bytes.now (c.item_place-items.result + 4 * k))) _ _ _ c.any.ensures.ran
    (YieldsList-from_range 0 _ c.item_count-count.result refl (omega arith)) (λ x b q k. search (rules, tests))
    ∙ any-item _ _ c.args.e c.item_count-count.ensures (λ k h.
    ap (defines (decode c.args.image.bytes.now))
    (sym (item_here_lem _ c.args.image.accepted _ c.requires k (omega (arith, h, c.item_count-count.ensures, tree-items c.args.image.bytes.now c.args.e c.requires)) (omega (arith, c.item_place-items.ensures)))))
