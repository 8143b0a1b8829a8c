use mathlib.Core.Path.{refl, sym, ◌∙◌}
use native.Mathlib.Omega.{arith}
use Rattle.image_fields.proofs.ImageLaws.{tree-items, tree-kind}
use Rattle.image_rules.proofs.ChildLaws.{counts, a_path, a_lambda, miscounted, children-counted, children-any}
use Rattle.image_rules.proofs.items_fit.Goals as goal
use Rattle.image_rules.proofs.items_fit.Goals.{then-children-lt-ANY+else-children-count, else-children-lt-ANY}

pub lambda_fits-requires : goal.lambda_fits-requires
unfolding counts
lambda_fits-requires c = let k = a_lambda _ refl c.args.kind (omega (arith, c.requires.runs.known)) c.part-children.ensures c.if-children-eq-PATTERN.true in
    (k ∙ c.requires.kind_value.0, c.requires.kind_value.1)

pub path_fits-requires : goal.path_fits-requires
unfolding counts
path_fits-requires c = let k = a_path _ refl c.args.kind (omega (arith, c.requires.runs.known)) c.part-children.ensures c.if-children-eq-PATH.true in
    (c.requires.kind_value.0, k.0, k.1)

pub returns-then-children-count : goal.returns-then-children-count
unfolding counts
returns-then-children-count c = miscounted _ refl _ _ (c.requires.kind_value.0 ∙ sym (tree-kind _ _ c.requires.runs.inside)) (omega (arith, c.requires.runs.known)) c.part-children.ensures (tree-items _ _ c.requires.runs.inside ∙ sym c.requires.first_value.1) c.if-children-lt-ANY.true c.if-children-count.true

pub returns : goal.returns
unfolding counts
returns c = let k = c.requires.kind_value.0 ∙ sym (tree-kind _ _ c.requires.runs.inside) in
    let n = tree-items _ _ c.requires.runs.inside ∙ sym c.requires.first_value.1 in
    c.children_fit.ensures
    ∙ elim c.if-children-lt-ANY.branch [
      | then-children-lt-ANY+else-children-count w ↦
          children-counted _ refl _ _ k (omega (arith, c.requires.runs.known)) c.part-children.ensures n w.if-children-lt-ANY.true w.if-children-count.false
      | else-children-lt-ANY w ↦
          children-any _ refl _ _ k (omega (arith, c.requires.runs.known)) c.part-children.ensures n (omega (arith, w.if-children-lt-ANY.false, c.if-children-gt-ANY.false))
    ]
