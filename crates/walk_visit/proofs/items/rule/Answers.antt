use native.Mathlib.Omega.{arith}
use Rattle.walk_visit.proofs.ItemLaws.{kind-known, rule_rec, rule_set, rule_told}
use Rattle.walk_visit.proofs.items.rule.Goals as goal

pub returns-then-detail-eq-REC : goal.returns-then-detail-eq-REC
returns-then-detail-eq-REC c = rule_rec _ _ c.kind-kind.ensures c.if-kind-eq-ATTR_SET.true c.detail.ensures c.if-detail-eq-REC.true

pub returns-then-kind-eq-ATTR_SET : goal.returns-then-kind-eq-ATTR_SET
returns-then-kind-eq-ATTR_SET c = rule_set _ _ c.kind-kind.ensures c.if-kind-eq-ATTR_SET.true c.detail.ensures c.if-detail-eq-REC.false

pub returns : goal.returns
returns c = rule_told _ _ c.kind-kind.ensures c.if-kind-eq-APPLY.false c.if-kind-eq-ATTR_SET.false (kind-known _ c.args.image.accepted _ c.requires.0 c.kind-kind.ensures)

pub bounds-kind : goal.bounds-kind
bounds-kind c = omega (arith, kind-known _ c.args.image.accepted _ c.requires.0 c.kind-kind.ensures)
