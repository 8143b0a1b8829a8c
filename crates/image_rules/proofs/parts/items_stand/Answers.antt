use Prim.Native.Nat.{◌≤◌}
use mathlib.Core.Bool.{Bool}
use mathlib.Core.Path.{◌≡◌, sym, ap, ◌∙◌}
use native.Mathlib.Omega.{arith}
use lib.ListN.{length}
use Rattle.semantics.specs.Tree.{item_at}
use Rattle.image_fields.specs.Image.{kind_of, decode}
use Rattle.image_rules.specs.Rules.{item_stands}
use Rattle.image_rules.specs.Inside.Machine.{item_of_word, started, state_of}
use Rattle.image_fields.proofs.ImageLaws.{tree-names}
use Rattle.image_rules.proofs.ItemLaws.{ordered-start, ordered_more, ordered-fails, ordered-done, items-number, items-kind, said}
use Rattle.image_rules.proofs.StandLaws.{stands-role, all-stand}
use Rattle.image_rules.proofs.parts.items_stand.Goals as goal
use Rattle.image_rules.proofs.parts.items_stand.Goals.{After-item_stands, After-part-role}

pub loop-k-init : goal.loop-k-init
loop-k-init c =
    let k : c.in_eight.result ≡ kind_of c.of-items.result.image.now c.of-items.result.owner = rw (c.of-items.ensures.0, c.of-items.ensures.1) c.in_eight.ensures in
    ordered-start (items-number c.of-items.result) (c.start-state.ensures.0 ∙ ap started (items-kind c.of-items.result k)) c.start-state.ensures.1

-- what was said of the item that was read
it : (c : After-item_stands) {b : Bool} → c.item_stands.result ≡ b
    → item_stands (length (decode c.of-items.result.image.now).names) (item_at (decode c.of-items.result.image.now) c.of-items.result.owner c.loop-k.k) ≡ b
it c f =
    said (item_stands _) c.word-item.result c.word-item.ensures.0
    (rw (tree-names c.of-items.result.image.now, c.of-items.ensures.0, ← c.requires.items_at_value.1) c.item_stands.ensures) f

pub returns-then-not-item_stands : goal.returns-then-not-item_stands
returns-then-not-item_stands c =
    rw (← c.of-items.ensures.0, ← c.of-items.ensures.1)
    (ordered-fails c.loop-k.invariant c.loop-k-test.true (it ((goal.at.returns-then-not-item_stands c).After-item_stands) c.if-not-item_stands.true) ∙ all-stand _ _)

role-small : (c : After-part-role) → c.part-role.result ≤ 10
role-small c = rw c.part-role.ensures (stands-role _ (item_of_word c.word-item.result) (sym (sym c.item_stands.ensures ∙ c.if-not-item_stands.false)))

pub part-state-requires : goal.part-state-requires
part-state-requires c = let r = role-small ((goal.at.part-state-requires c).After-part-role) in omega arith

pub loop-k-preserved : goal.loop-k-preserved
loop-k-preserved c =
    let r = role-small ((goal.at.loop-k-preserved c).After-part-role) in
    ordered_more c.loop-k.invariant c.loop-k-test.true (it ((goal.at.loop-k-preserved c).After-item_stands) c.if-not-item_stands.false)
    (ap state_of c.part-state.ensures ∙ c.row.ensures.next _ r) (c.part-role.ensures ∙ ap (λ i. i.role) c.word-item.ensures.0)
    (rw c.part-state.ensures (c.row.ensures.known _ r))

pub returns : goal.returns
returns c = rw (← c.of-items.ensures.0, ← c.of-items.ensures.1) (ordered-done c.loop-k.invariant c.loop-k-test.false c.complete.ensures ∙ all-stand _ _)
