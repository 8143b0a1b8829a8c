use Prim.Native.Nat.{◌≤◌, ◌<◌}
use mathlib.Core.Path.{◌≡◌, sym, ap, subst, ◌∙◌}
use native.Mathlib.Omega.{arith}
use Rattle.image_rules.specs.Inside.Whole.{item_fits}
use Rattle.image_rules.specs.Inside.Machine.{item_of_word, started, state_of, Row}
use Rattle.image_rules.proofs.ItemLaws.{ordered_more, following_start, following_fails, following_done, fits-role, items-number, items-kind, said}
use Rattle.image_rules.proofs.mixed_fit.Goals as goal
use Rattle.image_rules.proofs.mixed_fit.Goals.{After-part-role, then-next-state, else-next-state}

role-small : (c : After-part-role) → c.part-role.result ≤ 10
role-small c = rw c.part-role.ensures (fits-role _ _ (item_of_word c.word-item.result) (sym (sym c.item_fits.ensures ∙ c.if-not-item_fits.false)))

pub loop-k-init : goal.loop-k-init
loop-k-init c =
    (following_start (items-number c.args.items) (c.start-state.ensures.0 ∙ ap started (items-kind c.args.items c.requires.0)) c.start-state.ensures.1, c.row-row.ensures)

pub returns-then-not-item_fits : goal.returns-then-not-item_fits
returns-then-not-item_fits c =
    following_fails c.loop-k.invariant.0 c.loop-k-test.true (sym (said (item_fits _ _) c.word-item.result c.word-item.ensures.0 c.item_fits.ensures c.if-not-item_fits.true))

pub part-next-requires : goal.part-next-requires
part-next-requires c = let r = role-small ((goal.at.part-next-requires c).After-part-role) in omega arith

pub row-row-requires-then-next-state : goal.row-row-requires-then-next-state
row-row-requires-then-next-state c =
    rw c.part-next.ensures (c.loop-k.invariant.1.known _ (role-small ((goal.at.row-row-requires-then-next-state c).After-part-role)))

pub loop-k-preserved : goal.loop-k-preserved
loop-k-preserved c =
    let r = role-small ((goal.at.loop-k-preserved c).After-part-role) in
    let s : c.if-next-state.state ≡ c.part-next.result =
    elim c.if-next-state.branch [ then-next-state w ↦ w.state-is | else-next-state w ↦ w.state-is ∙ sym w.if-next-state.false ] in
    let row : Row c.if-next-state.state c.if-next-state.row =
    elim c.if-next-state.branch [
      | then-next-state w ↦ rw (w.state-is, w.row-is) w.row-row-then-next-state.ensures
      | else-next-state w ↦ rw (w.state-is, w.row-is) c.loop-k.invariant.1
    ] in (
      ordered_more c.loop-k.invariant.0 c.loop-k-test.true
          (said (item_fits _ _) c.word-item.result c.word-item.ensures.0 c.item_fits.ensures c.if-not-item_fits.false)
          (ap state_of (s ∙ c.part-next.ensures) ∙ c.loop-k.invariant.1.next _ r) (c.part-role.ensures ∙ ap (λ i. i.role) c.word-item.ensures.0)
          (subst (λ n. n < 20) (sym (s ∙ c.part-next.ensures)) (c.loop-k.invariant.1.known _ r)),
      row,
    )

pub returns : goal.returns
returns c = following_done c.loop-k.invariant.0 c.loop-k-test.false c.complete.ensures
