use mathlib.Core.Path.{refl}
use Rattle.text_sort.proofs.MergeLaws.{merging_start, merging_second, merging_both, merging_first, merging_done}
use Rattle.text_sort.proofs.merge.Goals as goal
use Rattle.text_sort.proofs.merge.Goals.{in-Less, in-Equal, in-Greater}

pub loop-i-init : goal.loop-i-init
loop-i-init c = merging_start _ c.requires.first_ordered c.requires.second_ordered

pub loop-i-preserved : goal.loop-i-preserved
loop-i-preserved c = elim c.match-standing.branch [
  | in-Less w ↦ rw (w.out-is, w.i-is, w.j-is) (merging_first c.loop-i.invariant c.requires.first_ordered c.requires.second_ordered c.requires.room c.loop-i-test.true c.standing.ensures w.in-Less.is refl)
  | in-Equal w ↦ rw (w.out-is, w.i-is, w.j-is) (merging_both c.loop-i.invariant c.requires.first_ordered c.requires.second_ordered c.requires.room c.loop-i-test.true c.standing.ensures w.in-Equal.is refl)
  | in-Greater w ↦ rw (w.out-is, w.i-is, w.j-is) (merging_second c.loop-i.invariant c.requires.first_ordered c.requires.second_ordered c.requires.room c.loop-i-test.true c.standing.ensures w.in-Greater.is refl)
]

pub returns : goal.returns
returns c = merging_done c.loop-i.invariant c.requires.first_ordered c.requires.second_ordered c.requires.room c.loop-i-test.false
