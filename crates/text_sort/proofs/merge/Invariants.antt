use Prim.Native.Nat.{◌+◌, ◌-◌}
use lib.ListN.{length}
use Rattle.text_sort.proofs.MergeLaws.{Merging}
use Rattle.text_sort.proofs.merge.Given as goal

abbrev pub invariant-loop-i : goal.invariant-loop-i
invariant-loop-i l = Merging l.image.bytes.now l.first l.second l.initial.out l.out l.i l.j l.count

abbrev pub decreases-loop-i : goal.decreases-loop-i
decreases-loop-i l = length l.first + length l.second - (l.i + l.j)
