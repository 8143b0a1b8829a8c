use Rattle.text_sort.proofs.SortLaws.{copying_start, copying_more, copying_done}
use Rattle.text_sort.proofs.copy.Goals as goal

pub loop-k-init : goal.loop-k-init
loop-k-init c = copying_start _ _ c.requires

pub loop-k-preserved : goal.loop-k-preserved
loop-k-preserved c = copying_more c.loop-k.invariant c.loop-k-test.true

pub returns : goal.returns
returns c = copying_done c.loop-k.invariant c.loop-k-test.false
