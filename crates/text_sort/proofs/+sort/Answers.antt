use Rattle.text_sort.proofs.SortLaws.{sorted_halves}
use Rattle.text_sort.proofs.+sort.Goals as goal

pub returns : goal.returns
returns t c = sorted_halves c.split_at_mut-front.ensures.value c.sort-left.ensures c.sort-right.ensures c.merge-count.ensures c.copy.ensures
