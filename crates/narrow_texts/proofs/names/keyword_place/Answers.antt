use Rattle.narrow_texts.specs.Inside.Texts.{keyword_place}
use Rattle.narrow_texts.proofs.names.keyword_place.Goals as goal

pub returns-then-same : goal.returns-then-same
unfolding keyword_place
returns-then-same c = rw (← c.same.ensures, c.if-same.true)

pub returns-then-same-2 : goal.returns-then-same-2
unfolding keyword_place
returns-then-same-2 c = rw (← c.same.ensures, c.if-same.false, ← c.same-2.ensures, c.if-same-2.true)

pub returns-then-same-3 : goal.returns-then-same-3
unfolding keyword_place
returns-then-same-3 c = rw (← c.same.ensures, c.if-same.false, ← c.same-2.ensures, c.if-same-2.false, ← c.same-3.ensures, c.if-same-3.true)

pub returns : goal.returns
unfolding keyword_place
returns c = rw (← c.same.ensures, c.if-same.false, ← c.same-2.ensures, c.if-same-2.false, ← c.same-3.ensures, c.if-same-3.false)
