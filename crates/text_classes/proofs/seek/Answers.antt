use native.Mathlib.Omega.{arith}
use Rattle.text_classes.proofs.ChainLaws.{same-texts, seeking_start, seeking_end, seeking_full, seeking_text, seeking_found, seeking_more}
use Rattle.text_classes.proofs.seek.Goals as goal

pub loop-looked-init : goal.loop-looked-init
loop-looked-init c = seeking_start _ c.requires.all

pub returns-then-at-eq0 : goal.returns-then-at-eq0
returns-then-at-eq0 c = seeking_end c.loop-looked.invariant (omega arith) c.if-at-eq0.true

pub text-other-requires : goal.text-other-requires
text-other-requires c = seeking_text c.loop-looked.invariant (omega arith) c.if-at-eq0.false

pub returns-then-same : goal.returns-then-same
returns-then-same c = seeking_found c.loop-looked.invariant (omega arith) c.if-at-eq0.false
    (same-texts _ _ _ c.text-text.ensures c.text-other.ensures c.same.ensures) c.if-same.true

pub offset_bounds-next-at : goal.offset_bounds-next-at
offset_bounds-next-at c = omega
    (arith, seeking_text c.loop-looked.invariant (omega arith) c.if-at-eq0.false, c.args.image.accepted.sized.texts-few)

pub bounds-next-at : goal.bounds-next-at
bounds-next-at c = omega
    (arith, seeking_text c.loop-looked.invariant (omega arith) c.if-at-eq0.false, c.requires.image_in_bounds)

pub loop-looked-preserved : goal.loop-looked-preserved
loop-looked-preserved c = seeking_more c.loop-looked.invariant (omega arith) c.if-at-eq0.false
    (same-texts _ _ _ c.text-text.ensures c.text-other.ensures c.same.ensures) c.if-same.false c.from-at.ensures (omega arith)

pub returns : goal.returns
returns c = seeking_full c.loop-looked.invariant (omega arith)
