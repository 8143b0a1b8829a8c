use mathlib.Core.Path.{refl}
use native.Mathlib.Omega.{arith}
use Rattle.text_classes.proofs.HashLaws.{hash_short, hash_long}
use Rattle.text_classes.proofs.hash.Goals as goal

pub returns-then-size-lt4 : goal.returns-then-size-lt4
returns-then-size-lt4 c = hash_short _ c.if-size-lt4.true c.word.ensures c.mix.ensures

pub returns-then-size-lt8 : goal.returns-then-size-lt8
returns-then-size-lt8 c = hash_long _ c.if-size-lt4.false c.four-last.ensures c.four.ensures (omega (arith, c.if-size-lt8.true)) c.mix-then-size-lt8.ensures

pub returns : goal.returns
returns c = hash_long _ c.if-size-lt4.false c.four-last.ensures c.four-2.ensures refl c.mix-2.ensures
