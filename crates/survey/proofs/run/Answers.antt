use native.Mathlib.Omega.{arith}
use Rattle.survey.proofs.PrintedLaws.{print-whole, print-long}
use Rattle.survey.proofs.run.Goals as goal

pub returns-in-Some : goal.returns-in-Some
returns-in-Some g c =
    print-whole _ _ _ c.read_whole.new.buf (omega (arith, c.buffer-image.ensures, c.read_whole.auto.buf)) c.in_ok-n.ensures.whole _ c.in-Some.is c.say.ensures

pub returns-in-None : goal.returns-in-None
returns-in-None g c =
    print-long _ _ _ c.read_whole.new.buf (omega (arith, c.buffer-image.ensures, c.read_whole.auto.buf)) c.in_ok-n.ensures.whole _ c.in-None.is
    c.write_all.ensures.bytes
