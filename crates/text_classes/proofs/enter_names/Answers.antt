use native.Mathlib.Omega.{arith}
use Rattle.text_classes.proofs.EnterLaws.{entered-done, going_start}
use Rattle.text_classes.proofs.enter_names.Goals as goal

pub loop-n-init : goal.loop-n-init
loop-n-init c = going_start _ c.requires.roomy c.requires.clear

pub returns : goal.returns
returns c = entered-done c.loop-n.invariant.entered (omega arith)
