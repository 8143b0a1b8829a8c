use native.Mathlib.Omega.{arith}
use Rattle.lent.proofs.BufferLaws.{with_room, without_room}
use Rattle.lent.proofs.put.Goals as goal

pub returns-then-end-buffer : goal.returns-then-end-buffer
returns-then-end-buffer c = with_room _ _ _ _ c.copy_from_slice.ensures.after (omega arith)

pub returns-else-end-buffer : goal.returns-else-end-buffer
returns-else-end-buffer c = without_room _ _ _ c.if-end-buffer.false
