-- The line is all that such a run has left to write.
use native.Mathlib.Omega.{arith}
use Rattle.pieces.proofs.Promise.{unrun_full}
use Rattle.pieces.proofs.unrun.Goals as goal

pub returns-then-out-lt-LINE_ROOM : goal.returns-then-out-lt-LINE_ROOM
returns-then-out-lt-LINE_ROOM c = rw c.going.ensures (unrun_full (omega arith))
