-- At the end nothing is left to write; elsewhere the line is what the script has left.
use native.Mathlib.Omega.{arith}
use Rattle.pieces.proofs.Promise.{closed_end, closed_broken}
use Rattle.pieces.proofs.close.Goals as goal

pub returns-then-script-p : goal.returns-then-script-p
returns-then-script-p c = rw c.finished.ensures (closed_end c.requires c.if-script-p.true)

pub returns : goal.returns
returns c =
    rw c.finished-2.ensures (closed_broken c.requires (omega arith) c.put_broken.result c.put_broken.new.out (rw c.from-number.ensures at c.put_broken.ensures.puts) (omega arith))
