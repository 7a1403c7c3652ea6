-- With room for a line each call ends the script or moves on in it (`headway` of `pieces`), so the loop ends.
use Prim.Native.Nat.{◌-◌}
use mathlib.Core.Path.{◌≡◌}
use lib.ListN.{length}
use Rattle.pieces.proofs.Headway.{left}
use Rattle.bench.proofs.run_all.Given as goal

abbrev pub invariant-loop-progress : goal.invariant-loop-progress
invariant-loop-progress l = 65536 ≡ length l.out

abbrev pub decreases-loop-progress : goal.decreases-loop-progress
decreases-loop-progress l = left l.progress.ended (length l.script - l.progress.at)
