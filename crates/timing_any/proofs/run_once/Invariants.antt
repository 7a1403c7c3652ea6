-- An event that is read ends past its start, so less of the script is left after it.
use Rattle.std.proofs.Common.{◌-◌, length}
use Rattle.timing_any.proofs.run_once.Given as goal

abbrev pub invariant-loop-at : goal.invariant-loop-at
invariant-loop-at l = Unit {0}

abbrev pub decreases-loop-at : goal.decreases-loop-at
decreases-loop-at l = length l.script - l.at
