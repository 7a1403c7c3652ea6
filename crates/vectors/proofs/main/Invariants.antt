-- No more vectors agree than were run, and no more are run than there are pairs.
use Rattle.std.proofs.Common.{◌≤◌}
use Rattle.vectors.proofs.main.Given as goal

abbrev pub invariant-loop-k : goal.invariant-loop-k
invariant-loop-k l = (l.vectors ≤ l.k) × (l.agreed ≤ l.vectors)
