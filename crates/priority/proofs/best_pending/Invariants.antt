-- After n steps the best of the first n is found.
use Rattle.std.proofs.Common.{◌≡◌}
use Rattle.grouping.specs.Grouping.{full_priority}
use Rattle.priority.specs.Priority.{eligible, best}
use Rattle.priority.proofs.best_pending.Given as goal

abbrev pub invariant-loop-n : goal.invariant-loop-n
invariant-loop-n l = l.found ≡ best (eligible l.p l.priority l.pending l.enabled l.limit) (full_priority l.priority) l.n
