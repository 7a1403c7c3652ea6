-- After n steps the least of the first n is known.
use Rattle.std.proofs.Common.{◌≡◌}
use Rattle.priority.specs.Priority.{least_active}
use Rattle.priority.proofs.least_active.Given as goal

abbrev pub invariant-loop-n : goal.invariant-loop-n
invariant-loop-n l = l.least ≡ least_active l.p l.priority l.active l.n
