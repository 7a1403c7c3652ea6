-- After so many steps the least of the first so many is known.
use Rattle.std.proofs.Common.{◌≡◌}
use Rattle.priority.specs.Priority.{least_nested}
use Rattle.priority.proofs.least_nested.Given as goal

abbrev pub invariant-loop-n : goal.invariant-loop-n
invariant-loop-n l = l.least ≡ least_nested l.p l.priority l.nest l.n-index
