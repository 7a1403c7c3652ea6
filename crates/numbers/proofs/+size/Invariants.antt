-- The count falls with each group, and the definition has the same two cases.
use Rattle.numbers.proofs.+size.Given as goal

abbrev pub decreases-size : goal.decreases-size
decreases-size l = l.n
