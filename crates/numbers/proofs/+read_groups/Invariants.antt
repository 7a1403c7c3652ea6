-- The groups left to read fall, and the definition has the same cases at a count that is not 0.
use Rattle.numbers.proofs.+read_groups.Given as goal

abbrev pub decreases-read_groups : goal.decreases-read_groups
decreases-read_groups l = l.left
