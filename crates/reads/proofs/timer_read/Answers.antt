-- The timer alone changes.
use Rattle.rules.specs.Reads.{after_read}
use Rattle.reads.proofs.timer_read.Goals as goal

pub returns-clause-reads : goal.returns-clause-reads
unfolding after_read
returns-clause-reads c = simp c.timer_read-state.ensures
