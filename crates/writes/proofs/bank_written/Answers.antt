-- Each bank by its own clause.
use Rattle.rules.specs.Writes.{bank_written}
use Rattle.writes.proofs.bank_written.Goals as goal

pub returns-in-EnableSet-clause-writes : goal.returns-in-EnableSet-clause-writes
unfolding bank_written
returns-in-EnableSet-clause-writes c = simp (c.set_flags.ensures, c.in-EnableSet.is)

pub returns-in-EnableClear-clause-writes : goal.returns-in-EnableClear-clause-writes
unfolding bank_written
returns-in-EnableClear-clause-writes c = simp (c.clear_flags.ensures, c.in-EnableClear.is)

pub returns-in-PendingSet-clause-writes : goal.returns-in-PendingSet-clause-writes
unfolding bank_written
returns-in-PendingSet-clause-writes c = simp (c.set_flags-in-PendingSet.ensures, c.in-PendingSet.is)

pub returns-in-PendingClear-clause-writes : goal.returns-in-PendingClear-clause-writes
unfolding bank_written
returns-in-PendingClear-clause-writes c = simp (c.clear_pending.ensures.clears, c.in-PendingClear.is)

pub returns-in-Active-clause-writes : goal.returns-in-Active-clause-writes
unfolding bank_written
returns-in-Active-clause-writes c = simp c.in-Active.is
