-- Only a read of the timer changes anything.
use Rattle.rules.specs.Reads.{after_read}
use Rattle.reads.proofs.after_read.Goals as goal

pub returns-in-Missing-clause-reads : goal.returns-in-Missing-clause-reads
unfolding after_read
returns-in-Missing-clause-reads c = simp c.in-Missing.is

pub returns-in-Flags-clause-reads : goal.returns-in-Flags-clause-reads
unfolding after_read
returns-in-Flags-clause-reads c = simp c.in-Flags.is

pub returns-in-Priority-clause-reads : goal.returns-in-Priority-clause-reads
unfolding after_read
returns-in-Priority-clause-reads c = simp c.in-Priority.is

pub returns-in-System-clause-reads : goal.returns-in-System-clause-reads
unfolding after_read
returns-in-System-clause-reads c = simp c.in-System.is

pub returns-in-Guard-clause-reads : goal.returns-in-Guard-clause-reads
unfolding after_read
returns-in-Guard-clause-reads c = simp c.in-Guard.is

pub returns-in-Constant-clause-reads : goal.returns-in-Constant-clause-reads
unfolding after_read
returns-in-Constant-clause-reads c = simp c.in-Constant.is
