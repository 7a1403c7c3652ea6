-- One clause a kind of register.
use mathlib.Core.Path.{◌∙◌}
use Rattle.rules.specs.Writes.{word_written}
use Rattle.writes.proofs.word_written.Goals as goal

pub returns-in-Missing-clause-writes : goal.returns-in-Missing-clause-writes
unfolding word_written
returns-in-Missing-clause-writes c = simp c.in-Missing.is

pub returns-in-Timer-clause-writes : goal.returns-in-Timer-clause-writes
unfolding word_written
returns-in-Timer-clause-writes c = simp (c.timer_written-state.ensures, c.in-Timer.is)

pub returns-in-Flags-clause-writes : goal.returns-in-Flags-clause-writes
unfolding word_written
returns-in-Flags-clause-writes c = c.bank_written.ensures.writes ∙ simp c.in-Flags.is

pub returns-in-Priority-clause-writes : goal.returns-in-Priority-clause-writes
unfolding word_written
returns-in-Priority-clause-writes c = simp (c.put_bytes.ensures, c.in-Priority.is)

pub returns-in-System-clause-writes : goal.returns-in-System-clause-writes
unfolding word_written
returns-in-System-clause-writes c = c.system_written.ensures.writes ∙ simp c.in-System.is

pub returns-in-Guard-clause-writes : goal.returns-in-Guard-clause-writes
unfolding word_written
returns-in-Guard-clause-writes c = simp (c.write-state.ensures, c.in-Guard.is)

pub returns-in-Constant-clause-writes : goal.returns-in-Constant-clause-writes
unfolding word_written
returns-in-Constant-clause-writes c = simp c.in-Constant.is
