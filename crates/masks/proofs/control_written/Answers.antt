-- By the definition's own test.
use Rattle.rules.specs.Events.{control_written}
use Rattle.masks.proofs.control_written.Goals as goal

pub returns-then-thread : goal.returns-then-thread
unfolding control_written
returns-then-thread c = simp (c.test_bit-then-thread.ensures, c.if-thread.true, c.both.ensures, c.test_bit.ensures, c.is_armv6m.ensures)

pub returns : goal.returns
unfolding control_written
returns c = simp (c.if-thread.false, c.both.ensures, c.test_bit.ensures, c.is_armv6m.ensures)
