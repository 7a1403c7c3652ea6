-- By the definition's own test.
use Rattle.rules.specs.Events.{faultmask_written}
use Rattle.masks.proofs.faultmask_written.Goals as goal

pub returns-then-negative : goal.returns-then-negative
unfolding faultmask_written
returns-then-negative c = simp (c.if-negative.true, c.if-b.true)

pub returns-else-negative : goal.returns-else-negative
unfolding faultmask_written
returns-else-negative c = simp (c.if-negative.false, c.if-b.true)

pub returns-else-b : goal.returns-else-b
unfolding faultmask_written
returns-else-b c = simp c.if-b.false
