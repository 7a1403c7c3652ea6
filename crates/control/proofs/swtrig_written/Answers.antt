-- By the definition's own test.
use mathlib.Core.Path.{◌∙◌}
use borrow.Author.Tests.{le-ltb, lt-ltb}
use Rattle.rules.specs.Writes.{swtrig_written}
use Rattle.control.proofs.swtrig_written.Goals as goal

pub returns-then-line-chip : goal.returns-then-line-chip
unfolding swtrig_written
returns-then-line-chip c = c.store.ensures ∙ simp (rw c.field-line.ensures at (lt-ltb _ _ c.if-line-chip.true), c.field-line.ensures)

pub returns-else-line-chip : goal.returns-else-line-chip
unfolding swtrig_written
returns-else-line-chip c = simp (rw c.field-line.ensures at (le-ltb _ _ c.if-line-chip.false))
