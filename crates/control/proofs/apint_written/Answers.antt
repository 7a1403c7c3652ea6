-- By the definition's own test.
use mathlib.Core.Path.{◌∙◌}
use borrow.Author.Tests.{eq-eqb, ne_eqb}
use Rattle.rules.specs.Writes.{apint_written}
use Rattle.control.proofs.apint_written.Goals as goal

pub returns-then-field-eq1530 : goal.returns-then-field-eq1530
unfolding apint_written
returns-then-field-eq1530 c = c.field-then-field-eq1530.ensures ∙ simp (rw c.field.ensures at (eq-eqb _ _ c.if-field-eq1530.true))

pub returns : goal.returns
unfolding apint_written
returns c = simp (rw c.field.ensures at (ne_eqb _ _ c.if-field-eq1530.false))
