-- The three pairs in the definition's order.
use mathlib.Core.Path.{◌∙◌}
use Rattle.rules.specs.Writes.{intctrl_written}
use Rattle.control.proofs.intctrl_written.Goals as goal

pub returns : goal.returns
unfolding intctrl_written
returns c = c.set_or_clear-3.ensures ∙ simp (c.test_bit-5.ensures, c.test_bit-4.ensures, c.set_or_clear-2.ensures, c.test_bit-3.ensures, c.test_bit-2.ensures, c.set_or_clear.ensures, c.test_bit.ensures)
