-- The three flags in the definition's order.
use mathlib.Core.Path.{◌∙◌}
use Rattle.rules.specs.Writes.{syshndctrl_written}
use Rattle.control.proofs.syshndctrl_written.Goals as goal

pub returns : goal.returns
unfolding syshndctrl_written
returns c = c.store-3.ensures ∙ simp (c.test_bit-3.ensures, c.store-2.ensures, c.test_bit-2.ensures, c.store.ensures, c.test_bit.ensures)
