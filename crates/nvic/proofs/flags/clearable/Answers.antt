-- The word to clear, call by call.
use mathlib.Core.Path.{◌∙◌}
use Rattle.rules.specs.Writes.{clearable}
use Rattle.nvic.proofs.flags.clearable.Goals as goal

pub returns : goal.returns
unfolding clearable
returns c = c.clear_ones.ensures ∙ simp (c.clear_ones-held.ensures, c.flags_word.ensures, c.flags_word-high.ensures)
