-- The top of a nest of bytes is a byte.
use mathlib.Core.Path.{◌∙◌}
use Rattle.rules.specs.Reads.{shows_base}
use Rattle.reads.proofs.intctrl_value.Goals as goal

pub returns : goal.returns
unfolding shows_base
returns c = c.intctrl_value.ensures ∙ simp (c.newest.ensures.0, c.both-base.ensures, c.is_armv6m.ensures)
