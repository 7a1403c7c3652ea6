-- Term by term.
use Rattle.rules.specs.Reads.{intctrl_value}
use Rattle.control.proofs.intctrl_value.Goals as goal

pub returns : goal.returns
unfolding intctrl_value
returns c = simp (c.weighed-2.ensures.0, c.weighed.ensures.0, c.any_flag.ensures, c.shown-3.ensures.0, c.shown-2.ensures.0, c.shown.ensures.0)
