-- One tick of the timer.
use mathlib.Core.Path.{◌∙◌}
use Rattle.rules.specs.Events.{tick_call}
use Rattle.lines.proofs.ticks.tick.Goals as goal

pub returns-clause-answer : goal.returns-clause-answer
unfolding tick_call
returns-clause-answer c = c.ticked.ensures.answer ∙ simp c.tick.ensures
