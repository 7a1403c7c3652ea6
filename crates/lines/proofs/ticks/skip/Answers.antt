-- So many ticks move the timer, and nothing else but 15's pending flag (`skip_timer`).
use mathlib.Core.Path.{◌∙◌}
use Rattle.rules.specs.SkipLaws.{skip_timer}
use Rattle.lines.proofs.ticks.skip.Goals as goal

pub returns-clause-answer : goal.returns-clause-answer
returns-clause-answer c = c.ticked.ensures.answer ∙ simp (c.skip.ensures, skip_timer)
