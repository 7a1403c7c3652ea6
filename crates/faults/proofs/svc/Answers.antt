-- Locked at a negative priority, else raised.
use mathlib.Core.Path.{◌∙◌}
use mir.Facts.{to_z-of_z}
use Rattle.rules.specs.Events.{svc_at}
use Rattle.faults.proofs.svc.Goals as goal

pub returns-then-limit-lt0-clause-answer : goal.returns-then-limit-lt0-clause-answer
unfolding svc_at
returns-then-limit-lt0-clause-answer c = simp (simp (to_z-of_z c.ranges.limit) at c.if-limit-lt0.true)

pub returns-clause-answer : goal.returns-clause-answer
unfolding svc_at
returns-clause-answer c = c.raised.ensures.answer ∙ simp (to_z-of_z c.ranges.limit, simp (to_z-of_z c.ranges.limit) at c.if-limit-lt0.false)
