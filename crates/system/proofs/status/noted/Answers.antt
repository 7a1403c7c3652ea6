-- By the profile.
use mathlib.Core.Path.{◌∙◌, sym}
use Rattle.rules.specs.Events.{noted}
use Rattle.system.proofs.status.noted.Goals as goal

pub returns-then-is_armv6m : goal.returns-then-is_armv6m
unfolding noted
returns-then-is_armv6m c = simp (sym c.is_armv6m.ensures ∙ c.if-is_armv6m.true)

pub returns : goal.returns
unfolding noted
returns c = simp (sym c.is_armv6m.ensures ∙ c.if-is_armv6m.false)
