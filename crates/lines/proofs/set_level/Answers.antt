-- By the definition's own test.
use mathlib.Core.Path.{◌∙◌, sym}
use Rattle.rules.specs.Events.{levelled}
use Rattle.lines.proofs.set_level.Goals as goal

pub returns-then-rises-clause-levels : goal.returns-then-rises-clause-levels
unfolding levelled
returns-then-rises-clause-levels c = simp (c.store-then-rises.ensures, c.store.ensures, sym c.rises.ensures ∙ c.if-rises.true)

pub returns-clause-levels : goal.returns-clause-levels
unfolding levelled
returns-clause-levels c = simp (c.store-2.ensures, sym c.rises.ensures ∙ c.if-rises.false)
