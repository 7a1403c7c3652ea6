-- Only a rise that is lost counts.
use mathlib.Core.Path.{sym, ◌∙◌}
use Rattle.rules.specs.Events.{counted}
use Rattle.pulses.proofs.count.Goals as goal

pub returns-then-loses_rise-clause-counts : goal.returns-then-loses_rise-clause-counts
unfolding counted
returns-then-loses_rise-clause-counts c = simp (c.one_more.ensures, sym c.loses_rise.ensures ∙ c.if-loses_rise.true)

pub returns-else-loses_rise-clause-counts : goal.returns-else-loses_rise-clause-counts
unfolding counted
returns-else-loses_rise-clause-counts c = simp (sym c.loses_rise.ensures ∙ c.if-loses_rise.false)
