-- The refusal of a level event, or the count.
use borrow.Author.Tests.{le-leb, lt-leb}
use Rattle.rules.specs.Events.{lost_call}
use Rattle.pulses.proofs.lost.Goals as goal

pub returns-then-chip-line : goal.returns-then-chip-line
unfolding lost_call
returns-then-chip-line c = simp (le-leb _ _ c.if-chip-line.true)

pub returns : goal.returns
unfolding lost_call
returns c = simp (c.accepted.ensures, c.at_or.ensures, lt-leb _ _ c.if-chip-line.false)
