-- HardFault takes what escalates.
use mathlib.Core.Path.{◌∙◌, sym}
use mir.Facts.{to_z-of_z}
use Rattle.rules.specs.Events.{escalates, raised}
use Rattle.faults.proofs.raised.Goals as goal

pub returns-then-escalates-clause-answer : goal.returns-then-escalates-clause-answer
unfolding raised escalates
returns-then-escalates-clause-answer c =
    simp (c.accepted.ensures, c.store.ensures, c.noted-state.ensures, c.forced-forced.ensures, simp (to_z-of_z c.ranges.limit) at (sym c.escalates.ensures ∙ c.if-escalates.true))

pub returns-clause-answer : goal.returns-clause-answer
unfolding raised escalates
returns-clause-answer c = simp (c.accepted-2.ensures, c.store-2.ensures, c.noted-state-2.ensures, simp (to_z-of_z c.ranges.limit) at (sym c.escalates.ensures ∙ c.if-escalates.false))
