-- A line or a level out of range is refused; any other goes to the level, once a rise that finds it pending is counted.
use borrow.Author.Tests.{le-leb, lt-leb, lt-ltb, le-ltb}
use mathlib.Core.Path.{◌∙◌, ap}
use Rattle.rules.specs.Model.{done}
use Rattle.rules.specs.Events.{levelled, line_call}
use Rattle.lines.proofs.Laws.{levelled_lost}
use Rattle.lines.proofs.line.Goals as goal

pub returns-then-chip-line-clause-answer : goal.returns-then-chip-line-clause-answer
unfolding line_call
returns-then-chip-line-clause-answer c = simp (le-leb _ _ c.if-chip-line.true)

pub returns-then-to-gt1-clause-answer : goal.returns-then-to-gt1-clause-answer
unfolding line_call
returns-then-to-gt1-clause-answer c = simp (lt-leb _ _ c.if-chip-line.false, lt-ltb _ _ c.if-to-gt1.true)

pub returns-clause-answer : goal.returns-clause-answer
unfolding line_call
returns-clause-answer c =
    simp (c.accepted.ensures, lt-leb _ _ c.if-chip-line.false, le-ltb _ _ c.if-to-gt1.false)
    (ap (done 0) (c.set_level.ensures.levels ∙ ap (levelled _ _) c.count.ensures.counts ∙ levelled_lost _ _ _ _))
