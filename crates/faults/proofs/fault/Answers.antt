-- One that is no listed bit is refused by 7.
use mathlib.Core.Path.{◌∙◌, sym}
use mir.Facts.{to_z-of_z}
use Rattle.rules.specs.Events.{fault_at}
use Rattle.faults.proofs.Laws.{fault_bounds}
use Rattle.faults.proofs.fault.Goals as goal

pub fault_at-requires : goal.fault_at-requires
fault_at-requires c = fault_bounds _ _ (sym c.fault_exception-found.ensures ∙ c.in-Some.is)

pub returns-in-Some-clause-answer : goal.returns-in-Some-clause-answer
unfolding fault_at
returns-in-Some-clause-answer c = c.fault_at.ensures.answer ∙ simp (to_z-of_z c.ranges.limit, sym c.fault_exception-found.ensures ∙ c.in-Some.is)

pub returns-in-None-clause-answer : goal.returns-in-None-clause-answer
unfolding fault_at
returns-in-None-clause-answer c = simp (sym c.fault_exception-found.ensures ∙ c.in-None.is)
