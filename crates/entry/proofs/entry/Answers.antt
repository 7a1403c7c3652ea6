-- The one found is the best; where none is found, refusal 8.
use mathlib.Core.Path.{◌∙◌, sym}
use native.Mathlib.Omega.{arith}
use mir.Facts.{to_z-of_z}
use Rattle.priority.specs.Order.{flag_below}
use Rattle.priority.specs.Laws.{pending_best}
use Rattle.rules.specs.Nesting.{entry_at}
use Rattle.entry.proofs.entry.Goals as goal

pub enter-requires : goal.enter-requires
enter-requires c =
    let b = flag_below c.args.state.now.pending.now c.in-Some.n (pending_best c.args.state.now.core.group c.args.state.now.priority.now c.args.state.now.pending.now c.args.state.now.enabled.now c.args.limit c.in-Some.n (simp (to_z-of_z c.ranges.limit) at (sym c.chosen-found.ensures ∙ c.in-Some.is))).able.pends in
    (omega (arith, b, c.requires.0), c.requires.1)

pub returns-in-Some-clause-answer : goal.returns-in-Some-clause-answer
unfolding entry_at
returns-in-Some-clause-answer c = c.enter.ensures.answer ∙ simp (simp (to_z-of_z c.ranges.limit) at (sym c.chosen-found.ensures ∙ c.in-Some.is))

pub returns-in-None-clause-answer : goal.returns-in-None-clause-answer
unfolding entry_at
returns-in-None-clause-answer c = simp (simp (to_z-of_z c.ranges.limit) at (sym c.chosen-found.ensures ∙ c.in-None.is))
