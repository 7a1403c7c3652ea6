-- The definition is the scan over the places that the view has.
use mathlib.Core.Path.{◌∙◌, ap}
use mir.Facts.{to_z-of_z}
use Rattle.rules.specs.Priorities.{execution}
use Rattle.places.specs.declared.Reach.{Reach}
use Rattle.any_chip.specs.View.{first_places}
use borrow.Author.Rules.{rules}
use mir.Syntax.{w32}
use Rattle.any_chip.proofs.State.execution_priority.Goals as goal

pub returns : goal.returns
unfolding execution
returns c =
    to_z-of_z {w = w32} (search rules) ∙ c.execution_priority.ensures ∙ ap (λ (r : Reach). execution (first_places r c.args.self)) c.reached-reach.ensures.value
