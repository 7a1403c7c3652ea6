-- The definition is the scan.
use mathlib.Core.Path.{◌∙◌}
use mir.Facts.{to_z-of_z}
use Rattle.rules.specs.Priorities.{execution}
use borrow.Author.Rules.{rules}
use mir.Syntax.{w32}
use Rattle.model.proofs.State.execution_priority.Goals as goal

pub returns : goal.returns
unfolding execution
returns c = to_z-of_z {w = w32} (search rules) ∙ c.execution_priority.ensures
