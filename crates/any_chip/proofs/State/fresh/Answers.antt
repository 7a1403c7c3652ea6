-- The arrays by their repeats, the other parts by their own fresh values.
use mathlib.Core.Path.{ap, ◌∙◌}
use Rattle.rules.specs.Model.{fresh_core}
use Rattle.any_chip.proofs.View.{fresh_state}
use Rattle.any_chip.proofs.State.fresh.Goals as goal

pub returns : goal.returns
returns c = fresh_state c.args.setup _ (c.fresh_core.ensures ∙ ap fresh_core c.chip.ensures)
