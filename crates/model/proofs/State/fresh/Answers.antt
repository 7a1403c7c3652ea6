-- The arrays by their repeats, the other parts by their own fresh values.
use Rattle.rules.specs.Model.{fresh}
use Rattle.model.proofs.State.fresh.Goals as goal

pub returns : goal.returns
unfolding fresh
returns c = simp c.fresh_core.ensures
