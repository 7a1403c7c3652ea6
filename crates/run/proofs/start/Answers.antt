-- The fresh state is sound, and the script from offset 0 on is the whole script.
use Rattle.rules.specs.Chip.{chip55}
use Rattle.rules.specs.Model.{fresh}
use Rattle.pieces.proofs.Joined.{started_usable, started_rest}
use Rattle.run.proofs.start.Goals as goal

pub returns-clause-usable : goal.returns-clause-usable
unfolding fresh
returns-clause-usable c = rw c.fresh.ensures (started_usable chip55)

pub returns-clause-text : goal.returns-clause-text
unfolding fresh
returns-clause-text c = rw c.fresh.ensures (λ script. started_rest chip55 script)
