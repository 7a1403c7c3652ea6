-- The fresh state is sound, and the script from offset 0 on is the whole script.
use Rattle.pieces.proofs.Joined.{started_usable, started_rest}
use Rattle.pieces.proofs.start.Goals as goal

pub returns-clause-usable : goal.returns-clause-usable
returns-clause-usable c = rw c.fresh_core.ensures (started_usable c.args.chip)

pub returns-clause-text : goal.returns-clause-text
returns-clause-text c = rw c.fresh_core.ensures (λ script. started_rest c.args.chip script)
