-- The state's arrays are lent whole, and its core with them.
use Rattle.pieces.proofs.Beside.{ran_beside}
use Rattle.run.proofs.run_some.Goals as goal

pub returns : goal.returns
returns c = ran_beside c.run_some-r.ensures.ran
