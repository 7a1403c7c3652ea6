-- The core that the state leaves is the course's.
use borrow.Author.Rules.{rules}
use Rattle.pieces.proofs.Beside.{ran_at, ran_beside}
use Rattle.any_run.proofs.run_on.Goals as goal

pub returns : goal.returns
returns c = ran_at (ran_beside c.run_some-r.ensures.ran) (search rules)
