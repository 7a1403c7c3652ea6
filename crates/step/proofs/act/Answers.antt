-- One arm a kind.
use Rattle.step.proofs.Laws.{enterable}
use Rattle.step.proofs.act.Goals as goal

pub entry-requires : goal.entry-requires
entry-requires c = enterable c.requires
