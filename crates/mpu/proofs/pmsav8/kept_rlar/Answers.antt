-- The mask is taken apart into the two fields that it keeps.
use Rattle.mpu.proofs.Laws.{rlar_mask}
use Rattle.mpu.proofs.pmsav8.kept_rlar.Goals as goal

pub returns : goal.returns
returns c = rlar_mask _
