-- The mask is taken apart into the four fields that it keeps.
use Rattle.mpu.proofs.Laws.{attribute_mask}
use Rattle.mpu.proofs.kept_attributes.Goals as goal

pub returns : goal.returns
returns c = attribute_mask _
