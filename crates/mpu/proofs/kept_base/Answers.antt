-- The mask is 2 ^ 32 - 2 ^ 5, which keeps bits 31:5.
use lib.Bits.{and_high}
use Rattle.mpu.specs.Registers.{kept_base}
use Rattle.mpu.proofs.kept_base.Goals as goal

pub returns : goal.returns
unfolding kept_base
returns c = and_high _ 27 5
