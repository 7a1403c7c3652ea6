-- The loop has tested the words passed.
use mathlib.Core.Path.{refl}
use native.Mathlib.Numerals.{add-one}
use Rattle.std.proofs.Math.Bool.{and_comm}
use Rattle.bools.specs.Every.{every}
use Rattle.mpu.specs.Unused.{zero_at}
use Rattle.mpu.proofs.all_clear.Goals as goal

pub loop-word-init : goal.loop-word-init
unfolding every
loop-word-init c = refl

pub loop-word-preserved : goal.loop-word-preserved
unfolding every zero_at
loop-word-preserved c = rw and_comm (simp (add-one, c.loop-word.invariant))
