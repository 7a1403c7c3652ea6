-- The loop has tested the words passed.
use mathlib.Core.Path.{◌≡◌}
use Rattle.bools.specs.Every.{every}
use Rattle.mpu.specs.Unused.{zero_at}
use Rattle.mpu.proofs.all_clear.Given as goal

abbrev pub invariant-loop-word : goal.invariant-loop-word
invariant-loop-word l = l.ok ≡ every (zero_at l.words) l.word-index
