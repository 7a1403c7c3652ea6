-- The loop has tested the regions passed.
use mathlib.Core.Path.{◌≡◌}
use lib.ListN.{length}
use Rattle.bools.specs.Every.{every}
use Rattle.mpu.specs.Soundness.{region_kept}
use Rattle.mpu.proofs.regions_kept.Given as goal

abbrev pub invariant-loop-base : goal.invariant-loop-base
invariant-loop-base l = l.ok ≡ every (region_kept l.edition l.bases l.attributes) (length l.yielded)
