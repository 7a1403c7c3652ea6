-- As `first_difference`; the chip is that of the progress before the loop, since the setup stays.
use Prim.Native.Nat.{◌-◌}
use mathlib.Core.Path.{◌≡◌}
use lib.ListN.{length}
use Rattle.pieces.proofs.Headway.{left}
use Rattle.any_chip.specs.View.{model}
use Rattle.any_run.specs.Progress.{chip, course}
use Rattle.vectors.proofs.Laws.{Judging}
use Rattle.vectors.proofs.first_difference_on.Given as goal

abbrev pub invariant-loop-progress : goal.invariant-loop-progress
invariant-loop-progress l = (65536 ≡ length l.out) × (l.progress.state.setup ≡ l.initial.progress.state.setup) × Judging (chip l.initial.progress) l.script l.want (model l.progress.state) (course l.progress) l.at

abbrev pub decreases-loop-progress : goal.decreases-loop-progress
decreases-loop-progress l = left l.progress.ended (length l.script - l.progress.at)
