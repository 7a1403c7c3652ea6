-- Each piece that agrees moves on in `want`; where the script has ended and `want` too, they are the same.
use Prim.Native.Nat.{◌-◌}
use mathlib.Core.Path.{◌≡◌}
use lib.ListN.{length}
use Rattle.pieces.proofs.Headway.{left}
use Rattle.rules.specs.Chip.{chip55}
use Rattle.model.specs.View.{model}
use Rattle.run.specs.Progress.{course}
use Rattle.vectors.proofs.Laws.{Judging}
use Rattle.vectors.proofs.first_difference.Given as goal

abbrev pub invariant-loop-progress : goal.invariant-loop-progress
invariant-loop-progress l = (65536 ≡ length l.out) × Judging chip55 l.script l.want (model l.progress.state) (course l.progress) l.at

abbrev pub decreases-loop-progress : goal.decreases-loop-progress
decreases-loop-progress l = left l.progress.ended (length l.script - l.progress.at)
