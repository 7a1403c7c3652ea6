-- After i of the oldest the answer is that of these i.
use mathlib.Core.Path.{◌≡◌}
use Rattle.rules.specs.Sound.{all_on}
use Rattle.rules.specs.Model.{down}
use Rattle.soundness.proofs.nest.nested_active.Given as goal

abbrev pub invariant-loop-i : goal.invariant-loop-i
invariant-loop-i l = l.ok ≡ all_on l.active (down l.nest l.i)
