-- After i of the oldest the answer is that of these i.
use mathlib.Core.Path.{◌≡◌}
use Rattle.rules.specs.Sound.{all_distinct}
use Rattle.rules.specs.Model.{down}
use Rattle.soundness.proofs.nest.are_distinct.Given as goal

abbrev pub invariant-loop-i : goal.invariant-loop-i
invariant-loop-i l = l.ok ≡ all_distinct (down l.nest l.i)
