-- After i of the oldest the answer is that of these i.
use mathlib.Core.Path.{◌≡◌}
use Rattle.rules.specs.Chip.{is_in}
use Rattle.rules.specs.Model.{down}
use Rattle.soundness.proofs.nest.is_nested.Given as goal

abbrev pub invariant-loop-i : goal.invariant-loop-i
invariant-loop-i l = l.found ≡ is_in l.n (down l.nest l.i)
