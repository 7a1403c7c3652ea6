-- One active exception that is not nested decides; else all are tried.
use mathlib.Core.Path.{◌≡◌}
use mathlib.Core.Bool.{true}
use Rattle.rules.specs.Model.{down}
use Rattle.bools.specs.Every.{every}
use Rattle.rules.specs.Sound.{nested_sound}
use Rattle.soundness.proofs.nest.active_nested.Given as goal

abbrev pub invariant-loop-n : goal.invariant-loop-n
invariant-loop-n l = every (nested_sound l.active (down l.nest l.depth)) l.n ≡ true
