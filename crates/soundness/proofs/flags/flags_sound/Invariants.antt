-- One flag that stands where it may not decides; from 16 on all are lines, where a flag may stand.
use mathlib.Core.Path.{◌≡◌}
use mathlib.Core.Bool.{true}
use Rattle.bools.specs.Every.{every}
use Rattle.rules.specs.Sound.{flag_sound}
use Rattle.soundness.proofs.flags.flags_sound.Given as goal

abbrev pub invariant-loop-n : goal.invariant-loop-n
invariant-loop-n l = every (flag_sound l.chip l.place l.flags) l.n ≡ true
