-- One byte that fails decides; else all are tried.
use mathlib.Core.Path.{◌≡◌}
use mathlib.Core.Bool.{true}
use Rattle.bools.specs.Every.{every}
use Rattle.rules.specs.Sound.{byte_sound}
use Rattle.soundness.proofs.bytes.low_bytes_sound.Given as goal

abbrev pub invariant-loop-n : goal.invariant-loop-n
invariant-loop-n l = every (byte_sound l.chip l.priority) l.n ≡ true
