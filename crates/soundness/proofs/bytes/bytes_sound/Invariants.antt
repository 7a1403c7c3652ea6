-- From 16 on each number is a line and has a byte: after n bytes the answer is that of these n.
use mathlib.Core.Path.{◌≡◌}
use Rattle.bools.specs.Every.{every}
use Rattle.rules.specs.Sound.{byte_sound}
use Rattle.soundness.proofs.bytes.bytes_sound.Given as goal

abbrev pub invariant-loop-n : goal.invariant-loop-n
invariant-loop-n l = l.ok ≡ every (byte_sound l.chip l.priority) l.n
