-- The places below the depth are in use, and pass; after i of the nest the answer is that of these i. A nest that is shorter than the
-- depth has only places in use.
use Prim.Native.Nat.{◌+◌, ◌-◌, ◌≤◌}
use mathlib.Core.Path.{◌≡◌}
use lib.ListN.{length}
use Rattle.bools.specs.Every.{every}
use Rattle.rules.specs.Sound.{unused_sound}
use Rattle.soundness.proofs.nest.unused_sound.Given as goal

abbrev pub invariant-loop-i : goal.invariant-loop-i
invariant-loop-i l = (l.i ≤ l.depth + (length l.nest - l.depth)) × (l.ok ≡ every (unused_sound l.nest l.depth) l.i)
