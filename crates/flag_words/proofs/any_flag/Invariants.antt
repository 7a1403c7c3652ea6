-- After k flags from `at` on the answer is `some_flag` of these k; the loop ends where k is all that the slice has.
use Prim.Native.Nat.{◌≤◌, ◌-◌}
use mathlib.Core.Path.{◌≡◌}
use lib.ListN.{length}
use Rattle.flag_words.specs.Flags.{some_flag}
use Rattle.flag_words.proofs.any_flag.Given as goal

abbrev pub invariant-loop-i : goal.invariant-loop-i
invariant-loop-i l = (l.i - l.at ≤ length l.flags - l.at) × (l.any ≡ some_flag l.flags l.at (l.i - l.at))
