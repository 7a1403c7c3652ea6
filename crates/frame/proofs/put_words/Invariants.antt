-- The words put so far stand at the front; the rest is as it was, and nothing is left of it at the end.
use Prim.Native.Nat.{◌*◌}
use mathlib.Core.Path.{◌≡◌}
use mathlib.Core.List.{◌++◌}
use lib.ListN.{length, take, drop}
use Rattle.frame.specs.Frame.{frame_bytes}
use Rattle.frame.proofs.put_words.Given as goal

abbrev pub invariant-loop-k : goal.invariant-loop-k
invariant-loop-k l = (length l.words ≡ 8) × ((length l.part ≡ 32) × (l.part ≡ frame_bytes (take l.k l.words) ++ drop (4 * l.k) l.initial.part))
