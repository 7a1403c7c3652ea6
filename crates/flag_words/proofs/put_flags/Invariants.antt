-- What is left of the word, put on the flags as they are now, gives what the whole word gives; it ends with the word or the flags.
use Prim.Native.Nat.{◌+◌, ◌-◌, ◌^◌, ◌<◌}
use mathlib.Core.Path.{◌≡◌}
use Rattle.flag_words.specs.Flags.{put_flags}
use Rattle.flag_words.proofs.put_flags.Given as goal

abbrev pub invariant-loop-i : goal.invariant-loop-i
invariant-loop-i l = (l.w < 2 ^ (l.at + 32 - l.i)) × (put_flags l.value (l.at + 32 - l.i) l.flags l.i l.w ≡ put_flags l.value 32 l.initial.flags l.at l.word)
