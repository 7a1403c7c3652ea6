-- From the end down, the word so far is the word of the flags from `i` on.
use Prim.Native.Nat.{◌+◌, ◌-◌, ◌≤◌}
use mathlib.Core.Path.{◌≡◌}
use Rattle.flag_words.specs.Flags.{word_of}
use Rattle.flag_words.proofs.flags_word.Given as goal

abbrev pub invariant-loop-i : goal.invariant-loop-i
invariant-loop-i l = (l.at ≤ l.i) × ((l.i ≤ l.at + 32) × (l.word ≡ word_of l.flags l.i (l.at + 32 - l.i)))
