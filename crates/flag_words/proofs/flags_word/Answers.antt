-- From the end down, the word so far is the word of the flags from `i` on.
use Prim.Native.Nat.{◌-◌}
use mathlib.Core.Path.{sym}
use native.Mathlib.Omega.{arith}
use Rattle.flag_words.specs.Flags.{on}
use Rattle.bits.specs.WordLaws.{bit_le}
use Rattle.flag_words.specs.FlagLaws.{word_past_end}
use Rattle.flag_words.proofs.Laws.{word_at_end, word_step, rest_lt}
use Rattle.flag_words.proofs.flags_word.Goals as goal

pub returns-then-flags-at : goal.returns-then-flags-at
returns-then-flags-at c = sym (word_past_end c.args.flags.now c.args.at 32 c.if-flags-at.true)

pub loop-i-init : goal.loop-i-init
loop-i-init c = (omega arith, (omega arith, rw c.end_of-i.ensures (sym (word_at_end c.args.flags.now c.args.at))))

pub overflow_mul-word : goal.overflow_mul-word
overflow_mul-word c = omega (arith, rest_lt c.args.flags.now c.args.at c.loop-i.i (omega arith))

pub overflow_add-word : goal.overflow_add-word
overflow_add-word c = omega (arith, rest_lt c.args.flags.now c.args.at c.loop-i.i (omega arith), bit_le (on c.args.flags.now (c.loop-i.i - 1)))

pub loop-i-preserved : goal.loop-i-preserved
loop-i-preserved c =
    let step = word_step c.args.flags.now c.args.at c.loop-i.i (omega arith) c.loop-i.invariant.1.0 in
    (omega arith, (omega arith, rw (c.bit_of.ensures, c.loop-i.invariant.1.1) (sym step)))
