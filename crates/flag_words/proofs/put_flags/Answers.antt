-- What is left of the word, put on the flags as they are now, gives what the whole word gives; it ends with the word or the flags.
use Prim.Native.Nat.{◌+◌, ◌-◌}
use mathlib.Core.Path.{◌≡◌, sym, ◌∙◌}
use native.Mathlib.Omega.{arith}
use Rattle.flag_words.specs.FlagLaws.{put_none, put_past_end}
use Rattle.flag_words.proofs.Laws.{put_step}
use Rattle.flag_words.proofs.put_flags.Goals as goal

pub loop-i-preserved : goal.loop-i-preserved
loop-i-preserved c =
    let k = c.args.at + 32 - c.loop-i.i in
    let s = put_step c.args.value k c.loop-i.flags c.loop-i.i c.loop-i.w c.loop-i.invariant.0 c.if-w-eq0.false in
    let e : k - 1 ≡ c.args.at + 32 - (c.loop-i.i + 1) = omega arith in
    (rw e at s.1.0, rw (c.put_flag.ensures, ← e) (sym s.1.1 ∙ c.loop-i.invariant.1))

pub returns-then-w-eq0 : goal.returns-then-w-eq0
returns-then-w-eq0 c =
    let e : c.loop-i.w ≡ 0 = omega arith in
    sym (put_none c.args.value _ c.loop-i.flags c.loop-i.i) ∙ rw e at c.loop-i.invariant.1

pub returns : goal.returns
returns c =
    sym (put_past_end c.args.value _ c.loop-i.flags c.loop-i.i c.loop-i.w (omega arith)) ∙ c.loop-i.invariant.1
