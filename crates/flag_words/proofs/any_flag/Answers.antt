-- After k flags from `at` on the answer is `some_flag` of these k; the loop ends where k is all that the slice has.
use Prim.Native.Nat.{suc, ◌+◌, ◌-◌}
use mathlib.Core.Path.{◌≡◌}
use native.Mathlib.Omega.{arith}
use Rattle.std.proofs.Math.Bool.{or_comm}
use Rattle.flag_words.specs.Flags.{some_flag}
use Rattle.flag_words.proofs.any_flag.Goals as goal

pub loop-i-init : goal.loop-i-init
unfolding some_flag
loop-i-init c =
    let e : c.args.at - c.args.at ≡ 0 = omega arith in
    (omega arith, rw e)

pub loop-i-preserved : goal.loop-i-preserved
unfolding some_flag
loop-i-preserved c =
    let e : c.loop-i.i + 1 - c.args.at ≡ suc (c.loop-i.i - c.args.at) = omega arith in
    let f : c.args.at + (c.loop-i.i - c.args.at) ≡ c.loop-i.i = omega arith in
    (omega arith, rw or_comm (simp (e, f, c.loop-i.invariant.1)))
