-- With room for a line each call ends the script or moves on in it (`headway` of `pieces`), so the loop ends.
use Prim.Native.Nat.{◌-◌}
use native.Mathlib.Omega.{arith}
use Rattle.numbers.specs.NumberLaws.{Bytes}
use Rattle.pieces.proofs.Headway.{left_falls, headway}
use Rattle.std.proofs.Common.{true}
use Rattle.simulate.proofs.run_all.Goals as goal

pub loop-progress-smaller : goal.loop-progress-smaller
loop-progress-smaller c =
    left_falls c.loop-progress.progress.ended c.run_some-progress.result.ended _ _ _ c.loop-progress-test.true (headway ((let h : Bytes c.args.script.now = λ i. omega (arith, c.type_inv.script i) in h)) c.run_some-progress.ensures.piece (omega (arith, c.loop-progress.invariant)))
