-- Each piece that agrees moves on in `want`; where the script has ended and `want` too, they are the same.
use native.Mathlib.Omega.{arith}
use Rattle.numbers.specs.NumberLaws.{Bytes}
use Rattle.pieces.proofs.Headway.{left_falls, headway}
use Rattle.vectors.proofs.Laws.{judging_next, judged}
use borrow.Author.Rules.{rules}
use Rattle.vectors.proofs.first_difference.Goals as goal

pub loop-progress-smaller : goal.loop-progress-smaller
loop-progress-smaller c =
    let small : Bytes c.args.script.now = λ i. omega (arith, c.type_inv.script i) in
    left_falls c.loop-progress.progress.ended c.run_some-progress.result.ended _ _ _ c.loop-progress-test.true (headway small c.run_some-progress.ensures (omega (arith, c.loop-progress.invariant.0)))

pub loop-progress-preserved : goal.loop-progress-preserved
loop-progress-preserved c =
    let small : Bytes c.args.script.now = λ i. omega (arith, c.type_inv.script i) in
    (search rules, judging_next c.loop-progress.invariant.1 small c.run_some-progress.ensures c.agreeing-same.ensures c.if-same-wrote.false)

pub returns : goal.returns
returns c = λ _. judged c.loop-progress.invariant.1 c.loop-progress-test.false c.if-at-want.false
