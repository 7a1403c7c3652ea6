-- As `first_difference`; the chip is that of the progress before the loop, since the setup stays.
use mathlib.Core.Path.{ap, ◌∙◌}
use native.Mathlib.Omega.{arith}
use Rattle.numbers.specs.NumberLaws.{Bytes}
use Rattle.pieces.proofs.Headway.{left_falls, headway}
use Rattle.rules.specs.declared.Chip.{Chip}
use Rattle.text.specs.Text.{text_of}
use Rattle.any_run.specs.Progress.{chip}
use Rattle.vectors.proofs.Laws.{judging_next, judged, ran_on}
use borrow.Author.Rules.{rules}
use Rattle.vectors.proofs.first_difference_on.Goals as goal

pub loop-progress-smaller : goal.loop-progress-smaller
loop-progress-smaller c =
    let small : Bytes c.args.script.now = λ i. omega (arith, c.type_inv.script i) in
    left_falls c.loop-progress.progress.ended c.run_some-progress.result.ended _ _ _ c.loop-progress-test.true (headway small c.run_some-progress.ensures.piece (omega (arith, c.loop-progress.invariant.0)))

pub loop-progress-preserved : goal.loop-progress-preserved
loop-progress-preserved c =
    let small : Bytes c.args.script.now = λ i. omega (arith, c.type_inv.script i) in
    (search rules, c.run_some-progress.ensures.setup ∙ c.loop-progress.invariant.1, judging_next c.loop-progress.invariant.2 small (ran_on c.loop-progress.invariant.1 c.run_some-progress.ensures) c.agreeing-same.ensures c.if-same-wrote.false)

pub returns : goal.returns
returns c =
    λ _. judged c.loop-progress.invariant.2 c.loop-progress-test.false c.if-at-want.false
    ∙ ap (λ (k : Chip). text_of k c.args.script.now) (ap chip c.start-progress.ensures.value)
