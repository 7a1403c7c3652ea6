-- Test by test in the definition's order.
use mathlib.Core.Path.{◌∙◌}
use borrow.Author.Tests.{eq-eqb, ne_eqb, le-leb, lt-leb}
use Rattle.frame.specs.Frame.{stack_fits}
use Rattle.frame.proofs.stack_fits.Goals as goal

pub returns-then-sp-ne0 : goal.returns-then-sp-ne0
unfolding stack_fits
returns-then-sp-ne0 c = simp (ne_eqb _ _ c.if-sp-ne0.true)

pub returns-then-sp-lt32 : goal.returns-then-sp-lt32
unfolding stack_fits
returns-then-sp-lt32 c = simp (eq-eqb _ _ c.if-sp-ne0.false, lt-leb _ _ c.if-sp-lt32.true)

pub returns : goal.returns
unfolding stack_fits
returns c =
    c.holds_frame.ensures
    ∙ simp (eq-eqb _ _ c.if-sp-ne0.false, le-leb _ _ c.if-sp-lt32.false, c.frame_at.ensures)
