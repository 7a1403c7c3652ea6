-- Test by test in the definition's order.
use mathlib.Core.Path.{sym, ◌∙◌}
use borrow.Author.Tests.{eq-eqb, ne_eqb}
use Rattle.frame.specs.Frame.{unstack_fits}
use Rattle.frame.proofs.unstack_fits.Goals as goal

pub returns-then-sp-ne0 : goal.returns-then-sp-ne0
unfolding unstack_fits
returns-then-sp-ne0 c = simp (ne_eqb _ _ c.if-sp-ne0.true)

pub returns-then-not-holds_frame : goal.returns-then-not-holds_frame
unfolding unstack_fits
returns-then-not-holds_frame c = simp (eq-eqb _ _ c.if-sp-ne0.false, sym c.holds_frame.ensures ∙ c.if-not-holds_frame.true)

pub returns : goal.returns
unfolding unstack_fits
returns c = simp (eq-eqb _ _ c.if-sp-ne0.false, sym c.holds_frame.ensures ∙ c.if-not-holds_frame.false)
