-- The definition's tests in its order.
use mathlib.Core.Path.{◌∙◌, sym}
use Rattle.rules.specs.Registers.{access_refusal}
use Rattle.map.proofs.checks.access_refusal.Goals as goal

pub returns-then-not-is_width : goal.returns-then-not-is_width
unfolding access_refusal
returns-then-not-is_width c = simp (sym c.is_width.ensures ∙ c.if-not-is_width.true)

pub returns-then-not-is_aligned : goal.returns-then-not-is_aligned
unfolding access_refusal
returns-then-not-is_aligned c = simp (sym c.is_width.ensures ∙ c.if-not-is_width.false, sym c.is_aligned.ensures ∙ c.if-not-is_aligned.true)

pub returns-then-not-allowed : goal.returns-then-not-allowed
unfolding access_refusal
returns-then-not-allowed c =
    simp (sym c.is_width.ensures ∙ c.if-not-is_width.false, sym c.is_aligned.ensures ∙ c.if-not-is_aligned.false, c.if-not-allowed.true)

pub returns : goal.returns
unfolding access_refusal
returns c =
    c.width_refusal.ensures
    ∙ simp (sym c.is_width.ensures ∙ c.if-not-is_width.false, sym c.is_aligned.ensures ∙ c.if-not-is_aligned.false, c.if-not-allowed.false)
