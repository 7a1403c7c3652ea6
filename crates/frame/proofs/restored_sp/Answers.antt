-- Without the flag, without the mark, or with both.
use mathlib.Core.Path.{sym, ◌∙◌}
use Rattle.frame.specs.Frame.{restored_sp}
use Rattle.frame.proofs.restored_sp.Goals as goal

pub returns-then-not-align : goal.returns-then-not-align
unfolding restored_sp
returns-then-not-align c = simp c.if-not-align.true

pub returns-then-not-test_bit : goal.returns-then-not-test_bit
unfolding restored_sp
returns-then-not-test_bit c = simp (c.if-not-align.false, sym c.test_bit.ensures ∙ c.if-not-test_bit.true)

pub returns : goal.returns
unfolding restored_sp
returns c = c.set_bit.ensures ∙ simp (c.if-not-align.false, sym c.test_bit.ensures ∙ c.if-not-test_bit.false)
