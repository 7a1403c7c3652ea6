-- With the flag or without it.
use Rattle.frame.specs.Frame.{padded}
use mathlib.Core.Path.{◌∙◌}
use Rattle.frame.proofs.is_padded.Goals as goal

pub returns-then-align : goal.returns-then-align
unfolding padded
returns-then-align c = c.test_bit.ensures ∙ simp c.if-align.true

pub returns : goal.returns
unfolding padded
returns c = simp c.if-align.false
