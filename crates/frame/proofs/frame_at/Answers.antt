-- With the flag or without it.
use Rattle.frame.specs.Frame.{frame_at}
use mathlib.Core.Path.{◌∙◌}
use Rattle.frame.proofs.frame_at.Goals as goal

pub returns-then-align : goal.returns-then-align
unfolding frame_at
returns-then-align c = c.clear_bit.ensures ∙ simp c.if-align.true

pub returns : goal.returns
unfolding frame_at
returns c = simp c.if-align.false
