-- The end is tested as an offset, so that no sum can wrap.
use Rattle.frame.specs.Frame.{holds_frame}
use mathlib.Core.Path.{◌∙◌}
use borrow.Author.Tests.{le-leb, lt-leb}
use Rattle.frame.proofs.Laws.{by_offset}
use Rattle.frame.proofs.holds_frame.Goals as goal

pub returns-then-frame-base : goal.returns-then-frame-base
unfolding holds_frame
returns-then-frame-base c = simp (lt-leb _ _ c.if-frame-base.true)

pub returns : goal.returns
unfolding holds_frame
returns c = by_offset c.args.base c.args.frame c.args.len c.if-frame-base.false ∙ simp (le-leb _ _ c.if-frame-base.false)
