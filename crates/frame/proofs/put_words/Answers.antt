-- The words put so far stand at the front; the rest is as it was, and nothing is left of it at the end.
use mathlib.Core.Path.{◌∙◌, refl}
use native.Mathlib.Omega.{arith}
use Rattle.frame.specs.Frame.{frame_bytes}
use Rattle.frame.proofs.Laws.{frame_step}
use Rattle.frame.proofs.put_words.Goals as goal

pub loop-k-init : goal.loop-k-init
unfolding frame_bytes
loop-k-init c = (c.requires.1, (c.requires.0, refl))

pub loop-k-preserved : goal.loop-k-preserved
loop-k-preserved c = (
  c.loop-k.invariant.0,
  (
    c.put_word.auto.part ∙ c.loop-k.invariant.1.0,
    c.put_word.ensures ∙ rw c.loop-k.invariant.1.1 (frame_step c.args.words.now c.args.part.now c.loop-k.k c.loop-k.invariant.0 (omega arith) (omega arith)),
  ),
)
