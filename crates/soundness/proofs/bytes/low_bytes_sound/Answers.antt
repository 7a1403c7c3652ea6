-- One byte that fails decides; else all are tried.
use mathlib.Core.Path.{refl, sym, ◌∙◌}
use native.Mathlib.Numerals.{add-one}
use native.Mathlib.Omega.{arith}
use Rattle.bools.specs.Every.{every, every_false}
use Rattle.rules.specs.Sound.{byte_sound}
use Rattle.soundness.proofs.bytes.low_bytes_sound.Goals as goal

pub loop-n-init : goal.loop-n-init
unfolding every
loop-n-init c = refl

pub returns-then-not-byte_sound : goal.returns-then-not-byte_sound
unfolding byte_sound
returns-then-not-byte_sound c = sym (every_false _ c.loop-n.n 16 (omega arith) (sym c.byte_sound.ensures ∙ c.if-not-byte_sound.true))

pub loop-n-preserved : goal.loop-n-preserved
unfolding every byte_sound
loop-n-preserved c = simp (add-one, sym c.byte_sound.ensures ∙ c.if-not-byte_sound.false, c.loop-n.invariant)
