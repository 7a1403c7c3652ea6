-- One active exception that is not nested decides; else all are tried.
use mathlib.Core.Path.{refl, sym, ◌∙◌}
use native.Mathlib.Numerals.{add-one}
use native.Mathlib.Omega.{arith}
use Rattle.bools.specs.Every.{every, every_false}
use Rattle.rules.specs.Sound.{nested_sound}
use Rattle.soundness.proofs.nest.active_nested.Goals as goal

pub loop-n-init : goal.loop-n-init
unfolding every
loop-n-init c = refl

pub returns-then-not-active_fits : goal.returns-then-not-active_fits
unfolding nested_sound
returns-then-not-active_fits c = sym (every_false _ c.loop-n.n _ (omega arith) (sym c.active_fits.ensures ∙ c.if-not-active_fits.true))

pub loop-n-preserved : goal.loop-n-preserved
unfolding every nested_sound
loop-n-preserved c = simp (add-one, sym c.active_fits.ensures ∙ c.if-not-active_fits.false, c.loop-n.invariant)
