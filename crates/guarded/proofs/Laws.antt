-- The tests of refusals 17 and 16 decide between an event and its refusal.
use mathlib.Core.Path.{◌≡◌}
use mathlib.Core.Bool.{true, false}
use Rattle.bools.specs.Tests.{is_true}
use Rattle.rules.specs.declared.Chip.{Chip}
use Rattle.rules.specs.Chip.{fits}
use Rattle.rules.specs.Model.{Model, Answer, refuse}
use Rattle.rules.specs.Sound.{is_sound, Sound}
use Rattle.rules.specs.Step.{guarded, admitted}
use Rattle.demand3.proofs.Check.{of_sound}

pub tested : (c : Chip) (m : Model) → is_sound c m ≡ true → Sound c m
tested c m e = of_sound c m (is_true e)

module _ (c : Chip) (m : Model) (a : Answer) where
  pub misfit : fits c ≡ false → refuse 17 m ≡ admitted c m (guarded c m a)
  unfolding admitted
  misfit f = rw f

  pub refuses : fits c ≡ true → is_sound c m ≡ false → refuse 16 m ≡ admitted c m (guarded c m a)
  unfolding admitted guarded
  refuses f e = rw (f, e)

  pub passes : fits c ≡ true → is_sound c m ≡ true → a ≡ admitted c m (guarded c m a)
  unfolding admitted guarded
  passes f e = rw (f, e)
