-- The view loses nothing: a state is its setup and its model, and a sound model is that of its state.
use Rattle.std.specs.Prelude.{◌≡◌, length}
use Rattle.rules.specs.declared.Setup.{Setup}
use Rattle.rules.specs.Chip.{chip_of}
use Rattle.rules.specs.Model.{Model}
use Rattle.rules.specs.Sound.{Sound}
use Rattle.any_chip.specs.declared.State.{State}
use Rattle.any_chip.specs.View.{model, state}

-- the arrays of a state have these lengths always
pub record Sized (s : State) : Type 0 where
  pub pending : length s.pending ≡ 256
  pub active : length s.active ≡ 256
  pub enabled : length s.enabled ≡ 256
  pub level : length s.level ≡ 256
  pub priority : length s.priority ≡ 256
  pub nest : length s.nest ≡ 248
  pub lost : length s.lost ≡ 240

pub record ViewLaws : Type 0 where
  -- every state, sound or not: so what refuses with its model refuses with the state as it was
  pub back : (s : State) → Sized s → state s.setup (model s) ≡ s
  pub viewed : (setup : Setup) (m : Model) → Sound (chip_of setup) m → model (state setup m) ≡ m
