-- Document 02, E1, about what runs: `lost_pulses` states of the rules' answers that a count is the smaller of the history's number and 65,535; here it is
-- said of the replies, for every chip that a setup names, by the states that the calls handed back.
use Rattle.std.specs.Prelude.{ℕ, ◌≤◌, ◌<◌, min, ◌≡◌, List, map, get_or, T}
use Rattle.script.specs.declared.Event.{Event}
use Rattle.script.specs.declared.Event.TheVariants.{Lost}
use Rattle.rules.specs.declared.Setup.{Setup}
use Rattle.rules.specs.Chip.{chip_of, fits}
use Rattle.rules.specs.Model.{fresh}
use Rattle.rules.specs.Sound.{Sound}
use Rattle.rules.specs.Step.{step_of}
use Rattle.lost_pulses.specs.History.{rises_lost}
use Rattle.any_chip.specs.declared.State.{State}
use Rattle.any_chip.specs.View.{Reply}
use Rattle.any_chip.specs.View.{model, state, reply}
use Rattle.any_chip.specs.ViewLaws.{Sized}
use Rattle.any_chip.specs.Demand3.{answer, Called}

-- calls from the fresh state of a setup, for the events es, replied to by rs, the last leaving t
abbrev pub FromFresh : Setup → List Event → List Reply → State → Type 0
FromFresh setup es rs t = Called (state setup (fresh (chip_of setup))) es rs t

-- the number that the states along these replies give, held at 65,535
abbrev pub held_count : Setup → List Reply → ℕ → ℕ
held_count setup rs line = min (rises_lost line (fresh (chip_of setup)) (map answer rs)) 65535

pub record CodeLostPulses : Type 0 where
  -- "the stored number equals the smaller of that and 65,535"
  pub stored : (setup : Setup) (es : List Event) (rs : List Reply) (t : State) → FromFresh setup es rs t → (line : ℕ) → line < (chip_of setup).lines → get_or t.lost line 0 ≡ held_count setup rs line
  -- "New script event 12 (line) answers the count": the call `lost` on the state that the last one handed back, which stays
  pub answered : (setup : Setup) → T (fits (chip_of setup)) → (es : List Event) (rs : List Reply) (t : State) → FromFresh setup es rs t → Sized t → (line : ℕ) → line < (chip_of setup).lines
      → (r : Reply) → r ≡ reply t.setup (step_of (chip_of t.setup) (model t) (Lost line)) → r ≡ record { refusal = 0; value = held_count setup rs line; vector = 0; link = 0; state = t }
  -- "Refusals: 6 for a line above 54, as for event 3": above the chip's last line
  pub refused : (s : State) → Sized s → T (fits (chip_of s.setup)) → Sound (chip_of s.setup) (model s) → (line : ℕ) → (chip_of s.setup).lines ≤ line
      → (r : Reply) → r ≡ reply s.setup (step_of (chip_of s.setup) (model s) (Lost line)) → r ≡ record { refusal = 6; value = 0; vector = 0; link = 0; state = s }
