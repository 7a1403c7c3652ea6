-- Document 02, E1, about what runs: `lost_pulses` states of the rules' answers that a count is the smaller of the history's number and 65,535; here it is
-- said of the replies of the 55-line chip, by the states that the calls handed back.
use Rattle.std.specs.Prelude.{ℕ, ◌≤◌, ◌<◌, min, ◌≡◌, List, map, get_or}
use Rattle.script.specs.declared.Event.{Event}
use Rattle.script.specs.declared.Event.TheVariants.{Lost}
use Rattle.rules.specs.Chip.{chip55}
use Rattle.rules.specs.Model.{fresh}
use Rattle.rules.specs.Sound.{Sound}
use Rattle.rules.specs.Step.{step_of}
use Rattle.lost_pulses.specs.History.{rises_lost}
use Rattle.model.specs.declared.State.{State}
use Rattle.model.specs.View.{Reply}
use Rattle.model.specs.View.{model, state, reply}
use Rattle.model.specs.Demand3.{answer, Called}

pub record CodeLostPulses : Type 0 where
  -- "the stored number equals the smaller of that and 65,535"
  pub stored : (es : List Event) (rs : List Reply) (t : State) → Called (state (fresh chip55)) es rs t → (line : ℕ) → line < 55 → get_or t.lost line 0 ≡ min (rises_lost line (fresh chip55) (map answer rs)) 65535
  -- "New script event 12 (line) answers the count": the call `lost` on the state that the last one handed back, which stays
  pub answered : (es : List Event) (rs : List Reply) (t : State) → Called (state (fresh chip55)) es rs t → (line : ℕ) → line < 55 → (r : Reply) → r ≡ reply (step_of chip55 (model t) (Lost line))
      → r ≡ record { refusal = 0; value = min (rises_lost line (fresh chip55) (map answer rs)) 65535; vector = 0; link = 0; state = t }
  -- "Refusals: 6 for a line above 54"
  pub refused : (s : State) → Sound chip55 (model s) → (line : ℕ) → 55 ≤ line → (r : Reply) → r ≡ reply (step_of chip55 (model s) (Lost line)) → r ≡ record { refusal = 6; value = 0; vector = 0; link = 0; state = s }
