-- Document 02, E13, about what runs: `masks_hold_back` states of the rules' answers that masks only hold back; here it is said of the replies, for every chip
-- that a setup names, by the states that the calls handed back.
use Rattle.std.specs.Prelude.{◌≡◌, List}
use Rattle.script.specs.declared.Event.{Event}
use Rattle.script.specs.declared.Event.TheVariants.{Entry}
use Rattle.rules.specs.declared.Setup.{Setup}
use Rattle.rules.specs.Chip.{chip_of}
use Rattle.rules.specs.Sound.{Sound}
use Rattle.rules.specs.Step.{step_of}
use Rattle.masks_hold_back.specs.MasksHoldBack.{Lowered, HeldBack, Raises}
use Rattle.any_chip.specs.declared.State.{State}
use Rattle.any_chip.specs.View.{Reply}
use Rattle.any_chip.specs.View.{model, reply}
use Rattle.any_chip.specs.Demand3.{answer}
use Rattle.any_chip.specs.LostPulses.{FromFresh}

-- r is what the call for an event hands back on s, and what the call `entry` does
abbrev pub Replied : State → Event → Reply → Type 0
Replied s e r = r ≡ reply s.setup (step_of (chip_of s.setup) (model s) e)

abbrev pub Entered : State → Reply → Type 0
Entered s r = Replied s Entry r

pub record CodeMasksHoldBack (setup : Setup) : Type 0 where
  -- "take two reachable states": each left by a list of calls from the fresh state
  pub reached : (es fs : List Event) (rs qs : List Reply) (s t : State) → FromFresh setup es rs s → FromFresh setup fs qs t → Lowered (model s) (model t) → (r q : Reply) → Entered s r → Entered t q → HeldBack (model s) (model t) (answer r) (answer q)
  -- .. and of sound states, reached or handed in
  pub sound : (s t : State) → s.setup ≡ setup → t.setup ≡ setup → Sound (chip_of setup) (model s) → Sound (chip_of setup) (model t) → Lowered (model s) (model t) → (r q : Reply) → Entered s r → Entered t q → HeldBack (model s) (model t) (answer r) (answer q)
  -- A call `special` that can only add a mask starts nothing: q, handed back after it, is as r, handed back instead of it, or is refused by 8.
  pub starts_nothing : (es : List Event) (rs : List Reply) (s : State) → FromFresh setup es rs s → (e : Event) → Raises e → (p r q : Reply) → Replied s e p → Entered s r → Entered p.state q → HeldBack (model s) (model p.state) (answer r) (answer q)
