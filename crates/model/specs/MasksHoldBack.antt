-- Document 02, E13, about what runs: `masks_hold_back` states of the rules' answers that masks only hold back; here it is said of the replies of the 55-line
-- chip, by the states that the calls handed back.
use Rattle.std.specs.Prelude.{◌≡◌, List}
use Rattle.script.specs.declared.Event.{Event}
use Rattle.script.specs.declared.Event.TheVariants.{Entry}
use Rattle.rules.specs.Chip.{chip55}
use Rattle.rules.specs.Model.{fresh}
use Rattle.rules.specs.Sound.{Sound}
use Rattle.rules.specs.Step.{step_of}
use Rattle.masks_hold_back.specs.MasksHoldBack.{Lowered, HeldBack, Raises}
use Rattle.model.specs.declared.State.{State}
use Rattle.model.specs.View.{Reply}
use Rattle.model.specs.View.{model, state, reply}
use Rattle.model.specs.Demand3.{answer, Called}

-- r is what the call `entry` hands back on s
abbrev pub Entered : State → Reply → Type 0
Entered s r = r ≡ reply (step_of chip55 (model s) Entry)

pub record CodeMasksHoldBack : Type 0 where
  -- "take two reachable states": each left by a list of calls from the fresh state
  pub reached : (es fs : List Event) (rs qs : List Reply) (s t : State) → Called (state (fresh chip55)) es rs s → Called (state (fresh chip55)) fs qs t → Lowered (model s) (model t) → (r q : Reply) → Entered s r → Entered t q → HeldBack (model s) (model t) (answer r) (answer q)
  -- .. and of sound states, reached or handed in
  pub sound : (s t : State) → Sound chip55 (model s) → Sound chip55 (model t) → Lowered (model s) (model t) → (r q : Reply) → Entered s r → Entered t q → HeldBack (model s) (model t) (answer r) (answer q)
  -- A call `special` that can only add a mask starts nothing: q, handed back after it, is as r, handed back instead of it, or is refused by 8.
  pub starts_nothing : (es : List Event) (rs : List Reply) (s : State) → Called (state (fresh chip55)) es rs s → (e : Event) → Raises e → (p r q : Reply) → p ≡ reply (step_of chip55 (model s) e) → Entered s r → Entered p.state q → HeldBack (model s) (model p.state) (answer r) (answer q)
