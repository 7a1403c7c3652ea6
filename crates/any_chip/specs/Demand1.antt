-- The user's first demand about what runs, for every chip that a setup names: "A refusal carries its number from document 01 .. and leaves the
-- model .. unchanged." `demand1` states it of the rules, for every chip; here it is said of the replies.
use Rattle.std.specs.Prelude.{◌≡◌, ◌⊎◌, ◌↔◌, true, false, T}
use Rattle.script.specs.declared.Event.{Event}
use Rattle.rules.specs.Chip.{chip_of, fits, is_in}
use Rattle.rules.specs.Sound.{is_sound}
use Rattle.rules.specs.Step.{step_of}
use Rattle.demand1.specs.Demand1.{refusals}
use Rattle.any_chip.specs.declared.State.{State}
use Rattle.any_chip.specs.View.{Reply}
use Rattle.any_chip.specs.View.{model, reply}
use Rattle.any_chip.specs.ViewLaws.{Sized}

-- "A refusal returns its number with every other field 0 and changes nothing."
pub record Refused (e : Event) (s : State) (r : Reply) : Type 0 where
  pub number : T (is_in r.refusal (refusals (chip_of s.setup) e))
  pub value : r.value ≡ 0
  pub vector : r.vector ≡ 0
  pub link : r.link ≡ 0
  pub state : r.state ≡ s

-- The equation is the contract of `step`, and of the call of the event's own kind: read, write, line, nmi, tick, fault, svc, special,
-- entry, return_, access, lost. The state is any: with something past its chip's places too.
pub record CodeDemand1 : Type 0 where
  pub events : (s : State) → Sized s → (e : Event) (r : Reply) → r ≡ reply s.setup (step_of (chip_of s.setup) (model s) e) → (r.refusal ≡ 0) ⊎ Refused e s r
  -- document 02, E7: "17, a chip setup with w outside 3 to 8, checked before all others, 15 and 16 too": in exactly that case, whatever the state is
  pub misfit : (s : State) (e : Event) (r : Reply) → r ≡ reply s.setup (step_of (chip_of s.setup) (model s) e) → (r.refusal ≡ 17) ↔ (fits (chip_of s.setup) ≡ false)
  -- "16: state not sound": in exactly that case, with a setup that fits
  pub unsound : (s : State) (e : Event) (r : Reply) → r ≡ reply s.setup (step_of (chip_of s.setup) (model s) e) → (r.refusal ≡ 16) ↔ ((fits (chip_of s.setup) ≡ true) × (is_sound (chip_of s.setup) (model s) ≡ false))
