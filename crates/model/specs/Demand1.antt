-- The user's first demand about what runs: "A refusal carries its number from document 01 .. and leaves the model .. unchanged."
-- `demand1` states it of the rules, for every chip; here it is said of the replies of the 55-line chip.
use Rattle.std.specs.Prelude.{◌≡◌, ◌⊎◌, ◌↔◌, false, T}
use Rattle.script.specs.declared.Event.{Event}
use Rattle.rules.specs.Chip.{chip55, is_in}
use Rattle.rules.specs.Sound.{is_sound}
use Rattle.rules.specs.Step.{step_of}
use Rattle.demand1.specs.Demand1.{refusals}
use Rattle.model.specs.declared.State.{State}
use Rattle.model.specs.View.{Reply}
use Rattle.model.specs.View.{model, reply}

-- "A refusal returns its number with every other field 0 and changes nothing."
pub record Refused (e : Event) (s : State) (r : Reply) : Type 0 where
  pub number : T (is_in r.refusal (refusals chip55 e))
  pub value : r.value ≡ 0
  pub vector : r.vector ≡ 0
  pub link : r.link ≡ 0
  pub state : r.state ≡ s

-- The equation is the contract of `step`, and of the call of the event's own kind: read, write, line, nmi, tick, fault, svc, special,
-- entry, return_, access, lost.
pub record CodeDemand1 : Type 0 where
  pub events : (s : State) (e : Event) (r : Reply) → r ≡ reply (step_of chip55 (model s) e) → (r.refusal ≡ 0) ⊎ Refused e s r
  -- document 02, E7: "17, a chip setup with w outside 3 to 8": this chip keeps three, so never
  pub fitting : (s : State) (e : Event) (r : Reply) → r ≡ reply (step_of chip55 (model s) e) → r.refusal ≡ 17 → ⊥
  -- "16: state not sound": in exactly that case
  pub unsound : (s : State) (e : Event) (r : Reply) → r ≡ reply (step_of chip55 (model s) e) → (r.refusal ≡ 16) ↔ (is_sound chip55 (model s) ≡ false)
