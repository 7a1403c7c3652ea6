-- The user's third demand about what runs, for every chip that a setup names: a list of calls on states by value, each on the state that the
-- last one handed back. `demand3` states the claim and proves it for every chip; here it is said of the replies.
use Rattle.std.specs.Prelude.{◌≡◌, List, [], ◌∷◌, map}
use Rattle.script.specs.declared.Event.{Event}
use Rattle.script.specs.declared.Event.TheVariants.{Entry}
use Rattle.rules.specs.declared.Setup.{Setup}
use Rattle.rules.specs.Chip.{chip_of}
use Rattle.rules.specs.Model.{Answer, fresh}
use Rattle.rules.specs.Sound.{Sound}
use Rattle.rules.specs.Step.{step_of}
use Rattle.demand3.specs.Demand3.{Claim, Entering}
use Rattle.any_chip.specs.declared.State.{State}
use Rattle.any_chip.specs.View.{Reply}
use Rattle.any_chip.specs.View.{model, state, reply}

-- a reply as the rules' answer
abbrev pub answer : Reply → Answer
answer r =
    record { refusal = r.refusal; value = r.value; vector = r.vector; link = r.link; next = model r.state }

-- Calls for the events es, the first on s, each next on the state that the last one handed back, replied to by rs, the last leaving t.
-- The equation is the contract of `step`, and of the call of the event's own kind: read, write, line, nmi, tick, fault, svc, special,
-- entry, return_, access, lost, skip.
pub data Called : State → List Event → List Reply → State → Type 0 where
  stop : {s : State} → Called s [] [] s
  call : {s t : State} {e : Event} {r : Reply} {es : List Event} {rs : List Reply} → r ≡ reply s.setup (step_of (chip_of s.setup) (model s) e) → Called r.state es rs t → Called s (e ∷ es) (r ∷ rs) t

pub record CodeDemand3 (setup : Setup) : Type 0 where
  pub calls : (es : List Event) (rs : List Reply) (t : State) → Called (state setup (fresh (chip_of setup))) es rs t → Claim (chip_of setup) es (map answer rs) (model t)
  pub entries : (s : State) (r : Reply) → s.setup ≡ setup → Sound (chip_of setup) (model s) → r ≡ reply setup (step_of (chip_of setup) (model s) Entry) → Entering (model s) (answer r)
