-- A state by value has arrays of 256 places (248 of the nest, 240 of the counts) whatever its chip; the rules' lists have a place for each number of the
-- chip. The places past those are clear: a state that holds something there is not sound.
use Rattle.std.specs.Prelude.{false, take}
use Rattle.places.specs.declared.Reach.{Reach}
use Rattle.places.specs.Places.{reach_of, padded}
use Rattle.rules.specs.declared.Setup.{Setup}
use Rattle.rules.specs.Chip.{chip_of}
use Rattle.rules.specs.Model.{Model, Answer}
use Rattle.rules.specs.Lent.{model_of}
use Rattle.any_chip.specs.declared.State.{State}
use Rattle.calls.specs.declared.Reply as calls

-- how many places of its arrays are the chip's lists
abbrev pub reach_in : State → Reach
reach_in s = reach_of (chip_of s.setup) s.pending s.active s.enabled s.level s.priority s.nest s.lost

-- the first places of each array
abbrev pub first_places : Reach → State → Model
first_places r s =
    model_of (take r.places s.pending) (take r.places s.active) (take r.places s.enabled) (take r.places s.level) (take r.places s.priority) (take r.nest s.nest) (take r.lost s.lost) s.core

abbrev pub model : State → Model
model s = first_places (reach_in s) s

-- and back, with clear places up to the arrays' size
abbrev pub state : Setup → Model → State
state setup m =
    record {
      setup = setup;
      pending = padded 256 false m.pending;
      active = padded 256 false m.active;
      enabled = padded 256 false m.enabled;
      level = padded 256 false m.level;
      priority = padded 256 0 m.priority;
      nest = padded 248 0 m.nest;
      lost = padded 240 0 m.lost;
      core = m.core;
    }

-- what a call hands back
abbrev pub Reply : Type 0
Reply = calls.Reply State

abbrev pub reply : Setup → Answer → Reply
reply setup a =
    record { refusal = a.refusal; value = a.value; vector = a.vector; link = a.link; state = state setup a.next }
