-- The 55-line chip's state by value and the rules' model are the same fields: two conversions that only rename.
use Rattle.std.specs.Prelude.{◌≡◌, refl}
use Rattle.rules.specs.Model.{Model, Answer}
use Rattle.model.specs.declared.State.{State}
use Rattle.calls.specs.declared.Reply as calls

-- what a call hands back
abbrev pub Reply : Type 0
Reply = calls.Reply State

abbrev pub model : State → Model
model s =
    record { pending = s.pending; active = s.active; enabled = s.enabled; level = s.level; priority = s.priority; nest = s.nest; lost = s.lost; core = s.core }

abbrev pub state : Model → State
state m =
    record { pending = m.pending; active = m.active; enabled = m.enabled; level = m.level; priority = m.priority; nest = m.nest; lost = m.lost; core = m.core }

abbrev pub reply : Answer → Reply
reply a =
    record { refusal = a.refusal; value = a.value; vector = a.vector; link = a.link; state = state a.next }

-- so neither loses anything
pub state_model : (s : State) → state (model s) ≡ s
state_model s = refl

pub model_state : (m : Model) → model (state m) ≡ m
model_state m = refl
