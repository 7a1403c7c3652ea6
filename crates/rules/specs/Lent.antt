-- How the code of every chip holds a model: its lists are lent, its core goes with them.
-- Nothing is added to the rules.
use Rattle.std.specs.Prelude.{ℕ, ◌≡◌, List, Bool, Result, Ok, Err}
use Rattle.refusals.specs.declared.Refusal.{Refusal}
use Rattle.refusals.specs.Refusals.{number_of}
use Rattle.rules.specs.declared.Core.{Core}
use Rattle.rules.specs.declared.Lent.{Lent}
use Rattle.rules.specs.declared.Shown.{Shown}
use Rattle.rules.specs.declared.Accepted.{Accepted}
use Rattle.rules.specs.Model.{Model, Answer, refuse}

-- where all lists are lent
abbrev pub model_of : List Bool → List Bool → List Bool → List Bool → List ℕ → List ℕ → List ℕ → Core → Model
model_of pending active enabled level priority nest lost core =
    record { pending = pending; active = active; enabled = enabled; level = level; priority = priority; nest = nest; lost = lost; core = core }

-- the model that a lent state is, as its lists are now
abbrev pub view : Lent → Model
view s = model_of s.pending.now s.active.now s.enabled.now s.level.now s.priority.now s.nest.now s.lost.now s.core

-- the model that a shown state is
abbrev pub seen : Shown → Model
seen s = model_of s.pending.now s.active.now s.enabled.now s.level.now s.priority.now s.nest.now s.lost.now s.core.now

-- Between two moments the same lists are lent: what stands in them at the second is what the lender gets back.
pub record SameLoan (s t : Lent) : Type 0 where
  pub pending : t.pending.ghost_name ≡ s.pending.ghost_name
  pub active : t.active.ghost_name ≡ s.active.ghost_name
  pub enabled : t.enabled.ghost_name ≡ s.enabled.ghost_name
  pub level : t.level.ghost_name ≡ s.level.ghost_name
  pub priority : t.priority.ghost_name ≡ s.priority.ghost_name
  pub nest : t.nest.ghost_name ≡ s.nest.ghost_name
  pub lost : t.lost.ghost_name ≡ s.lost.ghost_name

-- an outcome, with the state that it leaves, as the rules' answer: "A refusal returns its number with every other field 0 and changes nothing."
abbrev pub answer : Result Accepted Refusal → Model → Answer
answer (Ok a) m = record { refusal = 0; value = a.value; vector = a.vector; link = a.link; next = m }
answer (Err r) m = refuse (number_of r) m
