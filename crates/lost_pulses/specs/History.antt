-- Document 02, E1: "Define it from the history of events". The number of lost rises, from the states along a list of events and apart from the
-- number that the model stores.
use Rattle.std.specs.Prelude.{ℕ, ◌+◌, List, [], ◌∷◌, Bool, not, ◌&&◌}
use Rattle.bits.specs.Words.{bit}
use Rattle.flag_words.specs.Flags.{on}
use Rattle.script.specs.declared.Event.{Event}
use Rattle.rules.specs.declared.Chip.{Chip}
use Rattle.rules.specs.Model.{Model, Answer, fresh}
use Rattle.rules.specs.Step.{answers_of}

-- "A rise on a line that is already pending", of the states before and after an event: low before, high after, pending before. A refused event
-- leaves the state as it was, so it is none.
unfoldable pub lost_rise : ℕ → Model → Model → Bool
lost_rise line m t = (not (on m.level (16 + line)) && on t.level (16 + line)) && on m.pending (16 + line)

-- "the number of such rises", of the states that some answers leave, the first given on m
abbrev pub rises_lost : ℕ → Model → List Answer → ℕ
rises_lost line m [] = 0
rises_lost line m (a ∷ rs) = bit (lost_rise line m a.next) + rises_lost line a.next rs

-- ".. since the fresh state", of a list of events
abbrev pub history : Chip → List Event → ℕ → ℕ
history c es line = rises_lost line (fresh c) (answers_of c (fresh c) es)
