-- The steps of a call: what `run_some` promises does not mention them.
use Rattle.std.specs.Prelude.{ℕ, ◌+◌, ◌≤◌, ◌≡◌, List, [], Err, true, false, length, T, leb, ℤ}
use Rattle.decimal.specs.Decimal.{line_text, line_room}
use Rattle.decimal.specs.Written.{Puts}
use Rattle.priority.specs.Priority.{execution_nested}
use Rattle.refusals.specs.declared.Refusal.{Refusal}
use Rattle.script.specs.Reading.{read_event}
use Rattle.rules.specs.declared.Chip.{Chip}
use Rattle.rules.specs.Chip.{fits}
use Rattle.rules.specs.declared.Core.{Core}
use Rattle.rules.specs.Model.{Model, stack, top}
use Rattle.parts.specs.declared.Numbers.{Numbers}
use Rattle.text.specs.Text.{end_text}
use Rattle.pieces.specs.declared.Course.{Course}
use Rattle.pieces.specs.Pieces.{script_at, is_usable, line_alone}

-- ---- courses that are handed back

abbrev pub unmoved : Course → Course
unmoved p = record { core = p.core; at = p.at; events = p.events; wrote = 0; ended = p.ended; refusal = p.refusal }

abbrev pub refused : Course → Course
refused p = record { core = p.core; at = p.at; events = p.events; wrote = 0; ended = true; refusal = 16 }

abbrev pub going : Core → ℕ → ℕ → ℕ → Course
going k at events wrote = record { core = k; at = at; events = events; wrote = wrote; ended = false; refusal = 0 }

abbrev pub finished : Course → ℕ → Course
finished p wrote = record { core = p.core; at = p.at; events = p.events; wrote = wrote; ended = true; refusal = 0 }

-- ---- places in a call

-- the chip fits, and the script is short enough and not at its end
pub record Underway (c : Chip) (script : List ℕ) (m : Model) (p : Course) : Type 0 where
  pub fit : T (fits c)
  pub short : length script ≤ 65536
  pub going : p.ended ≡ false
  pub tested : is_usable c m p ≡ true

-- the line of an answer, which left this model, is written from an offset on
pub record Told (m : Model) (done : Numbers) (number at : ℕ) (old : List ℕ) (limit : ℤ) (end : ℕ) (new : List ℕ) : Type 0 where
  pub priority : limit ≡ execution_nested m.core.group m.priority m.nest m.core.depth m.core.masks.basepri m.core.masks.primask m.core.masks.faultmask
  pub line : Puts at (line_text number done.refusal done.value (top (stack m)) limit) old end new
  pub within : end ≤ at + line_room

-- No event runs: the line `script R at B` is written and ends the script, where it has room. `refusal` is handed back, 0 where the line alone says why.
pub record Unrun (p : Course) (refusal number offset : ℕ) (old : List ℕ) (r : Course) (new : List ℕ) : Type 0 where
  pub course : r ≡ record { core = p.core; at = p.at; events = p.events; wrote = length (line_alone number offset (length old)); ended = leb line_room (length old); refusal = refusal }
  pub puts : Puts 0 (line_alone number offset (length old)) old r.wrote new
  pub within : r.wrote ≤ length old

-- no event can be read, by this refusal, and a line has room
pub record Stuck (script : List ℕ) (p : Course) (r : Refusal) (out : List ℕ) : Type 0 where
  pub short : length script ≤ 65536
  pub refused : read_event script p.at ≡ Err r
  pub room : p.wrote + line_room ≤ length out

-- no event is left, and the text of the end is written
pub record Closed (script : List ℕ) (p : Course) (old : List ℕ) (r : Course) (new : List ℕ) : Type 0 where
  pub none : (script_at script p.at).events ≡ []
  pub done : r ≡ finished p r.wrote
  pub puts : Puts p.wrote (end_text (script_at script p.at).end) old r.wrote new
  pub within : r.wrote ≤ length old
