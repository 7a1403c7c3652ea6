-- A script run a piece at a time, on any chip: what a call hands back, leaves and writes, for every input.
use Rattle.std.specs.Prelude.{ℕ, zero, suc, ◌+◌, ◌-◌, ◌≤◌, ◌≡◌, List, [], ◌∷◌, ◌++◌, Result, Ok, Err, Bool, true, false, cond, ◌&&◌, ◌||◌, length, take, ltb, leb}
use Rattle.decimal.specs.Decimal.{broken_text, line_room}
use Rattle.decimal.specs.Written.{Puts}
use Rattle.refusals.specs.declared.Refusal.{Refusal}
use Rattle.script.specs.declared.Event.{Event}
use Rattle.script.specs.Reading.{read_event}
use Rattle.script.specs.Script.{Script, broken_by, script_from}
use Rattle.rules.specs.declared.Chip.{Chip}
use Rattle.rules.specs.Chip.{fits}
use Rattle.rules.specs.Model.{Model, Answer, fresh_core}
use Rattle.rules.specs.Sound.{is_sound, Sound}
use Rattle.rules.specs.Step.{answers_of, run_of}
use Rattle.text.specs.Text.{line_of, lines_of, end_text, script_text, admitted_text}
use Rattle.pieces.specs.declared.Course.{Course}

-- the script from an offset on; from 0 on it is `script_of`
unfoldable pub script_at : List ℕ → ℕ → Script
script_at bytes at =
    cond (ltb 65536 (length bytes)) (record { events = []; end = broken_by 15 65536 }) (script_from bytes at (length bytes))

-- before the first event
abbrev pub started : Chip → Course
started c = record { core = fresh_core c; at = 0; events = 0; wrote = 0; ended = false; refusal = 0 }

-- A course that a script can have: a sound state, and every event took a byte or more.
unfoldable pub is_usable : Chip → Model → Course → Bool
is_usable c m p = is_sound c m && leb p.events p.at

pub record Usable (c : Chip) (m : Model) (p : Course) : Type 0 where
  pub sound : Sound c m
  pub counted : p.events ≤ p.at

-- ---- how much a call does

-- How many of some answers have their lines written into so much room, the first of them of this number: each line needs the room of the longest.
unfoldable pub fitting : ℕ → ℕ → List Answer → ℕ
fitting room number [] = 0
fitting room number (a ∷ rest) = cond (leb line_room room) (suc (fitting (room - length (line_of number a)) (suc number) rest)) 0

-- whether all have, and the line of a broken script would have room too
unfoldable pub all_fit : ℕ → ℕ → List Answer → Bool
all_fit room number [] = leb line_room room
all_fit room number (a ∷ rest) = cond (leb line_room room) (all_fit (room - length (line_of number a)) (suc number) rest) false

unfoldable pub passed : ℕ → Result (Event × ℕ) Refusal → (ℕ → ℕ) → ℕ
passed at (Ok (e, next)) rest = rest next
passed at (Err r) rest = at

-- the offset after so many events
unfoldable pub offset_after : List ℕ → ℕ → ℕ → ℕ
offset_after bytes at zero = at
offset_after bytes at (suc count) = passed at (read_event bytes at) (λ next. offset_after bytes next count)

-- ---- what a call does

-- The model that it leaves; the offset, the number of events, whether the script has ended and the refusal that it hands back; the text that it writes.
pub record Piece : Type 0 where
  pub model : Model
  pub at : ℕ
  pub events : ℕ
  pub ended : Bool
  pub refusal : ℕ
  pub text : List ℕ

-- Of a script s that starts at an offset, the first n events ran: "every answer or refusal and the state left are those that demand 2's
-- rules give for the same list". Where the script has ended the text of its end follows their lines.
unfoldable pub ran : Chip → List ℕ → Model → ℕ → ℕ → Script → ℕ → Bool → Piece
ran c bytes m at events s n ended =
    record {
      model = run_of c m (take n s.events);
      at = offset_after bytes at n;
      events = events + n;
      ended = ended;
      refusal = 0;
      text = lines_of (suc events) (answers_of c m (take n s.events)) ++ cond ended (end_text s.end) [];
    }

-- on a model that so many events left, from the offset after them: as many events as have room for their lines
unfoldable pub gone_on : Chip → List ℕ → Model → ℕ → ℕ → ℕ → Piece
gone_on c bytes m at events room =
    ran c bytes m at events (script_at bytes at)
    (fitting room (suc events) (answers_of c m (script_at bytes at).events))
    (all_fit room (suc events) (answers_of c m (script_at bytes at).events))

-- what is written where no event runs: the line `script R at B`, where it has room
abbrev pub line_alone : ℕ → ℕ → ℕ → List ℕ
line_alone number offset room = cond (leb line_room room) (broken_text number offset) []

-- a run on a chip that does not fit is refused as a whole
abbrev pub unadmitted : Model → Course → ℕ → Piece
unadmitted m p room =
    record { model = m; at = p.at; events = p.events; ended = leb line_room room; refusal = 17; text = line_alone 17 0 room }

-- nothing runs and nothing is written, and the script has ended
abbrev pub stopped : ℕ → Model → Course → Piece
stopped refusal m p = record { model = m; at = p.at; events = p.events; ended = true; refusal = refusal; text = [] }

-- A course that has ended is handed back as it is. Document 02, E7: "17 .. checked before all others, 15 and 16 too". "in a script 15 first": a script
-- that is too long says so whatever the state. Else a state that is not sound, or a count of events that no script has, is refused by 16, and
-- the course ends.
unfoldable pub piece_of : Chip → List ℕ → Model → Course → ℕ → Piece
piece_of c bytes m p room =
    cond p.ended (stopped p.refusal m p)
    (cond (fits c)
    (cond (ltb 65536 (length bytes) || is_usable c m p) (gone_on c bytes m p.at p.events room)
    (stopped 16 m p))
    (unadmitted m p room))

-- ---- the promise

abbrev pub course_of : Piece → Course
course_of q = record { core = q.model.core; at = q.at; events = q.events; wrote = length q.text; ended = q.ended; refusal = q.refusal }

-- What a call does that goes on from p and the model m over lent bytes `old`, hands r back and leaves the model t and `new`. Each part is fixed;
-- the bytes past what it wrote stay.
pub record Ran (c : Chip) (script : List ℕ) (m : Model) (p : Course) (old : List ℕ) (t : Model) (r : Course) (new : List ℕ) : Type 0 where
  pub model : t ≡ (piece_of c script m p (length old)).model
  pub course : r ≡ course_of (piece_of c script m p (length old))
  pub bytes : Puts 0 (piece_of c script m p (length old)).text old r.wrote new
  pub within : r.wrote ≤ length new

-- ---- what is left to write

-- after so many events, which left this model and end at this offset
unfoldable pub rest_text : Chip → List ℕ → Model → ℕ → ℕ → List ℕ
rest_text c bytes m at events = admitted_text c (script_text c m (suc events) (script_at bytes at))

-- .. on a chip, of a script that has come so far and left this model
unfoldable pub rest_of : Chip → List ℕ → Model → Course → List ℕ
rest_of c bytes m p = cond p.ended [] (rest_text c bytes m p.at p.events)
