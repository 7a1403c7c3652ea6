-- A whole script (document 01, "Scripts" and refusal 15).
use Rattle.std.specs.Prelude.{ℕ, zero, suc, List, [], ◌∷◌, ◌++◌, Result, Ok, Err, cond, length, ltb}
use Rattle.refusals.specs.declared.Refusal.{Refusal}
use Rattle.refusals.specs.Refusals.{number_of}
use Rattle.script.specs.declared.Event.{Event}
use Rattle.script.specs.Reading.{read_event}
use Rattle.script.specs.Writing.{event_bytes}

-- a script is read to its end, or breaks: "`script R at B`, B the offset where that event starts"
pub data End : Type 0 where
  ended : End
  broken_by : ℕ → ℕ → End

-- "A broken script runs up to the bad event": the events that run, and how the script ends
pub record Script : Type 0 where
  pub events : List Event
  pub end : End

abbrev pub whole : List Event → Script
whole es = record { events = es; end = ended }

-- an event before the rest of its script, which starts after it
unfoldable pub followed : ℕ → Result (Event × ℕ) Refusal → (ℕ → Script) → Script
followed at (Ok (e, next)) rest = record { events = e ∷ (rest next).events; end = (rest next).end }
followed at (Err r) rest = record { events = []; end = broken_by (number_of r) at }

-- the script from `at` on, of at most `count` events
unfoldable pub script_from : List ℕ → ℕ → ℕ → Script
script_from bytes at zero = whole []
script_from bytes at (suc count) =
    cond (ltb at (length bytes)) (followed at (read_event bytes at) (λ next. script_from bytes next count)) (whole [])

-- An event takes a byte or more, so that no script has more events than bytes.
-- "script over 65,536 bytes (offset 65536; no event runs)"
unfoldable pub script_of : List ℕ → Script
script_of bytes =
    cond (ltb 65536 (length bytes)) (record { events = []; end = broken_by 15 65536 }) (script_from bytes 0 (length bytes))

-- the script of a list of events
unfoldable pub bytes_of : List Event → List ℕ
bytes_of [] = []
bytes_of (e ∷ es) = event_bytes e ++ bytes_of es
