-- One event written (document 01, "Scripts" and refusal 15).
use Rattle.std.specs.Prelude.{ℕ, ◌+◌, min, List, [], ◌∷◌, ◌++◌, Result, Ok, Err, Bool, cond, length, leb}
use Rattle.std.proofs.lemmas.List.Edits.{sets}
use Rattle.script.specs.declared.Event.{Event}
use Rattle.refusals.specs.declared.Refusal.{Refusal}
use Rattle.refusals.specs.declared.Refusal.TheVariants as refusal
use Rattle.script.specs.Event.{kind_of, arguments_of}
use Rattle.numbers.specs.Number.{number_bytes}

unfoldable pub numbers_bytes : List ℕ → List ℕ
numbers_bytes [] = []
numbers_bytes (n ∷ ns) = number_bytes n ++ numbers_bytes ns

-- "An event is its kind, coded as a number too, then its arguments"
unfoldable pub event_bytes : Event → List ℕ
event_bytes e = numbers_bytes (kind_of e ∷ arguments_of e)

-- "written event ending past its slice or 65,536" is refused by 15
unfoldable pub fits : List ℕ → ℕ → Event → Bool
fits out at e = leb (at + length (event_bytes e)) (min (length out) 65536)

-- "answers the next offset"
unfoldable pub write_event : List ℕ → ℕ → Event → Result ℕ Refusal
write_event out at e = cond (fits out at e) (Ok (at + length (event_bytes e))) (Err refusal.Length)

-- "puts one event into a lent slice from a given offset, all other bytes staying"
unfoldable pub bytes_after : List ℕ → ℕ → Event → List ℕ
bytes_after out at e = cond (fits out at e) (sets out at (event_bytes e)) out
