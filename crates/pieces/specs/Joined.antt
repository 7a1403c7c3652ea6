-- The pieces of a script joined are its text: a list of calls of `run_some`, each on the course and the model that the last one left.
use Rattle.std.specs.Prelude.{ℕ, ◌≤◌, ◌<◌, ◌≡◌, List, [], ◌∷◌, ◌++◌, true, length, take}
use Rattle.decimal.specs.Decimal.{line_room}
use Rattle.script.specs.Script.{script_of}
use Rattle.rules.specs.declared.Chip.{Chip}
use Rattle.rules.specs.Model.{Model, fresh}
use Rattle.rules.specs.Step.{run_of}
use Rattle.text.specs.Text.{text_of}
use Rattle.pieces.specs.declared.Course.{Course}
use Rattle.pieces.specs.Pieces.{started, Ran, rest_of}

-- Resumed from the model m and the course p on, each with lent bytes of its own: they were lent `outs` and wrote `pieces`, and the last left t
-- and r. `Ran` is what each call's contract ensures.
pub data Resumed (c : Chip) (script : List ℕ) : Model → Course → List (List ℕ) → List (List ℕ) → Model → Course → Type 0 where
  stop : {m : Model} {p : Course} → Resumed c script m p [] [] m p
  call : {m t u : Model} {p r q : Course} {old new : List ℕ} {outs pieces : List (List ℕ)} → Ran c script m p old t r new → Resumed c script t r outs pieces u q → Resumed c script m p (old ∷ outs) (take r.wrote new ∷ pieces) u q

abbrev pub joined : List (List ℕ) → List ℕ
joined [] = []
joined (x ∷ xs) = x ++ joined xs

-- each call is lent room for a line
abbrev pub Roomy : List (List ℕ) → Type 0
Roomy [] = Unit {0}
Roomy (x ∷ xs) = (line_room ≤ length x) × Roomy xs

pub record Joined (c : Chip) (script : List ℕ) : Type 0 where
  -- at any point what is written, followed by what is left to write, is the text
  pub prefix : (outs pieces : List (List ℕ)) (t : Model) (r : Course) → Resumed c script (fresh c) (started c) outs pieces t r → joined pieces ++ rest_of c script t r ≡ text_of c script
  -- when the last call has ended the pieces are the text, and the state is the one that the rules give for the script's events
  pub whole : (outs pieces : List (List ℕ)) (t : Model) (r : Course) → Resumed c script (fresh c) (started c) outs pieces t r → r.ended ≡ true → joined pieces ≡ text_of c script
  pub left : (outs pieces : List (List ℕ)) (t : Model) (r : Course) → Resumed c script (fresh c) (started c) outs pieces t r → r.ended ≡ true → t ≡ run_of c (fresh c) (script_of script).events
  -- the calls end, from any course and on any state: where each has room for a line, one more than the script has bytes are enough
  pub ends : (m : Model) (p : Course) (outs pieces : List (List ℕ)) (t : Model) (r : Course) → Resumed c script m p outs pieces t r → Roomy outs → length script < length outs → r.ended ≡ true
