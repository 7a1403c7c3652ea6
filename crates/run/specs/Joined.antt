-- The pieces of a script joined are its text, said of the progress by value: a list of calls of `run_some` from `start`, each on the progress that
-- the last one handed back. `pieces` states it and proves it for every chip.
use Rattle.std.specs.Prelude.{ℕ, ◌<◌, ◌≡◌, List, [], ◌∷◌, ◌++◌, true, length, take}
use Rattle.script.specs.Script.{script_of}
use Rattle.rules.specs.Chip.{chip55}
use Rattle.rules.specs.Model.{fresh}
use Rattle.rules.specs.Step.{run_of}
use Rattle.text.specs.Text.{text_of}
use Rattle.pieces.specs.Joined.{joined, Roomy}
use Rattle.model.specs.View.{state}
use Rattle.run.specs.Progress.{Progress, started, rest_of, Ran}

-- They were lent `outs` and wrote `pieces`; the last handed r back.
pub data Continued (script : List ℕ) : Progress → List (List ℕ) → List (List ℕ) → Progress → Type 0 where
  stop : {p : Progress} → Continued script p [] [] p
  call : {p r q : Progress} {old new : List ℕ} {outs pieces : List (List ℕ)} → Ran script p old r new → Continued script r outs pieces q → Continued script p (old ∷ outs) (take r.wrote new ∷ pieces) q

pub record CodeJoined (script : List ℕ) : Type 0 where
  pub prefix : (outs pieces : List (List ℕ)) (r : Progress) → Continued script started outs pieces r → joined pieces ++ rest_of script r ≡ text_of chip55 script
  pub whole : (outs pieces : List (List ℕ)) (r : Progress) → Continued script started outs pieces r → r.ended ≡ true → joined pieces ≡ text_of chip55 script
  pub left : (outs pieces : List (List ℕ)) (r : Progress) → Continued script started outs pieces r → r.ended ≡ true → r.state ≡ state (run_of chip55 (fresh chip55) (script_of script).events)
  pub ends : (p : Progress) (outs pieces : List (List ℕ)) (r : Progress) → Continued script p outs pieces r → Roomy outs → length script < length outs → r.ended ≡ true
