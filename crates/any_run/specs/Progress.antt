-- A script on any chip that a setup names: its progress is a course of `pieces` beside the lists of the state.
use Rattle.std.specs.Prelude.{ℕ, ◌≡◌, false, List}
use Rattle.rules.specs.declared.Chip.{Chip}
use Rattle.rules.specs.declared.Setup.{Setup}
use Rattle.rules.specs.Chip.{chip_of}
use Rattle.rules.specs.Model.{fresh}
use Rattle.pieces.specs.declared.Course.{Course}
use Rattle.pieces.specs.Pieces as pieces
use Rattle.any_chip.specs.View.{model, state}
use Rattle.any_chip.specs.declared.State.{State}
use Rattle.pieces.specs.declared.Progress as by_value

abbrev pub Progress : Type 0
Progress = by_value.Progress State

abbrev pub chip : Progress → Chip
chip p = chip_of p.state.setup

abbrev pub course : Progress → Course
course p = record { core = p.state.core; at = p.at; events = p.events; wrote = p.wrote; ended = p.ended; refusal = p.refusal }

-- before the first event
abbrev pub started : Setup → Progress
started setup = record { state = state setup (fresh (chip_of setup)); at = 0; events = 0; wrote = 0; ended = false; refusal = 0 }

abbrev pub rest_of : List ℕ → Progress → List ℕ
rest_of script p = pieces.rest_of (chip p) script (model p.state) (course p)

abbrev pub Usable : Progress → Type 0
Usable p = pieces.Usable (chip p) (model p.state) (course p)

-- What a call does that goes on from p over lent bytes `old`, hands r back and leaves `new`: each part is fixed by `pieces.Ran` and by the setup,
-- since a state is its setup and its model (`ViewLaws` of `any_chip`).
pub record Ran (script : List ℕ) (p : Progress) (old : List ℕ) (r : Progress) (new : List ℕ) : Type 0 where
  pub setup : r.state.setup ≡ p.state.setup
  pub piece : pieces.Ran (chip p) script (model p.state) (course p) old (model r.state) (course r) new
