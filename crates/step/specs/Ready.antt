-- What an event asks of the state that it acts on.
use Rattle.std.specs.Prelude.{◌≤◌, ◌≡◌, ℤ}
use Rattle.rules.specs.declared.Chip.{Chip}
use Rattle.rules.specs.Model.{Model}
use Rattle.rules.specs.Priorities.{execution}
use Rattle.rules.specs.Sound.{Sound}

-- The state is sound and `limit` is its execution priority. Exceptions' numbers are bytes, so a chip has at most 240 lines.
pub record Ready (c : Chip) (m : Model) (limit : ℤ) : Type 0 where
  pub lines : c.lines ≤ 240
  pub sound : Sound c m
  pub priority : limit ≡ execution m
