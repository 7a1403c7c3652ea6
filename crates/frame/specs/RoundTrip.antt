-- What is stacked unstacks: the words, with xPSR as stacking made it, and the SP that stacking took.
use Rattle.std.specs.Prelude.{ℕ, ◌+◌, ◌*◌, Bool}
use Rattle.bits.specs.Words.{bit}
use Rattle.frame.specs.Frame.{padded}

-- the bytes of a frame and its padding
abbrev pub bytes_taken : Bool → ℕ → ℕ
bytes_taken align sp = 32 + 4 * bit (padded align sp)
