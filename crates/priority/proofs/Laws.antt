-- One that is not able changes nothing.
use Prim.Native.Nat.{ℕ}
use mathlib.Core.Path.{◌≡◌, refl}
use mathlib.Core.Bool.{false}
use lib.IntN.{ℤ}
use Rattle.std.specs.Prelude.{Option, Some, None}
use Rattle.priority.specs.Priority.{better}

pub unable : (key : ℕ → ℤ) (n : ℕ) (found : Option ℕ) → better false key n found ≡ found
unable key n (Some m) = refl
unable key n None = refl
