-- Two texts compared byte by byte.
use Rattle.std.specs.Prelude.{ℕ, ◌+◌, ◌≤◌, ◌≡◌, List, length, take, drop}

-- so many bytes of a text stand in `want` from an offset on
pub record Agree (want : List ℕ) (at : ℕ) (text : List ℕ) (same : ℕ) : Type 0 where
  pub some : same ≤ length text
  pub inside : at + same ≤ length want
  pub equal : take same text ≡ take same (drop at want)
