-- L is what document 01 says it is: "L, the count of group numbers, is 8 for p up to 4, then 4, 2, 1."
use Rattle.std.specs.Prelude.{ℕ, ◌≡◌, ◌↔◌, length}
use mathlib.Core.List.{List, Memᴰ}
use Rattle.grouping.specs.Grouping.{group_of}
use Rattle.priority.specs.Order.{Distinct}
use Rattle.priority.specs.Levels.{Kept}

-- n is the count of the numbers that are such: they are a list of that length, in which none comes twice
pub record Count (Such : ℕ → Type 0) (n : ℕ) : Type 0 where
  pub all : List ℕ
  pub each : (z : ℕ) → Memᴰ z all ↔ Such z
  pub once : Distinct all
  pub many : length all ≡ n

-- "the group number of a byte", of one with none but its upper w bits
abbrev pub IsGroup : ℕ → ℕ → ℕ → Type 0
IsGroup w p z = (b : ℕ) × Kept w b × (group_of p b ≡ z)
