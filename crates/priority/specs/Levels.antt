-- The group numbers that there are: -2, -1 and the first multiples of a power of two. So a strictly rising list of them is short.
use Rattle.std.specs.Prelude.{ℕ, ◌-◌, ◌*◌, ◌%◌, ◌^◌, ◌<◌, min, ◌≡◌, List, [], ◌∷◌, map, ℤ, pos, negsuc}

-- a byte with none but its upper w bits
pub record Kept (w b : ℕ) : Type 0 where
  pub byte : b < 256
  pub cut : b % 2 ^ (8 - w) ≡ 0

-- "L, the count of group numbers, is 8 for p up to 4, then 4, 2, 1"; document 02, E7: "L becomes 2 to the power of the smaller of w and 7 - p"
abbrev pub levels : ℕ → ℕ → ℕ
levels w p = 2 ^ min w (7 - p)

abbrev pub by_setting : ℕ → List ℕ
by_setting w = map (levels w) (0 ∷ 1 ∷ 2 ∷ 3 ∷ 4 ∷ 5 ∷ 6 ∷ 7 ∷ [])

-- ---- one of -2, -1 and the K first multiples of M

pub data Level (M K : ℕ) (z : ℤ) : Type 0 where
  two : z ≡ negsuc 1 → Level M K z
  one : z ≡ negsuc 0 → Level M K z
  at : (q : ℕ) → q < K → z ≡ pos (q * M) → Level M K z
