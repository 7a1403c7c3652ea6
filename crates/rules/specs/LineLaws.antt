-- What a word written to a set or clear register does to each of its lines, and what an unchanged level does: once over the line's number.
use Rattle.std.specs.Prelude.{ℕ, ◌+◌, ◌*◌, ◌≤◌, ◌<◌, ◌≡◌, List, Bool, length}
use Rattle.flag_words.specs.Flags.{on}

-- ---- the flags of the lines 32 k to 32 k + 31

-- Line 32 k + j's flag becomes `new j`, where the list has it, and every other flag stays: "a 0 bit written does nothing; bits past line 54 .. ignore writes".
pub record Changed (k : ℕ) (old left : List Bool) (new : ℕ → Bool) : Type 0 where
  pub line : (j : ℕ) → j < 32 → 16 + 32 * k + j < length old → on left (16 + 32 * k + j) ≡ new j
  pub below : (n : ℕ) → n < 16 + 32 * k → on left n ≡ on old n
  pub above : (n : ℕ) → 16 + 32 * k + 32 ≤ n → on left n ≡ on old n
