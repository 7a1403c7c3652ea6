-- The arrays of a state have 256 places (248 of the nest, 240 of the counts of lost rises) whatever its chip, and a chip's lists are their first places. The others are clear:
-- where something stands there, the lists are the arrays whole, and have not the chip's length.
use Rattle.std.specs.Prelude.{ℕ, zero, suc, ◌+◌, ◌-◌, ◌≤◌, ◌<◌, ◌≡◌, ◌⊎◌, List, ◌++◌, Bool, false, not, cond, ◌||◌, length, get_or, replicate, eqb}
use Rattle.flag_words.specs.Flags.{on}
use Rattle.rules.specs.declared.Chip.{Chip}
use Rattle.rules.specs.Chip.{flag_count, exception_count}
use Rattle.places.specs.declared.Reach.{Reach}

-- whether something stands at one of the k places from n on
unfoldable pub some_past : (ℕ → Bool) → ℕ → ℕ → Bool
some_past holds n zero = false
some_past holds n (suc k) = holds (n + k) || some_past holds n k

-- a test by code answers as `holds` does at each place below n
abbrev pub AnswersBelow : (ℕ → Bool → Type 0) → (ℕ → Bool) → ℕ → Type 0
AnswersBelow post holds n = (i : ℕ) (b : Bool) → i < n → post i b → b ≡ holds i

-- how many places the lists have: the chip's n, or all of them
unfoldable pub reach : (ℕ → Bool) → ℕ → ℕ → ℕ
reach holds n size = cond (some_past holds n (size - n)) size n

abbrev pub nonzero : List ℕ → ℕ → Bool
nonzero l i = not (eqb (get_or l i 0) 0)

-- whether one of the arrays at exception numbers holds something at a place
abbrev pub occupied : List Bool → List Bool → List Bool → List Bool → List ℕ → ℕ → Bool
occupied pending active enabled level priority i =
    ((on pending i || on active i) || (on enabled i || on level i)) || nonzero priority i

abbrev pub reach_of : Chip → List Bool → List Bool → List Bool → List Bool → List ℕ → List ℕ → List ℕ → Reach
reach_of c pending active enabled level priority nest lost =
    record {
      places = reach (occupied pending active enabled level priority) (flag_count c) 256;
      nest = reach (nonzero nest) (exception_count c) 248;
      lost = reach (nonzero lost) c.lines 240;
    }

-- What the scan in blocks of 64 places asks: the chip's places end 64 or more before the array's end, or at it.
abbrev pub InBlocks : ℕ → ℕ → Type 0
InBlocks n size = (n + 64 ≤ size) ⊎ (n ≡ size)

pub record Blocks (c : Chip) : Type 0 where
  pub flags : InBlocks (flag_count c) 256
  pub nest : InBlocks (exception_count c) 248
  pub lost : InBlocks c.lines 240

-- a list with clear places up to the array's size
abbrev pub padded : {A : Type 0} → ℕ → A → List A → List A
padded size clear l = l ++ replicate (size - length l) clear
