-- Flags of a list read as a word and changed by a word. Past the end of the list a flag reads 0 and takes nothing.
use Rattle.std.specs.Prelude.{ℕ, zero, suc, ◌+◌, ◌-◌, ◌*◌, ◌/◌, ◌%◌, List, Bool, true, false, cond, ◌||◌, length, get_or, set, eqb}
use Rattle.bits.specs.Words.{bit}

-- flag n, off past the end
abbrev pub on : List Bool → ℕ → Bool
on flags n = get_or flags n false

-- the n flags from `at` on, the first the lowest bit
unfoldable pub word_of : List Bool → ℕ → ℕ → ℕ
word_of flags at zero = 0
word_of flags at (suc n) = bit (on flags at) + 2 * word_of flags (at + 1) n

-- the 32 flags that a register shows
abbrev pub flags_word : List Bool → ℕ → ℕ
flags_word flags at = word_of flags at 32

-- flag i takes the value if it is named
unfoldable pub put_flag : Bool → List Bool → ℕ → Bool → List Bool
put_flag value flags i named = cond named (set flags i value) flags

-- of the n flags from `at` on, those named by a 1 bit of the word take the value; a 0 bit does nothing
unfoldable pub put_flags : Bool → ℕ → List Bool → ℕ → ℕ → List Bool
put_flags value zero flags at word = flags
put_flags value (suc n) flags at word = put_flags value n (put_flag value flags at (eqb (word % 2) 1)) (at + 1) (word / 2)

-- a word written to a set register, and to a clear register
abbrev pub set_flags : List Bool → ℕ → ℕ → List Bool
set_flags flags at word = put_flags true 32 flags at word

abbrev pub clear_flags : List Bool → ℕ → ℕ → List Bool
clear_flags flags at word = put_flags false 32 flags at word

-- some flag of the n from `at` on is set
unfoldable pub some_flag : List Bool → ℕ → ℕ → Bool
some_flag flags at zero = false
some_flag flags at (suc n) = on flags (at + n) || some_flag flags at n

abbrev pub any_flag : List Bool → ℕ → Bool
any_flag flags at = some_flag flags at (length flags - at)
