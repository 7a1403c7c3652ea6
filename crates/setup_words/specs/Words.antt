-- The words after a program's name that name a setup: pairs of a word and its value, in any order, each word at most once.
use Rattle.std.specs.Prelude.{ℕ, ◌+◌, ◌-◌, ◌*◌, min, List, [], ◌∷◌, Bool, true, false, cond, ◌&&◌, leb, eqb}
use Rattle.mpu.specs.declared.Edition.{Edition}
use Rattle.mpu.specs.declared.Edition.TheVariants.{Pmsav7, Pmsav8}
use Rattle.rules.specs.declared.Part.{Part}
use Rattle.rules.specs.declared.Part.TheVariants.{Lines55, Lines240, CortexM0}
use Rattle.setup_words.specs.declared.Words.{Words}

-- "--lines", "55", "240"
abbrev pub lines_word : List ℕ
lines_word = 45 ∷ 45 ∷ 108 ∷ 105 ∷ 110 ∷ 101 ∷ 115 ∷ []

abbrev pub number55 : List ℕ
number55 = 53 ∷ 53 ∷ []

abbrev pub number240 : List ℕ
number240 = 50 ∷ 52 ∷ 48 ∷ []

-- "--bits"
abbrev pub bits_word : List ℕ
bits_word = 45 ∷ 45 ∷ 98 ∷ 105 ∷ 116 ∷ 115 ∷ []

-- "--guard", "pmsav7", "pmsav8"
abbrev pub guard_word : List ℕ
guard_word = 45 ∷ 45 ∷ 103 ∷ 117 ∷ 97 ∷ 114 ∷ 100 ∷ []

abbrev pub pmsav7_word : List ℕ
pmsav7_word = 112 ∷ 109 ∷ 115 ∷ 97 ∷ 118 ∷ 55 ∷ []

abbrev pub pmsav8_word : List ℕ
pmsav8_word = 112 ∷ 109 ∷ 115 ∷ 97 ∷ 118 ∷ 56 ∷ []

-- "--core", "m3", "m0"
abbrev pub core_word : List ℕ
core_word = 45 ∷ 45 ∷ 99 ∷ 111 ∷ 114 ∷ 101 ∷ []

abbrev pub m3_word : List ℕ
m3_word = 109 ∷ 51 ∷ []

abbrev pub m0_word : List ℕ
m0_word = 109 ∷ 48 ∷ []

-- byte for byte
unfoldable pub is_same : List ℕ → List ℕ → Bool
is_same [] [] = true
is_same [] (y ∷ ys) = false
is_same (x ∷ xs) [] = false
is_same (x ∷ xs) (y ∷ ys) = eqb x y && is_same xs ys

-- the digits 0 to 9 in ASCII, and a decimal number: one of them or more
abbrev pub is_digit : ℕ → Bool
is_digit b = leb 48 b && leb b 57

unfoldable pub are_digits : List ℕ → Bool
are_digits [] = true
are_digits (b ∷ bs) = is_digit b && are_digits bs

unfoldable pub is_number : List ℕ → Bool
is_number [] = false
is_number (b ∷ bs) = are_digits (b ∷ bs)

-- n and the digit b after it; a number that is too large for 32 bits is the largest that is not
abbrev pub with_digit : ℕ → ℕ → ℕ
with_digit n b = min (10 * n + (b - 48)) 0xFFFFFFFF

-- the number that n and the digits after it write
unfoldable pub number_from : ℕ → List ℕ → ℕ
number_from n [] = n
number_from n (b ∷ bs) = number_from (with_digit n b) bs

-- No words: the 55-line chip, three bits, the guard of ARMv7-M.
abbrev pub started : Words
started = record { setup = record { part = Lines55; bits = 3; guard = Pmsav7 }; core = false; lines = false; bits = false; guard = false; wrong = false }

-- An unknown word, a value that is no choice or no number, or a word for the second time: whatever follows, the words stay wrong.
abbrev pub mistaken : Words → Words
mistaken w = record { setup = w.setup; core = w.core; lines = w.lines; bits = w.bits; guard = w.guard; wrong = true }

-- the lines named, whichever word comes first: the Cortex-M0 has its own
abbrev pub with_lines : Part → Part → Part
with_lines Lines55 part = part
with_lines Lines240 part = part
with_lines CortexM0 part = CortexM0

abbrev pub with_part : Words → Part → Words
with_part w part =
    record { setup = record { part = with_lines w.setup.part part; bits = w.setup.bits; guard = w.setup.guard }; core = w.core; lines = true; bits = w.bits; guard = w.guard; wrong = w.wrong }

abbrev pub keeping : Words → ℕ → Words
keeping w n =
    record { setup = record { part = w.setup.part; bits = n; guard = w.setup.guard }; core = w.core; lines = w.lines; bits = true; guard = w.guard; wrong = w.wrong }

abbrev pub guarded_by : Words → Edition → Words
guarded_by w e =
    record { setup = record { part = w.setup.part; bits = w.setup.bits; guard = e }; core = w.core; lines = w.lines; bits = w.bits; guard = true; wrong = w.wrong }

abbrev pub with_core : Words → Part → Words
with_core w part =
    record { setup = record { part = part; bits = w.setup.bits; guard = w.setup.guard }; core = true; lines = w.lines; bits = w.bits; guard = w.guard; wrong = w.wrong }

-- `--core m3|m0`
unfoldable pub core_by : Words → List ℕ → Words
core_by w value =
    cond w.core (mistaken w)
    (cond (is_same value m3_word) (with_core w w.setup.part)
    (cond (is_same value m0_word) (with_core w CortexM0)
    (mistaken w)))

-- `--lines 55|240`
unfoldable pub lines_by : Words → List ℕ → Words
lines_by w value =
    cond w.lines (mistaken w)
    (cond (is_same value number55) (with_part w Lines55)
    (cond (is_same value number240) (with_part w Lines240)
    (mistaken w)))

-- `--bits N`, any number: one outside 3 to 8 is no mistake here, and is refused by 17 when the script is to run
unfoldable pub bits_by : Words → List ℕ → Words
bits_by w value =
    cond w.bits (mistaken w)
    (cond (is_number value) (keeping w (number_from 0 value))
    (mistaken w))

-- `--guard pmsav7|pmsav8`
unfoldable pub guard_by : Words → List ℕ → Words
guard_by w value =
    cond w.guard (mistaken w)
    (cond (is_same value pmsav7_word) (guarded_by w Pmsav7)
    (cond (is_same value pmsav8_word) (guarded_by w Pmsav8)
    (mistaken w)))

-- a word and its value
unfoldable pub paired : Words → List ℕ → List ℕ → Words
paired w word value =
    cond (is_same word lines_word) (lines_by w value)
    (cond (is_same word bits_word) (bits_by w value)
    (cond (is_same word guard_word) (guard_by w value)
    (cond (is_same word core_word) (core_by w value)
    (mistaken w))))
