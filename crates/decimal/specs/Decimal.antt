-- Numbers as decimal text, in ASCII, and the two lines that `bench` prints (01, "Scripts").
use Rattle.std.specs.Prelude.{ℕ, zero, suc, ◌+◌, ◌-◌, ◌*◌, ◌/◌, ◌%◌, Bool, true, false, List, [], ◌∷◌, ◌++◌, ltb, ℤ, pos, negsuc}

abbrev pub newline : ℕ
newline = 10

abbrev pub space : ℕ
space = 32

abbrev pub minus : ℕ
minus = 45

-- a digit below 10, `0` to `9`
abbrev pub digit : ℕ → ℕ
digit d = 48 + d

-- The digits of n, the most significant first, with at most so many divisions by 10; the flag says that n is below 10.
-- (It is an argument so that closed numbers compute: a `cond` would work out both its sides.)
unfoldable pub digits_up_to : ℕ → Bool → ℕ → List ℕ
digits_up_to zero below n = digit n ∷ []
digits_up_to (suc most) true n = digit n ∷ []
digits_up_to (suc most) false n = digits_up_to most (ltb (n / 10) 10) (n / 10) ++ (digit (n % 10) ∷ [])

-- The shortest decimal of a number: no zero in front, and "0" for 0. Divided by 10 n times, n is surely below 10.
unfoldable pub digits : ℕ → List ℕ
digits n = digits_up_to n (ltb n 10) n

unfoldable pub signed : ℤ → List ℕ
signed (pos n) = digits n
signed (negsuc n) = minus ∷ digits (suc n)

abbrev pub field : ℕ → List ℕ
field n = digits n ++ (space ∷ [])

-- "a line, ended by a newline, for each event: its number from 1, the refusal or 0, the value, the top of the nest, the
-- execution priority"
unfoldable pub line_text : ℕ → ℕ → ℕ → ℕ → ℤ → List ℕ
line_text number refusal value top priority =
    field number ++ field refusal ++ field value ++ field top ++ signed priority ++ (newline ∷ [])

-- "script " and " at "
abbrev pub script_word : List ℕ
script_word = 115 ∷ 99 ∷ 114 ∷ 105 ∷ 112 ∷ 116 ∷ space ∷ []

abbrev pub at_word : List ℕ
at_word = space ∷ 97 ∷ 116 ∷ space ∷ []

-- "A broken script .. ends with `script R at B`, B the offset where that event starts, and a newline."
unfoldable pub broken_text : ℕ → ℕ → List ℕ
broken_text refusal offset = script_word ++ digits refusal ++ at_word ++ digits offset ++ (newline ∷ [])

-- The most bytes that these texts take where each number has 32 bits (Laws): a number; a number with a space after it or a
-- sign before it; the line of an event; the line of a broken script.
abbrev pub decimal_room : ℕ
decimal_room = 10

abbrev pub field_room : ℕ
field_room = 11

abbrev pub line_room : ℕ
line_room = 56

abbrev pub broken_room : ℕ
broken_room = 32

-- The number that a decimal text stands for, read after a number that was read before it.
unfoldable pub value_after : ℕ → List ℕ → ℕ
value_after before [] = before
value_after before (d ∷ ds) = value_after (before * 10 + (d - 48)) ds

abbrev pub decimal_value : List ℕ → ℕ
decimal_value text = value_after 0 text
