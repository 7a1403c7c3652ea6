-- Scripts with no event that runs: the empty one prints nothing, the others their closing line alone.
use Rattle.std.specs.Prelude.{ℕ, ◌≡◌, refl, List, [], ◌∷◌, ◌++◌}
use Rattle.decimal.specs.Decimal.{digits_up_to, digits, broken_text, script_word, at_word, newline}
use Rattle.script.specs.Event.{arity}
use Rattle.numbers.specs.Number.{joined, groups_at, number_at}
use Rattle.script.specs.Reading.{numbers_at, event_of, with_arguments, with_kind, read_event}
use Rattle.script.specs.Script.{followed, script_from, script_of}
use Rattle.rules.specs.Chip.{chip55, chip240, with_bits}
use Rattle.text.specs.Text.{lines_of, end_text, script_text, admitted_text, text_of}

empty : text_of chip55 [] ≡ []
unfolding text_of admitted_text script_text lines_of end_text script_of script_from
empty = refl

-- `script 14 at 0`
no_kind : text_of chip55 (14 ∷ []) ≡ script_word ++ (49 ∷ 52 ∷ []) ++ at_word ++ (48 ∷ newline ∷ [])
unfolding text_of admitted_text script_text lines_of end_text script_of script_from followed read_event with_kind with_arguments event_of arity numbers_at number_at groups_at broken_text digits digits_up_to
no_kind = refl

-- `script 13 at 0`
cut_short : text_of chip55 (0x80 ∷ []) ≡ script_word ++ (49 ∷ 51 ∷ []) ++ at_word ++ (48 ∷ newline ∷ [])
unfolding text_of admitted_text script_text lines_of end_text script_of script_from followed read_event with_kind number_at groups_at joined broken_text digits digits_up_to
cut_short = refl

-- `script 17 at 0`, whatever the script is
nine_bits : (bytes : List ℕ) → text_of (with_bits 9 chip55) bytes ≡ script_word ++ (49 ∷ 55 ∷ []) ++ at_word ++ (48 ∷ newline ∷ [])
unfolding text_of admitted_text broken_text digits digits_up_to
nine_bits bytes = refl

two_bits : (bytes : List ℕ) → text_of (with_bits 2 chip240) bytes ≡ script_word ++ (49 ∷ 55 ∷ []) ++ at_word ++ (48 ∷ newline ∷ [])
unfolding text_of admitted_text broken_text digits digits_up_to
two_bits bytes = refl

-- eight bits are no reason to refuse: the empty script prints nothing
eight_bits : text_of (with_bits 8 chip240) [] ≡ []
unfolding text_of admitted_text script_text lines_of end_text script_of script_from
eight_bits = refl
