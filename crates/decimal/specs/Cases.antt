-- Lines of 01's example and of a broken script, byte by byte.
use Rattle.std.specs.Prelude.{◌≡◌, refl, [], ◌∷◌, pos, negsuc}
use Rattle.decimal.specs.Decimal.{digits_up_to, digits, signed, line_text, broken_text}

-- "0", "4294967295" and "-2"
zero_text : digits 0 ≡ 48 ∷ []
unfolding digits digits_up_to
zero_text = refl

largest_text : digits 4294967295 ≡ 52 ∷ 50 ∷ 57 ∷ 52 ∷ 57 ∷ 54 ∷ 55 ∷ 50 ∷ 57 ∷ 53 ∷ []
unfolding digits digits_up_to
largest_text = refl

nmi_text : signed (negsuc 1) ≡ 45 ∷ 50 ∷ []
unfolding signed digits digits_up_to
nmi_text = refl

-- "3 0 16 16 0" and "1 0 0 0 256", each with its newline
third_line : line_text 3 0 16 16 (pos 0) ≡ 51 ∷ 32 ∷ 48 ∷ 32 ∷ 49 ∷ 54 ∷ 32 ∷ 49 ∷ 54 ∷ 32 ∷ 48 ∷ 10 ∷ []
unfolding line_text signed digits digits_up_to
third_line = refl

first_line : line_text 1 0 0 0 (pos 256) ≡ 49 ∷ 32 ∷ 48 ∷ 32 ∷ 48 ∷ 32 ∷ 48 ∷ 32 ∷ 50 ∷ 53 ∷ 54 ∷ 10 ∷ []
unfolding line_text signed digits digits_up_to
first_line = refl

-- "script 13 at 5" and its newline
broken_line : broken_text 13 5 ≡ 115 ∷ 99 ∷ 114 ∷ 105 ∷ 112 ∷ 116 ∷ 32 ∷ 49 ∷ 51 ∷ 32 ∷ 97 ∷ 116 ∷ 32 ∷ 53 ∷ 10 ∷ []
unfolding broken_text digits digits_up_to
broken_line = refl
