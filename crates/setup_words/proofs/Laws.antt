-- The definitions of Words.antt in the library's words: lists compared byte by byte, a test of every byte, a fold over the digits.
use Rattle.std.proofs.Common.{◌≡◌, ℕ, List, [], ◌∷◌, false, ◌&&◌, refl, ap, length, nat_eq, arith}
use Rattle.std.specs.List.{list_all, fold}
use Rattle.std.specs.Str.{bytes_eq}
use Rattle.setup_words.specs.Words.{is_same, is_digit, are_digits, is_number, with_digit, number_from}

pub same_bytes : (a b : List ℕ) → bytes_eq a b ≡ is_same a b
unfolding is_same
same_bytes [] [] = refl
same_bytes [] (y ∷ ys) = refl
same_bytes (x ∷ xs) [] = refl
same_bytes (x ∷ xs) (y ∷ ys) = ap (λ t. nat_eq x y && t) (same_bytes xs ys)

pub all_digits : (l : List ℕ) → list_all is_digit l ≡ are_digits l
unfolding are_digits
all_digits [] = refl
all_digits (b ∷ bs) = ap (λ t. is_digit b && t) (all_digits bs)

pub fold_digits : (n : ℕ) (l : List ℕ) → fold with_digit n l ≡ number_from n l
unfolding number_from
fold_digits n [] = refl
fold_digits n (b ∷ bs) = fold_digits (with_digit n b) bs

pub number_none : (l : List ℕ) → length l ≡ 0 → is_number l ≡ false
unfolding is_number
number_none [] h = refl
number_none (x ∷ xs) h = absurd (omega arith)

pub number_some : (l : List ℕ) → (length l ≡ 0 → ⊥) → is_number l ≡ are_digits l
unfolding is_number
number_some [] h = absurd (h refl)
number_some (x ∷ xs) h = refl
