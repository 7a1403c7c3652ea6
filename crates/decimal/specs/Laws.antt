-- What holds of decimal text: it reads back as its number, has digits only, no zero in front, and at most ten bytes for 32 bits.
use Rattle.std.specs.Prelude.{ℕ, zero, suc, ◌+◌, ◌-◌, ◌*◌, ◌/◌, ◌%◌, ◌^◌, ◌<◌, ◌≤◌, ◌≡◌, refl, Bool, true, false, List, [], ◌∷◌, ◌++◌, length, get_or, ℤ, pos, negsuc, nat_abs, ltb}
use Rattle.std.proofs.Common.{ap, ◌∙◌, arith, length-append, lt-ltb, le-ltb, ltb-true, ltb-false}
use Rattle.std.proofs.Math.Nat.{pow-succ'}
use Rattle.std.proofs.Math.ListN.{get_or-append}
use Rattle.std.proofs.Math.Seq.{get_or-append_seam}
use Rattle.decimal.specs.Decimal.{digit, digits_up_to, digits, signed, line_text, broken_text, value_after, decimal_value, decimal_room, field_room, line_room, broken_room}

-- more divisions than needed change nothing
enough : (f g n : ℕ) → n ≤ f → n ≤ g → digits_up_to f (ltb n 10) n ≡ digits_up_to g (ltb n 10) n
unfolding digits_up_to
enough zero zero n h k = refl
enough zero (suc g) n h k = let e : n < 10 = omega arith in simp (lt-ltb n 10 e)
enough (suc f) zero n h k = let e : n < 10 = omega arith in simp (lt-ltb n 10 e)
enough (suc f) (suc g) n h k = cases (ltb n 10) refl (λ l. enough f g (n / 10) (omega arith) (omega arith))
  where
    cases : (b : Bool) → ltb n 10 ≡ b → (10 ≤ n → digits_up_to f (ltb (n / 10) 10) (n / 10) ≡ digits_up_to g (ltb (n / 10) 10) (n / 10)) → digits_up_to (suc f) (ltb n 10) n ≡ digits_up_to (suc g) (ltb n 10) n
    cases true e ih = simp e
    cases false e ih = simp e (ap (λ (ds : List ℕ). ds ++ (digit (n % 10) ∷ [])) (ih (ltb-false n 10 e)))

pub digits_small : (n : ℕ) → n < 10 → digits n ≡ digit n ∷ []
unfolding digits digits_up_to
digits_small zero h = refl
digits_small (suc m) h = simp (lt-ltb (suc m) 10 h)

pub digits_step : (n : ℕ) → 10 ≤ n → digits n ≡ digits (n / 10) ++ (digit (n % 10) ∷ [])
unfolding digits digits_up_to
digits_step zero h = let z : ⊥ = omega arith in absurd z
digits_step (suc m) h =
    simp (le-ltb (suc m) 10 h)
    (ap (λ (ds : List ℕ). ds ++ (digit (suc m % 10) ∷ [])) (enough m (suc m / 10) (suc m / 10) (omega arith) (omega arith)))

-- What holds of every number below 10, and of a number where it holds of the number without its last digit, holds of all.
module _ (P : ℕ → List ℕ → Type 0) (one : (n : ℕ) → n < 10 → P n (digit n ∷ [])) (more : (n : ℕ) (ds : List ℕ) → 10 ≤ n → P (n / 10) ds → P n (ds ++ (digit (n % 10) ∷ []))) where
  up_to : (most n : ℕ) → n < most → P n (digits n)
  up_to zero n h = let z : ⊥ = omega arith in absurd z
  up_to (suc most) n h = cases (ltb n 10) refl (λ l. up_to most (n / 10) (omega arith))
    where
      cases : (b : Bool) → ltb n 10 ≡ b → (10 ≤ n → P (n / 10) (digits (n / 10))) → P n (digits n)
      cases true e ih = let k = ltb-true n 10 e in rw (digits_small n k) (one n k)
      cases false e ih = let k = ltb-false n 10 e in rw (digits_step n k) (more n (digits (n / 10)) k (ih k))

  pub by_digits : (n : ℕ) → P n (digits n)
  by_digits n = up_to (suc n) n (omega arith)

value_snoc : (before : ℕ) (ds : List ℕ) (d : ℕ) → value_after before (ds ++ (d ∷ [])) ≡ value_after before ds * 10 + (d - 48)
unfolding value_after
value_snoc before [] d = refl
value_snoc before (x ∷ ds) d = value_snoc (before * 10 + (x - 48)) ds d

-- a decimal text reads back as its number
pub value_digits : (n : ℕ) → decimal_value (digits n) ≡ n
unfolding value_after
value_digits = by_digits (λ n ds. decimal_value ds ≡ n) (λ n h. omega arith) (λ n ds h ih. value_snoc 0 ds (digit (n % 10)) ∙ omega arith)

pub record Digit (d : ℕ) : Type 0 where
  pub low : 48 ≤ d
  pub high : d ≤ 57

-- every byte is a digit
pub digits_digit : (n i : ℕ) → i < length (digits n) → Digit (get_or (digits n) i 0)
digits_digit = by_digits (λ n ds. (i : ℕ) → i < length ds → Digit (get_or ds i 0)) one more
  where
    one : (n : ℕ) → n < 10 → (i : ℕ) → i < 1 → Digit (get_or (digit n ∷ []) i 0)
    one n h zero k = record { low = omega arith; high = omega arith }
    one n h (suc i) k = let z : ⊥ = omega arith in absurd z

    more : (n : ℕ) (ds : List ℕ) → 10 ≤ n → ((i : ℕ) → i < length ds → Digit (get_or ds i 0)) → (i : ℕ) → i < length (ds ++ (digit (n % 10) ∷ [])) → Digit (get_or (ds ++ (digit (n % 10) ∷ [])) i 0)
    more n ds h ih i k = cases (ltb i (length ds)) refl
      where
        cases : (b : Bool) → ltb i (length ds) ≡ b → Digit (get_or (ds ++ (digit (n % 10) ∷ [])) i 0)
        cases true e = let l = ltb-true i (length ds) e in rw (get_or-append ds (digit (n % 10) ∷ []) 0 i l) (ih i l)
        cases false e =
            let q : i ≡ length ds = omega (arith, ltb-false i (length ds) e, simp length-append at k) in
            rw (q, get_or-append_seam ds (digit (n % 10)) [] 0) (record { low = omega arith; high = omega arith })

pub digits_some : (n : ℕ) → 0 < length (digits n)
digits_some = by_digits (λ n ds. 0 < length ds) (λ n h. omega arith) (λ n ds h ih. simp length-append (omega arith))

-- the first digit of a number that is not 0 is not 0
pub digits_first : (n : ℕ) → 0 < n → 48 < get_or (digits n) 0 0
digits_first n h = (by_digits (λ n ds. (0 < length ds) × (0 < n → 48 < get_or ds 0 0)) (λ n h. (omega arith, λ k. omega arith)) more n).1 h
  where
    more : (n : ℕ) (ds : List ℕ) → 10 ≤ n → (0 < length ds) × (0 < n / 10 → 48 < get_or ds 0 0) → (0 < length (ds ++ (digit (n % 10) ∷ []))) × (0 < n → 48 < get_or (ds ++ (digit (n % 10) ∷ [])) 0 0)
    more n ds h ih = (simp length-append (omega arith), λ k. rw (get_or-append ds (digit (n % 10) ∷ []) 0 0 ih.0) (ih.1 (omega arith)))

-- no zero in front
pub no_leading_zero : (n : ℕ) → 1 < length (digits n) → 48 < get_or (digits n) 0 0
no_leading_zero n h = digits_first n (cases (ltb n 1) refl)
  where
    cases : (b : Bool) → ltb n 1 ≡ b → 0 < n
    cases true e = let k = ltb-true n 1 e in omega (arith, ap length (digits_small n (omega arith)))
    cases false e = ltb-false n 1 e

-- k + 1 digits hold the numbers below 10 ^ (k + 1), and fewer hold only those below 10 ^ k
pub digits_at_most : (k n : ℕ) → n < 10 ^ suc k → length (digits n) ≤ suc k
digits_at_most zero n h = omega (arith, ap length (digits_small n (omega arith)))
digits_at_most (suc k) n h = cases (ltb n 10) refl (λ l. digits_at_most k (n / 10) (omega (arith, pow-succ' 10 (suc k))))
  where
    cases : (b : Bool) → ltb n 10 ≡ b → (10 ≤ n → length (digits (n / 10)) ≤ suc k) → length (digits n) ≤ suc (suc k)
    cases true e ih = omega (arith, ap length (digits_small n (ltb-true n 10 e)))
    cases false e ih = let l = ltb-false n 10 e in rw (digits_step n l) (simp length-append (omega (arith, ih l)))

pub digits_length : (k n : ℕ) → 10 ^ k ≤ n → n < 10 ^ suc k → length (digits n) ≡ suc k
digits_length zero n l h = ap length (digits_small n (omega arith))
digits_length (suc k) n l h =
    let e = digits_length k (n / 10) (omega (arith, pow-succ' 10 k)) (omega (arith, pow-succ' 10 (suc k))) in
    rw (digits_step n (omega (arith, pow-succ' 10 k))) (simp length-append (omega arith))

-- the rooms of Decimal
pub decimal_room_lem : (n : ℕ) → n < 2 ^ 32 → length (digits n) ≤ decimal_room
decimal_room_lem n h = digits_at_most 9 n (omega arith)

pub signed_room : (z : ℤ) → nat_abs z < 2 ^ 32 → length (signed z) ≤ field_room
unfolding signed
signed_room (pos n) h = omega (arith, decimal_room_lem n h)
signed_room (negsuc n) h = omega (arith, decimal_room_lem (suc n) h)

pub line_room_lem : (number refusal value top : ℕ) (priority : ℤ) → number < 2 ^ 32 → refusal < 2 ^ 32 → value < 2 ^ 32 → top < 2 ^ 32 → nat_abs priority < 2 ^ 32 → length (line_text number refusal value top priority) ≤ line_room
unfolding line_text
line_room_lem number refusal value top priority h₁ h₂ h₃ h₄ h₅ =
    simp length-append
    (omega (arith, decimal_room_lem number h₁, decimal_room_lem refusal h₂, decimal_room_lem value h₃, decimal_room_lem top h₄, signed_room priority h₅))

pub broken_room_lem : (refusal offset : ℕ) → refusal < 2 ^ 32 → offset < 2 ^ 32 → length (broken_text refusal offset) ≤ broken_room
unfolding broken_text
broken_room_lem refusal offset h₁ h₂ = simp length-append (omega (arith, decimal_room_lem refusal h₁, decimal_room_lem offset h₂))
