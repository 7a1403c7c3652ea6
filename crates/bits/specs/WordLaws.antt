-- Laws of words, over the index and the width.
use Rattle.std.specs.Prelude.{ℕ, zero, suc, ◌+◌, ◌-◌, ◌*◌, ◌/◌, ◌%◌, ◌^◌, ◌≤◌, ◌<◌, ◌≡◌, refl, Bool, true, false, not, ◌&&◌, eqb, ltb}
use Rattle.std.proofs.Math.Path.{sym, ap}
use Rattle.std.proofs.Common.{◌∙◌, mod-lt, mul-le-mul_right, div-mul-le_self, div-one, div-lt_iff_lt-mul, le_trans, arith, ltb-true, ltb-false}
use Rattle.std.proofs.Math.Nat.{mod-le, mod-mod, pow-succ', div-div-eq-div-mul}
use Rattle.std.proofs.Math.Pow as pow
use Rattle.bits.specs.Words.{bit, field, kept, bit_at, with_bit, without, byte_at, word_of_bytes}

-- a bit is 0 or 1, and reads back as its flag
pub bit_le : (b : Bool) → bit b ≤ 1
bit_le true = omega arith
bit_le false = omega arith

pub flag_of_bit : (b : Bool) → eqb (bit b) 1 ≡ b
flag_of_bit true = refl
flag_of_bit false = refl

-- bits h:l fit their width
pub field_lt : (h l x : ℕ) → field h l x < 2 ^ (h + 1 - l)
field_lt h l x = mod-lt _ (pow.pow_pos (h + 1 - l))

pub kept_le : (h l x : ℕ) → kept h l x ≤ x
kept_le h l x = le_trans (mul-le-mul_right (2 ^ l) (mod-le (x / 2 ^ l) (2 ^ (h + 1 - l)))) (div-mul-le_self x (2 ^ l))

pub kept_lt : (h l x : ℕ) → l ≤ h → kept h l x < 2 ^ (h + 1)
kept_lt h l x a = let e : h + 1 - l + l ≡ h + 1 = omega arith in rw e at (pow.shl_lt (h + 1 - l) l (field_lt h l x))

-- what is kept reads as the same field, so kept twice is kept once
pub field_kept : (h l x : ℕ) → field h l (kept h l x) ≡ field h l x
field_kept h l x = rw (pow.shl-shr (field h l x) l) (mod-mod (x / 2 ^ l) (2 ^ (h + 1 - l)))

pub kept_twice : (h l x : ℕ) → kept h l (kept h l x) ≡ kept h l x
kept_twice h l x = ap (λ (f : ℕ). f * 2 ^ l) (field_kept h l x)

-- a digit from its test
pub bit_of_digit : (t : ℕ) → t < 2 → bit (eqb t 1) ≡ t
bit_of_digit zero h = refl
bit_of_digit (suc zero) h = refl
bit_of_digit (suc (suc t)) h = let z : ⊥ = omega arith in absurd z

-- a bit of a word is a bit of its low part
low_bit : (x i j : ℕ) → x % 2 ^ (j + 1 + i) / 2 ^ i % 2 ≡ x / 2 ^ i % 2
low_bit x i j = ap (λ (y : ℕ). y % 2) (pow.field x (j + 1) i) ∙ pow.mod-mod-pow (x / 2 ^ i) j 1

pub bit_low : (x i k : ℕ) → i < k → x % 2 ^ k / 2 ^ i % 2 ≡ x / 2 ^ i % 2
bit_low x i k h = let e : k - (i + 1) + 1 + i ≡ k = omega arith in rw e at (low_bit x i (k - (i + 1)))

module _ (k : ℕ) (b : Bool) (x : ℕ) where
  -- what stands from bit k up, and below it
  with_bit_up : with_bit k b x / 2 ^ k ≡ x / 2 ^ (k + 1) * 2 + bit b
  unfolding with_bit
  with_bit_up = pow.high (x / 2 ^ (k + 1) * 2 + bit b) k (mod-lt x (pow.pow_pos k))

  with_bit_below : with_bit k b x % 2 ^ k ≡ x % 2 ^ k
  unfolding with_bit
  with_bit_below = pow.low (x / 2 ^ (k + 1) * 2 + bit b) k (mod-lt x (pow.pow_pos k))

  with_bit_above : with_bit k b x / 2 ^ (k + 1) ≡ x / 2 ^ (k + 1)
  with_bit_above = rw (← pow.shr-shr (with_bit k b x) k 1, with_bit_up) (omega (arith, bit_le b))

  -- the bit written reads back
  pub with_bit_same : bit_at k (with_bit k b x) ≡ b
  with_bit_same =
      let e : with_bit k b x / 2 ^ k % 2 ≡ bit b = rw with_bit_up (omega (arith, bit_le b)) in
      rw e (flag_of_bit b)

  -- every other bit stays
  pub with_bit_other : (i : ℕ) → (i ≡ k → ⊥) → bit_at i (with_bit k b x) ≡ bit_at i x
  with_bit_other i h = ap (λ (d : ℕ). eqb d 1) (cases (ltb i k) refl)
    where
      cases : (t : Bool) → ltb i k ≡ t → with_bit k b x / 2 ^ i % 2 ≡ x / 2 ^ i % 2
      cases true e =
          let l = ltb-true i k e in
          sym (bit_low (with_bit k b x) i k l) ∙ rw with_bit_below (bit_low x i k l)
      cases false e =
          let l = ltb-false i k e in
          let f : k + 1 + (i - (k + 1)) ≡ i = omega arith in
          let g : with_bit k b x / 2 ^ (k + 1) / 2 ^ (i - (k + 1)) ≡ x / 2 ^ (k + 1) / 2 ^ (i - (k + 1)) = rw with_bit_above in
          ap (λ (d : ℕ). d % 2) (rw (pow.shr-shr (with_bit k b x) (k + 1) (i - (k + 1)), pow.shr-shr x (k + 1) (i - (k + 1)), f) at g)

  -- a bit that has the value already
  pub with_bit_as_is : bit_at k x ≡ b → with_bit k b x ≡ x
  unfolding with_bit
  with_bit_as_is h =
      let d : x / 2 ^ k % 2 ≡ bit b = sym (bit_of_digit (x / 2 ^ k % 2) (omega arith)) ∙ ap bit h in
      let e : x / 2 ^ (k + 1) * 2 + bit b ≡ x / 2 ^ k = rw (← pow.shr-shr x k 1, ← d) (omega arith) in
      rw e (pow.split x k)

  pub with_bit_lt : (n : ℕ) → k < n → x < 2 ^ n → with_bit k b x < 2 ^ n
  with_bit_lt n l h =
      let j = n - (k + 1) in
      let e : j + (k + 1) ≡ n = omega arith in
      let f : suc j + k ≡ n = omega arith in
      let q : x / 2 ^ (k + 1) < 2 ^ j = pow.shr_lt j (k + 1) (rw e h) in
      let u : with_bit k b x / 2 ^ k < 2 ^ suc j = rw with_bit_up (omega (arith, bit_le b, pow-succ' 2 j)) in
      rw (← f, pow.pow-add 2 (suc j) k) ((div-lt_iff_lt-mul (pow.pow_pos k)).0 u)

-- the difference of two digits, cut at 0, is 1 where only the first is
digits : (a b : ℕ) → a < 2 → b < 2 → eqb (a - b) 1 ≡ eqb a 1 && not (eqb b 1)
digits zero zero h k = refl
digits zero (suc zero) h k = refl
digits (suc zero) zero h k = refl
digits (suc zero) (suc zero) h k = refl
digits zero (suc (suc b)) h k = let z : ⊥ = omega arith in absurd z
digits (suc zero) (suc (suc b)) h k = let z : ⊥ = omega arith in absurd z
digits (suc (suc a)) b h k = let z : ⊥ = omega arith in absurd z

pub half_bit : (x i : ℕ) → x / 2 / 2 ^ i ≡ x / 2 ^ suc i
half_bit x i = rw (pow-succ' 2 i, ← div-div-eq-div-mul)

-- each bit of x without y
pub without_bit : (n x y i : ℕ) → i < n → bit_at i (without n x y) ≡ bit_at i x && not (bit_at i y)
unfolding without
without_bit zero x y i h = let z : ⊥ = omega arith in absurd z
without_bit (suc n) x y zero h =
    let e : ((x % 2 - y % 2) + 2 * without n (x / 2) (y / 2)) / 1 % 2 ≡ x % 2 - y % 2 = omega arith in
    rw (e, div-one x, div-one y) (digits (x % 2) (y % 2) (omega arith) (omega arith))
without_bit (suc n) x y (suc i) h =
    let e : ((x % 2 - y % 2) + 2 * without n (x / 2) (y / 2)) / 2 ≡ without n (x / 2) (y / 2) = omega arith in
    rw (← half_bit _ i, e, ← half_bit x i, ← half_bit y i) (without_bit n (x / 2) (y / 2) i (omega arith))

pub without_lt : (n x y : ℕ) → without n x y < 2 ^ n
unfolding without
without_lt zero x y = omega arith
without_lt (suc n) x y = omega (arith, pow-succ' 2 n, without_lt n (x / 2) (y / 2))

pub without_le : (n x y : ℕ) → without n x y ≤ x
unfolding without
without_le zero x y = omega arith
without_le (suc n) x y = omega (arith, without_le n (x / 2) (y / 2))

-- bytes and words
pub word_of_its_bytes : (x : ℕ) → x < 2 ^ 32 → word_of_bytes (byte_at 0 x) (byte_at 1 x) (byte_at 2 x) (byte_at 3 x) ≡ x
word_of_its_bytes x h = let e : x / 16777216 % 256 ≡ x / 16777216 = omega arith in omega arith
