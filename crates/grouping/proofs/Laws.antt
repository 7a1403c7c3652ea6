-- Words as the machine cuts them: a shift down and up again is the word without its low bits, and a small word is the number that it is as an i32.
use Prim.Native.Nat.{ℕ, ◌*◌, ◌/◌, ◌%◌, ◌^◌, ◌≤◌, ◌<◌}
use lib.Pow.{pow_mono}
use mathlib.Core.Path.{◌≡◌, refl}
use mathlib.Core.Bool.{true, false}
use native.Mathlib.Nat.{div-mul-le_self, div-eq_of_lt, mod-eq_of_lt, zero-mul}
use native.Mathlib.Omega.{arith}
use lib.IntN.{ℤ, pos, negsuc, nat_abs}
use lib.Signed.{lt_z}
use mir.Syntax.{w32}
use mir.Val.{to_z}
use borrow.Author.Tests.{lt-ltb, ltb-true}
use Rattle.grouping.specs.Grouping.{grouped}

pub cut_exact : (b k : ℕ) → b < 2 ^ 32 → (b / 2 ^ k * 2 ^ k) % 2 ^ 32 ≡ b / 2 ^ k * 2 ^ k
cut_exact b k h = let l = div-mul-le_self b (2 ^ k) in mod-eq_of_lt (omega arith)

-- a cut of 32 bits or more leaves nothing of a word
pub cut_whole : (b k : ℕ) → b < 2 ^ 32 → 32 ≤ k → b / 2 ^ k * 2 ^ k ≡ 0
cut_whole b k h l = let m = pow_mono l in rw (div-eq_of_lt {n = b} {m = 2 ^ k} (omega arith)) (zero-mul (2 ^ k))

-- cut so, a byte stays one
pub cut_byte : (b k : ℕ) → b < 256 → (b / 2 ^ k * 2 ^ k) % 2 ^ 32 < 256
cut_byte b k h = let l = div-mul-le_self b (2 ^ k) in rw (cut_exact b k (omega arith)) (omega arith)

pub to_z_pos : (n : ℕ) → n < 2 ^ 31 → to_z w32 n ≡ pos n
to_z_pos n h = simp (lt-ltb n (2 ^ 31) h)

-- ---- a priority that is not negative

pub not_negative : (z : ℤ) → lt_z z (pos 0) ≡ false → z ≡ pos (nat_abs z)
not_negative (pos b) h = refl
not_negative (negsuc k) h = let z : ◌≡◌ {A = ℕ} 0 1 = cc in let x : ⊥ = omega arith in absurd x

pub negative : (p : ℕ) (z : ℤ) → lt_z z (pos 0) ≡ true → z ≡ grouped p z
negative p (pos b) h = let l = ltb-true b 0 h in let x : ⊥ = omega arith in absurd x
negative p (negsuc k) h = refl
