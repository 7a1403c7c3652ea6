-- A signed number and its magnitude.
use Prim.Native.Nat.{ℕ, suc, ◌<◌, ◌≤◌, ◌^◌}
use mathlib.Core.Path.{◌≡◌, refl, ap}
use mathlib.Core.Bool.{true, false}
use mathlib.Core.List.{◌∷◌}
use native.Mathlib.Nat.{zero-add}
use native.Mathlib.Omega.{arith}
use lib.Dec.{T}
use lib.IntN.{ℤ, pos, negsuc, nat_abs, ◌-ℤ◌}
use lib.Signed.{lt_z, non_neg}
use mir.Syntax.{w32, w64}
use mir.Val.{SFits, to_z}
use borrow.Author.Tests.{ltb-true, lt-ltb}
use Rattle.decimal.specs.Decimal.{minus, digits, signed}

pub record Below (z : ℤ) : Type 0 where
  pub turned : pos 0 -ℤ z ≡ pos (nat_abs z)
  pub small : nat_abs z ≤ 2 ^ 31

pub below : (z : ℤ) → SFits w32 z → lt_z z (pos 0) ≡ true → Below z
below (pos n) f e = let z : ⊥ = omega (arith, ltb-true n 0 e) in absurd z
below (negsuc n) f e = record { turned = ap pos (zero-add (suc n)); small = omega arith }

pub record Above (z : ℤ) : Type 0 where
  pub sign : T (non_neg z)
  pub small : nat_abs z < 2 ^ 31

pub above : (z : ℤ) → SFits w32 z → lt_z z (pos 0) ≡ false → Above z
above (pos n) f e = record { sign = tt; small = omega arith }
above (negsuc n) f e = let n : ◌≡◌ {A = ℕ} 0 1 = cc in let z : ⊥ = omega arith in absurd z

-- the decimal of either
pub signed_below : (z : ℤ) → lt_z z (pos 0) ≡ true → signed z ≡ minus ∷ digits (nat_abs z)
unfolding signed
signed_below (pos n) e = let z : ⊥ = omega (arith, ltb-true n 0 e) in absurd z
signed_below (negsuc n) e = refl

pub signed_above : (z : ℤ) → lt_z z (pos 0) ≡ false → signed z ≡ digits (nat_abs z)
unfolding signed
signed_above (pos n) e = refl
signed_above (negsuc n) e = let n : ◌≡◌ {A = ℕ} 0 1 = cc in let z : ⊥ = omega arith in absurd z

pub to_z_pos64 : (n : ℕ) → n < 2 ^ 63 → to_z w64 n ≡ pos n
to_z_pos64 n h = simp (lt-ltb n (2 ^ 63) h)
