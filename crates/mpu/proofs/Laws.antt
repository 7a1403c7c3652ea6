-- The machine's mask keeps the fields that the definition sums.
use Prim.Native.Nat.{ℕ, ◌+◌, ◌*◌, ◌/◌, ◌%◌, ◌^◌}
use mathlib.Core.Path.{◌≡◌, sym, ◌∙◌}
use native.Mathlib.Omega.{arith}
use lib.Bits.{bit_and, and_shr, and_mod, and_mask}
use lib.Pow.{split}
use Rattle.mpu.specs.Registers.{kept_attributes}
use Rattle.mpu.specs.Pmsav8.{kept_rlar}

-- a mask, above and below bit k
and_split : (k x m : ℕ) → bit_and x m ≡ bit_and (x / 2 ^ k) (m / 2 ^ k) * 2 ^ k + bit_and (x % 2 ^ k) (m % 2 ^ k)
and_split k x m = sym (split (bit_and x m) k) ∙ rw (and_shr x m k, and_mod x m k)

pub attribute_mask : (x : ℕ) → bit_and x 0x173FFF3F ≡ kept_attributes x
unfolding kept_attributes
attribute_mask x =
    let y = x % 2 ^ 28 in
    let z = y % 2 ^ 24 in
    let rights : y / 2 ^ 24 % 2 ^ 3 ≡ x / 2 ^ 24 % 2 ^ 3 = omega arith in
    let middle : z / 2 ^ 8 % 2 ^ 14 ≡ x / 2 ^ 8 % 2 ^ 14 = omega arith in
    let low : z % 2 ^ 8 % 2 ^ 6 ≡ x % 2 ^ 6 = omega arith in
    let n = and_split 28 x 0x173FFF3F in
    let r = and_split 24 y 0x73FFF3F in
    let s = and_split 8 z 0x3FFF3F in
    let a = and_mask (x / 2 ^ 28) 1 in
    let b = and_mask (y / 2 ^ 24) 3 in
    let c = and_mask (z / 2 ^ 8) 14 in
    let d = and_mask (z % 2 ^ 8) 6 in
    omega arith

pub rlar_mask : (x : ℕ) → bit_and x 0xFFFFFFEF ≡ kept_rlar x
unfolding kept_rlar
rlar_mask x =
    let low : x % 2 ^ 5 % 2 ^ 4 ≡ x % 2 ^ 4 = omega arith in
    let n = and_split 5 x 0xFFFFFFEF in
    let a = and_mask (x / 2 ^ 5) 27 in
    let b = and_mask (x % 2 ^ 5) 4 in
    omega arith
