-- The machine's shifts and masks as the definitions' arithmetic.
use Prim.Native.Nat.{ℕ, zero, suc, min, ◌+◌, ◌-◌, ◌*◌, ◌/◌, ◌%◌, ◌^◌, ◌≤◌, ◌<◌}
use mathlib.Core.Path.{◌≡◌, refl, sym, ap, ◌∙◌}
use mathlib.Core.Bool.{true, false}
use native.Mathlib.Nat.{add-zero, add-mul, pow-succ'}
use native.Mathlib.Omega.{arith}
use lib.Bits.{bit_and, and_step, and_zero_l}
use lib.Dec.{lit<}
use lib.Pow as pow
use Rattle.bits.specs.Words.{bit, field, bit_at, with_bit, without, byte_at}
use Rattle.bits.specs.WordLaws.{bit_of_digit}

digit : (w a b : ℕ) → a < 2 → w * 2 + min a (1 - b) ≡ (a - b) + 2 * w
digit w a b h = omega arith

-- `x & !y` is x without y
pub and_not : (n x y : ℕ) → x < 2 ^ n → y < 2 ^ n → bit_and x (2 ^ n - 1 - y) ≡ without n x y
unfolding without
and_not zero x y h k = let e : x ≡ 0 = omega arith in rw e (and_zero_l (0 - y))
and_not (suc n) x y h k =
    let p = pow-succ' 2 n in
    let e : (2 ^ suc n - 1 - y) / 2 ≡ 2 ^ n - 1 - y / 2 = omega arith in
    let f : (2 ^ suc n - 1 - y) % 2 ≡ 1 - y % 2 = omega arith in
    and_step x (2 ^ suc n - 1 - y) ∙ rw (e, f, and_not n (x / 2) (y / 2) (omega arith) (omega arith)) (digit (without n (x / 2) (y / 2)) (x % 2) (y % 2) (omega arith))

-- x << s >> (s + l), with s = 31 - h, is bits h:l
pub field_by_shifts : (h l x : ℕ) → l ≤ h → h < 32 → x * 2 ^ (31 - h) % 2 ^ 32 / 2 ^ (31 - h + l) ≡ field h l x
field_by_shifts h l x a b =
    let s = 31 - h in
    let e : h + 1 + s ≡ 32 = omega arith in
    let f : h + 1 - l + l ≡ h + 1 = omega arith in
    let m : x * 2 ^ s % 2 ^ (h + 1 + s) / 2 ^ s ≡ x % 2 ^ (h + 1) = pow.field (x * 2 ^ s) (h + 1) s ∙ ap (λ (y : ℕ). y % 2 ^ (h + 1)) (pow.shl-shr x s) in
    sym (pow.shr-shr (x * 2 ^ s % 2 ^ 32) s l) ∙ ap (λ (y : ℕ). y / 2 ^ l) (rw e at m) ∙ rw f at (pow.field x (h + 1 - l) l)

-- one byte up is eight bits
pub byte_by_shift : (i x : ℕ) → i < 4 → x / 2 ^ (8 * i) % 256 ≡ byte_at i x
byte_by_shift zero x h = refl
byte_by_shift (suc zero) x h = refl
byte_by_shift (suc (suc zero)) x h = refl
byte_by_shift (suc (suc (suc zero))) x h = refl
byte_by_shift (suc (suc (suc (suc i)))) x h = let z : ⊥ = omega arith in absurd z

-- the code's `1 << k` is 2 ^ k
pub one_shl : (k : ℕ) → k < 32 → 1 * 2 ^ k % 2 ^ 32 ≡ 2 ^ k
one_shl k h = pow.shl_exact 1 k 32 (lit< tt) (omega arith) ∙ omega arith

-- a word whose bit k is 0, with 2 ^ k added; and one whose bit k is 1, with 2 ^ k taken away
pub add_bit : (k x : ℕ) → bit_at k x ≡ false → x + 2 ^ k ≡ with_bit k true x
unfolding with_bit
add_bit k x h =
    let d = sym (bit_of_digit (x / 2 ^ k % 2) (omega arith)) ∙ ap bit h in
    let e : x / 2 ^ (k + 1) * 2 ≡ x / 2 ^ k = rw (← pow.shr-shr x k 1) (omega arith) in
    rw (e, add-mul) (omega (arith, pow.split x k))

pub sub_bit : (k x : ℕ) → bit_at k x ≡ true → (2 ^ k ≤ x) × (x - 2 ^ k ≡ with_bit k false x)
unfolding with_bit
sub_bit k x h =
    let d = sym (bit_of_digit (x / 2 ^ k % 2) (omega arith)) ∙ ap bit h in
    let q = x / 2 ^ (k + 1) * 2 in
    let e : q + 1 ≡ x / 2 ^ k = rw (← pow.shr-shr x k 1) (omega arith) in
    let s : q * 2 ^ k + 1 * 2 ^ k + x % 2 ^ k ≡ x = rw (← e, add-mul) at (pow.split x k) in
    (omega arith, rw (add-zero) (omega arith))
