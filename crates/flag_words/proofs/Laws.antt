-- One turn of each loop over flags, and the room that it needs.
use Prim.Native.Nat.{ℕ, zero, suc, min, ◌+◌, ◌-◌, ◌*◌, ◌/◌, ◌%◌, ◌^◌, ◌≤◌, ◌<◌}
use mathlib.Core.Path.{◌≡◌, refl}
use mathlib.Core.List.{List}
use mathlib.Core.Bool.{Bool, true, false}
use native.Mathlib.Nat.{pow-succ'}
use native.Mathlib.Omega.{arith}
use lib.ListN.{length}
use lib.Pow.{pow_mono}
use lib.Dec.{eqb, leb}
use borrow.Author.Tests.{leb-true, leb-false}
use Rattle.bits.specs.Words.{bit}
use Rattle.flag_words.specs.Flags.{on, word_of, put_flag, put_flags}
use Rattle.flag_words.specs.FlagLaws.{word_lt, word_past_end}

-- nothing is read of the 32 flags from their end, or the list's, on
pub word_at_end : (flags : List Bool) (at : ℕ) → word_of flags (min (at + 32) (length flags)) (at + 32 - min (at + 32) (length flags)) ≡ 0
unfolding word_of
word_at_end flags at = cases (leb (length flags) (at + 32)) refl
  where
    cases : (b : Bool) → leb (length flags) (at + 32) ≡ b → word_of flags (min (at + 32) (length flags)) (at + 32 - min (at + 32) (length flags)) ≡ 0
    cases true e =
        let h = leb-true (length flags) (at + 32) e in
        word_past_end flags (min (at + 32) (length flags)) (at + 32 - min (at + 32) (length flags)) (omega arith)
    cases false e =
        let h = leb-false (length flags) (at + 32) e in
        let f : at + 32 - min (at + 32) (length flags) ≡ 0 = omega arith in
        rw f

pub word_step : (flags : List Bool) (at i : ℕ) → at < i → i ≤ at + 32 → word_of flags (i - 1) (at + 32 - (i - 1)) ≡ bit (on flags (i - 1)) + 2 * word_of flags i (at + 32 - i)
unfolding word_of
word_step flags at i h k =
    let e : at + 32 - (i - 1) ≡ suc (at + 32 - i) = omega arith in
    let f : i - 1 + 1 ≡ i = omega arith in
    rw (e, f)

pub put_step : (v : Bool) (k : ℕ) (flags : List Bool) (i w : ℕ) → w < 2 ^ k → (w ≡ 0 → ⊥) → (0 < k) × ((w / 2 < 2 ^ (k - 1)) × (put_flags v k flags i w ≡ put_flags v (k - 1) (put_flag v flags i (eqb (w % 2) 1)) (i + 1) (w / 2)))
unfolding put_flags
put_step v zero flags i w h n = let z : ⊥ = n (omega arith) in absurd z
put_step v (suc k) flags i w h n =
    let e : suc k - 1 ≡ k = omega arith in
    (omega arith, (rw e (omega (arith, pow-succ' 2 k)), rw e))

-- the flags after the first of 32 leave room for it
pub rest_lt : (flags : List Bool) (at i : ℕ) → at < i → word_of flags i (at + 32 - i) < 2 ^ 31
rest_lt flags at i h =
    let k : at + 32 - i ≤ 31 = omega arith in
    omega (arith, word_lt flags i (at + 32 - i), pow_mono k)
