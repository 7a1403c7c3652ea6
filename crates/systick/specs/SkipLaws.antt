-- What the closed form gives is what the single ticks leave, by induction on their number; and they keep a timer sound.
use Prim.Native.Nat.{ℕ, zero, suc, ◌-◌, ◌%◌, ◌≤◌, ◌<◌, zero-le}
use Rattle.std.specs.Prelude.{◌≡◌, Bool, true, false, ◌&&◌, ◌||◌, eqb, ltb}
use Rattle.std.proofs.Math.Path.{refl}
use Rattle.std.proofs.Common.{sym, ap, subst, ◌∙◌, mod-eq_of_lt}
use Rattle.std.proofs.Math.Bool.{and-false, or-true}
use Rattle.std.proofs.Math.Nat.{zero-mod, mod-one, mod-eq-sub-mod}
use native.Mathlib.Omega.{arith}
use borrow.Author.Tests.{ltb-true, ltb-false, lt-ltb, le-ltb, ne_eqb}
use Rattle.bools.specs.Tests.{by_cases}
use Rattle.systick.specs.declared.Timer.{Timer}
use Rattle.systick.specs.declared.Ticked.{Ticked}
use Rattle.systick.specs.Timer.{enabled, steady, tick_of, SoundTimer}
use Rattle.systick.specs.Laws.{tick_sound}
use Rattle.systick.specs.Skip.{and_then, skip_of}
use Rattle.systick.specs.ClosedForm.{from_zero, falls_in, skipped}

pub skip_sound : (n : ℕ) {t : Timer} → SoundTimer t → SoundTimer (skip_of n t).timer
unfolding skip_of
skip_sound zero s = s
skip_sound (suc n) s = skip_sound n (tick_sound s)

absorb : (a b : Bool) → a || b && a ≡ a
absorb true b = refl
absorb false b = and-false b

-- ---- the closed form, tick by tick

-- k ticks from 0, up to one period
from_zero_none : (reload : ℕ) → from_zero reload 0 ≡ 0
unfolding from_zero
from_zero_none reload = simp (zero-mod (suc reload))

from_zero_first : (reload k : ℕ) → k < reload → from_zero reload (suc k) ≡ reload - k
unfolding from_zero
from_zero_first reload k h =
    let e : suc k % suc reload ≡ suc k = mod-eq_of_lt (omega arith) in
    let f : suc reload - suc k ≡ reload - k = omega arith in
    simp (e, ne_eqb (suc k) 0 (λ z. omega arith), f)

-- after a period it begins again
from_zero_again : (reload k : ℕ) → reload ≤ k → from_zero reload (suc k) ≡ from_zero reload (k - reload)
unfolding from_zero
from_zero_again reload k h =
    let f : suc k - suc reload ≡ k - reload = omega arith in
    let e : suc k % suc reload ≡ (k - reload) % suc reload = mod-eq-sub-mod {n = suc k} {m = suc reload} (omega arith) ∙ ap (λ (i : ℕ). i % suc reload) f in
    simp e

pub from_zero_still : (k : ℕ) → from_zero 0 k ≡ 0
unfolding from_zero
from_zero_still k = simp (mod-one k)

-- The timer by its fields, and whether it counts, which no tick changes.
module _ (control reload : ℕ) where
  abbrev at : ℕ → Bool → Timer
  at current count = record { control = control; reload = reload; current = current; count = count }

  abbrev counts : Bool
  counts = eqb (control % 2) 1

  -- off: nothing moves
  off : counts ≡ false → (n current : ℕ) (count : Bool) → skip_of n (at current count) ≡ steady (at current count)
  unfolding skip_of tick_of
  off p zero current count = refl
  off p (suc n) current count = simp (p, off p n current count)

  -- the closed form at no tick, and at one more: a tick first, then the rest
  none : counts ≡ true → (current : ℕ) (count : Bool) → skipped 0 (at current count) ≡ steady (at current count)
  unfolding skipped falls_in
  none p zero count = simp (p, from_zero_none reload, le-ltb reload 0 zero-le, and-false)
  none p (suc x) count = let e : suc x - 0 ≡ suc x = omega arith in simp (p, lt-ltb 0 (suc x) (omega arith), e)

  one : counts ≡ true → (n current : ℕ) (count : Bool) → skipped (suc n) (at current count) ≡ and_then (tick_of (at current count)) (skipped n (tick_of (at current count)).timer)
  unfolding skipped falls_in tick_of
  one p n zero count = cases (ltb 0 reload) (ltb n reload) refl refl
    where
      k : suc n - 0 ≡ suc n
      k = omega arith

      cases : (a b : Bool) → ltb 0 reload ≡ a → ltb n reload ≡ b → skipped (suc n) (at 0 count) ≡ and_then (tick_of (at 0 count)) (skipped n (tick_of (at 0 count)).timer)
      cases a true q r =
          let h = ltb-true n reload r in
          simp (p, le-ltb (suc n) 0 zero-le, k, r, from_zero_first reload n h, le-ltb reload (suc n) h, and-false)
      cases true false q r =
          let h = ltb-false n reload r in
          simp (p, le-ltb (suc n) 0 zero-le, k, q, r, from_zero_again reload n h, lt-ltb reload (suc n) (omega arith))
      cases false false q r =
          let l = ltb-false 0 reload q in
          let z : reload ≡ 0 = omega arith in
          let stopped : (i : ℕ) → from_zero reload i ≡ 0 = λ i. rw z (from_zero_still i) in
          simp (p, le-ltb (suc n) 0 zero-le, q, r, stopped)
  one p n (suc zero) count =
      let e : suc n - 1 ≡ n = omega arith in
      let f : n - 0 ≡ n = omega arith in
      simp (p, le-ltb (suc n) 1 (omega arith), e, f, le-ltb n 0 zero-le, or-true, absorb)
  one p n (suc (suc x)) count = cases (ltb n (suc x)) refl
    where
      e : suc (suc x) - 1 ≡ suc x
      e = omega arith

      cases : (b : Bool) → ltb n (suc x) ≡ b → skipped (suc n) (at (suc (suc x)) count) ≡ and_then (tick_of (at (suc (suc x)) count)) (skipped n (tick_of (at (suc (suc x)) count)).timer)
      cases true r =
          let h = ltb-true n (suc x) r in
          let f : suc (suc x) - suc n ≡ suc x - n = omega arith in
          simp (p, ne_eqb (suc (suc x)) 0 (λ z. omega arith), ne_eqb (suc (suc x)) 1 (λ z. omega arith), e, lt-ltb (suc n) (suc (suc x)) (omega arith), r, f)
      cases false r =
          let h = ltb-false n (suc x) r in
          let f : suc n - suc (suc x) ≡ n - suc x = omega arith in
          simp (p, ne_eqb (suc (suc x)) 0 (λ z. omega arith), ne_eqb (suc (suc x)) 1 (λ z. omega arith), e, le-ltb (suc n) (suc (suc x)) (omega arith), r, f, lt-ltb 0 (suc (suc x)) (omega arith), lt-ltb 0 (suc x) (omega arith))

tick_control : (t : Timer) → (tick_of t).timer.control ≡ t.control
unfolding tick_of
tick_control t =
    by_cases Keeps (enabled t)
    (λ _. by_cases Keeps (eqb t.current 0) (λ _. refl) (λ _. by_cases Keeps (eqb t.current 1) (λ _. refl) (λ _. refl)))
    (λ _. refl)
  where
    Keeps : Ticked → Type 0
    Keeps x = x.timer.control ≡ t.control

on : (n : ℕ) (t : Timer) → enabled t ≡ true → skip_of n t ≡ skipped n t
unfolding skip_of
on zero t p = sym (none t.control t.reload p t.current t.count)
on (suc n) t p =
    ap (and_then (tick_of t)) (on n (tick_of t).timer (rw (tick_control t) p))
    ∙ sym (one t.control t.reload p n t.current t.count)

-- ---- so many single ticks leave what the closed form gives

pub skip_skipped : (n : ℕ) (t : Timer) → skip_of n t ≡ skipped n t
unfolding skipped
skip_skipped n t = cases (enabled t) refl
  where
    cases : (b : Bool) → enabled t ≡ b → skip_of n t ≡ skipped n t
    cases true p = on n t p
    cases false p = off t.control t.reload p n t.current t.count ∙ simp p

-- ---- at zero, with a reload value of 0, nothing moves

zero_stays : (control : ℕ) (count : Bool) (n : ℕ) → skip_of n (at control 0 0 count) ≡ steady (at control 0 0 count)
unfolding skip_of tick_of
zero_stays control count zero = refl
zero_stays control count (suc n) =
    let t = at control 0 0 count in
    by_cases (λ (x : Ticked). and_then x (skip_of n x.timer) ≡ steady t) (enabled t) (λ _. zero_stays control count n) (λ _. zero_stays control count n)

pub skip_stopped : (n : ℕ) (t : Timer) → t.reload ≡ 0 → t.current ≡ 0 → skip_of n t ≡ steady t
skip_stopped n t p q =
    subst (λ (reload : ℕ). Stays reload t.current) (sym p) (subst (Stays 0) (sym q) (zero_stays t.control t.count n))
  where
    Stays : ℕ → ℕ → Type 0
    Stays reload current = skip_of n (at t.control reload current t.count) ≡ steady (at t.control reload current t.count)
