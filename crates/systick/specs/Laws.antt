-- The timer's laws: the soundness test is the record of facts, and every operation keeps a timer sound.
use Rattle.std.specs.Prelude.{ℕ, ◌^◌, ◌≡◌, refl, Bool, true, false, ◌&&◌, T, ltb, eqb}
use Rattle.std.proofs.Common.{arith, ltb→lt, lt-ltb}
use Rattle.bools.specs.Tests.{both}
use Rattle.systick.specs.declared.Timer.{Timer}
use Rattle.systick.specs.Timer.{fresh_timer, enabled, tick_of, read_control, write_control, write_reload, write_current, sound_timer, SoundTimer}

pub of_sound_timer : (t : Timer) → T (sound_timer t) → SoundTimer t
unfolding sound_timer
of_sound_timer t h =
    let p = both (ltb t.control 8 && ltb t.reload (2 ^ 24)) (ltb t.current (2 ^ 24)) h in
    let q = both (ltb t.control 8) (ltb t.reload (2 ^ 24)) p.0 in
    record { control = ltb→lt _ _ q.0; reload = ltb→lt _ _ q.1; current = ltb→lt _ _ p.1 }

pub sound_timer_of : {t : Timer} → SoundTimer t → T (sound_timer t)
unfolding sound_timer
sound_timer_of {t} s = simp (lt-ltb _ _ s.control, lt-ltb _ _ s.reload, lt-ltb _ _ s.current) tt

pub fresh_sound : SoundTimer fresh_timer
fresh_sound = record { control = omega arith; reload = omega arith; current = omega arith }

pub tick_sound : {t : Timer} → SoundTimer t → SoundTimer (tick_of t).timer
unfolding tick_of
tick_sound {t} s = cases (enabled t) (eqb t.current 0) (eqb t.current 1) refl refl refl
  where
    cases : (a b d : Bool) → enabled t ≡ a → eqb t.current 0 ≡ b → eqb t.current 1 ≡ d → SoundTimer (tick_of t).timer
    cases false b d p q r = simp p s
    cases true true d p q r = simp (p, q) (record { control = s.control; reload = s.reload; current = s.reload })
    cases true false true p q r = simp (p, q, r) (record { control = s.control; reload = s.reload; current = omega arith })
    cases true false false p q r = simp (p, q, r) (record { control = s.control; reload = s.reload; current = omega (arith, s.current) })

pub read_control_sound : {t : Timer} → SoundTimer t → SoundTimer (read_control t).timer
unfolding read_control
read_control_sound s = record { control = s.control; reload = s.reload; current = s.current }

pub write_control_sound : {t : Timer} (value : ℕ) → SoundTimer t → SoundTimer (write_control value t)
unfolding write_control
write_control_sound value s = record { control = omega arith; reload = s.reload; current = s.current }

pub write_reload_sound : {t : Timer} (value : ℕ) → SoundTimer t → SoundTimer (write_reload value t)
unfolding write_reload
write_reload_sound value s = record { control = s.control; reload = omega arith; current = s.current }

pub write_current_sound : {t : Timer} (value : ℕ) → SoundTimer t → SoundTimer (write_current value t)
unfolding write_current
write_current_sound value s = record { control = s.control; reload = s.reload; current = omega arith }
