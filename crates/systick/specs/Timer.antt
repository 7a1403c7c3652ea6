-- SysTick: one tick and the three registers STCTRL, STRELOAD and STCURRENT (01, "SysTick" and the row E010, 14, 18).
-- Each is stated for every timer; a timer is sound where each field holds only the bits that are kept.
use Rattle.std.specs.Prelude.{ℕ, ◌+◌, ◌-◌, ◌/◌, ◌%◌, ◌^◌, ◌<◌, Bool, true, false, cond, ◌&&◌, eqb, ltb}
use Rattle.systick.specs.declared.Timer.{Timer}
use Rattle.systick.specs.declared.Ticked.{Ticked}
use Rattle.systick.specs.declared.TimerRead.{TimerRead}

-- "Fresh: everything zero."
abbrev pub fresh_timer : Timer
fresh_timer = record { control = 0; reload = 0; current = 0; count = false }

-- STCTRL bit 0 lets the timer count, bit 1 (TICKINT) lets a fall to 0 make SysTick pending. Bit 2 is kept and has no effect.
abbrev pub enabled : Timer → Bool
enabled t = eqb (t.control % 2) 1

abbrev pub tickint : Timer → Bool
tickint t = eqb (t.control / 2 % 2) 1

abbrev pub with_current : ℕ → Bool → Timer → Timer
with_current current count t = record { control = t.control; reload = t.reload; current = current; count = count }

-- a tick that is no fall to 0
abbrev pub steady : Timer → Ticked
steady t = record { timer = t; fell = false; pends = false }

-- "One tick, if enabled: a current value of 0 becomes the reload value; any other falls by 1, and on reaching 0 sets COUNT
-- and, if TICKINT, makes 15 pending. Answers 1 on such a fall to 0, else 0."
unfoldable pub tick_of : Timer → Ticked
tick_of t =
    cond (enabled t)
    (cond (eqb t.current 0) (steady (with_current t.reload t.count t))
    (cond (eqb t.current 1) (record { timer = with_current 0 true t; fell = true; pends = tickint t })
    (steady (with_current (t.current - 1) t.count t))))
    (steady t)

-- STCTRL: "bits 2:0 kept, COUNT is 16; a read clears COUNT". The answer has COUNT as it was.
unfoldable pub read_control : Timer → TimerRead
read_control t =
    record { value = t.control % 8 + cond t.count (2 ^ 16) 0; timer = with_current t.current false t }

abbrev pub read_reload : Timer → ℕ
read_reload t = t.reload

abbrev pub read_current : Timer → ℕ
read_current t = t.current

-- "a write leaves it": COUNT stays
unfoldable pub write_control : ℕ → Timer → Timer
write_control value t = record { control = value % 8; reload = t.reload; current = t.current; count = t.count }

-- "STRELOAD (24 bits)"
unfoldable pub write_reload : ℕ → Timer → Timer
write_reload value t = record { control = t.control; reload = value % 2 ^ 24; current = t.current; count = t.count }

-- "STCURRENT (any write clears it and COUNT)"
unfoldable pub write_current : ℕ → Timer → Timer
write_current value t = with_current 0 false t

-- Each field holds only the bits kept: the test that the code runs, and what it comes to (Laws: sound-timer-of, of-sound-timer).
unfoldable pub sound_timer : Timer → Bool
sound_timer t = ltb t.control 8 && ltb t.reload (2 ^ 24) && ltb t.current (2 ^ 24)

pub record SoundTimer (t : Timer) : Type 0 where
  pub control : t.control < 8
  pub reload : t.reload < 2 ^ 24
  pub current : t.current < 2 ^ 24
