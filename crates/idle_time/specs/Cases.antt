-- Document 02, E5: worked cases, as a table of what the rules compute and what the papers say. A new case is a new row.
use Rattle.std.specs.Prelude.{ℕ, ◌^◌, List, [], ◌∷◌, ◌++◌, false, ℤ}
use Rattle.script.specs.declared.Event.{Event}
use Rattle.script.specs.declared.Event.TheVariants.{Read, Write, Tick, Entry, Return, Skip}
use Rattle.rules.specs.declared.Chip.{Chip}
use Rattle.rules.specs.Chip.{chip55, chip240}
use Rattle.rules.specs.Model.{with_timer}
use Rattle.rules.specs.Step.{step_of}
use Rattle.rules.specs.Table.{Case, gives, after_on, last_on, refused, answered}

-- the refusal and the value of an event after some others, on the chip with 55 lines
abbrev asked : List Event → Event → List ℤ
asked es e = answered (last_on chip55 es e)

-- STCTRL, STCURRENT, INTCTRL
abbrev stctrl : Event
stctrl = Read 4 0xE000E010

abbrev stcurrent : Event
stcurrent = Read 4 0xE000E018

abbrev intctrl : Event
intctrl = Read 4 0xE000ED04

-- a reload value and control bits, the current value 0: 3 counts with TICKINT, 1 without, 2 does not count
abbrev timer : ℕ → ℕ → List Event
timer reload control = Write 4 0xE000E014 reload ∷ Write 4 0xE000E010 control ∷ []

-- the same with a current value: it is reloaded once
abbrev from : ℕ → ℕ → ℕ → List Event
from current reload control = timer current control ++ (Tick ∷ Write 4 0xE000E014 reload ∷ [])

unfoldable pub cases : List Case
cases =
    -- "Count 0 changes nothing and answers 0": no reload either
    gives (asked (timer 5 3) (Skip 0)) (0 ∷ 0 ∷ [])
    ∷ gives (asked (timer 5 3 ++ (Skip 0 ∷ [])) stcurrent) (0 ∷ 0 ∷ [])
    -- from 0 the first tick reloads, and 5 more fall to 0: a period of reload + 1
    ∷ gives (asked (timer 5 3 ++ (Skip 1 ∷ [])) stcurrent) (0 ∷ 5 ∷ [])
    ∷ gives (asked (timer 5 3) (Skip 5)) (0 ∷ 0 ∷ [])
    ∷ gives (asked (timer 5 3 ++ (Skip 5 ∷ [])) stcurrent) (0 ∷ 1 ∷ [])
    ∷ gives (asked (timer 5 3) (Skip 6)) (0 ∷ 1 ∷ [])
    ∷ gives (asked (timer 5 3 ++ (Skip 6 ∷ [])) stcurrent) (0 ∷ 0 ∷ [])
    ∷ gives (asked (timer 5 3 ++ (Skip 7 ∷ [])) stcurrent) (0 ∷ 5 ∷ [])
    ∷ gives (asked (timer 5 3 ++ (Skip 64 ∷ [])) stcurrent) (0 ∷ 2 ∷ [])
    -- the answers to b and to a + b may differ: 6 and then 1, or 7 at once; the states do not
    ∷ gives (asked (timer 5 3 ++ (Skip 6 ∷ [])) (Skip 1)) (0 ∷ 0 ∷ [])
    ∷ gives (asked (timer 5 3) (Skip 7)) (0 ∷ 1 ∷ [])
    ∷ gives (asked (timer 5 3 ++ (Skip 6 ∷ Skip 1 ∷ [])) stcurrent) (0 ∷ 5 ∷ [])
    -- COUNT, and pending SysTick (INTCTRL bit 26; bit 11 says that fewer than two are nested), as after the ticks; without TICKINT only COUNT
    ∷ gives (asked (timer 5 3 ++ (Skip 5 ∷ [])) stctrl) (0 ∷ 3 ∷ [])
    ∷ gives (asked (timer 5 3 ++ (Skip 6 ∷ [])) stctrl) (0 ∷ 0x10003 ∷ [])
    ∷ gives (asked (timer 5 3 ++ (Skip 5 ∷ [])) intctrl) (0 ∷ 0x800 ∷ [])
    ∷ gives (asked (timer 5 3 ++ (Skip 6 ∷ [])) intctrl) (0 ∷ 0x4000800 ∷ [])
    ∷ gives (asked (timer 5 1 ++ (Skip 6 ∷ [])) stctrl) (0 ∷ 0x10001 ∷ [])
    ∷ gives (asked (timer 5 1 ++ (Skip 6 ∷ [])) intctrl) (0 ∷ 0x800 ∷ [])
    -- nothing is entered in between: after three periods SysTick is entered once
    ∷ gives (asked (timer 5 3 ++ (Skip 18 ∷ [])) Entry) (0 ∷ 15 ∷ [])
    ∷ gives (asked (timer 5 3 ++ (Skip 18 ∷ Entry ∷ Return 0xFFFFFFF9 ∷ [])) Entry) (8 ∷ 0 ∷ [])
    -- off: nothing
    ∷ gives (asked (timer 5 2) (Skip 64)) (0 ∷ 0 ∷ [])
    ∷ gives (asked (timer 5 2 ++ (Skip 64 ∷ [])) stcurrent) (0 ∷ 0 ∷ [])
    -- "A reload value of 0 stops at zero": from 5 it falls once, then it stays
    ∷ gives (asked (from 5 0 3) (Skip 100)) (0 ∷ 1 ∷ [])
    ∷ gives (asked (from 5 0 3 ++ (Skip 100 ∷ [])) stcurrent) (0 ∷ 0 ∷ [])
    ∷ gives (asked (from 5 0 3 ++ (Skip 100 ∷ [])) (Skip 100)) (0 ∷ 0 ∷ [])
    -- a current value above the reload value just falls, and is then reloaded
    ∷ gives (asked (from 5 2 3) (Skip 4)) (0 ∷ 0 ∷ [])
    ∷ gives (asked (from 5 2 3 ++ (Skip 4 ∷ [])) stcurrent) (0 ∷ 1 ∷ [])
    ∷ gives (asked (from 5 2 3) (Skip 5)) (0 ∷ 1 ∷ [])
    ∷ gives (asked (from 5 2 3 ++ (Skip 6 ∷ [])) stcurrent) (0 ∷ 2 ∷ [])
    -- the same on 240 lines
    ∷ gives (answered (last_on chip240 (timer 5 3) (Skip 6))) (0 ∷ 1 ∷ [])
    -- in a state that is not sound 16, for count 0 too
    ∷ gives (refused (step_of chip55 (with_timer (record { control = 1; reload = 2 ^ 24; current = 0; count = false }) (after_on chip55 [])) (Skip 0))) (16 ∷ [])
    ∷ []
