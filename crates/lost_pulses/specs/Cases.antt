-- Document 02, E1: worked cases, as a table of what the rules compute and what the papers say. A new case is a new row.
use Rattle.std.specs.Prelude.{ℕ, List, [], ◌∷◌, ◌++◌, set, ℤ}
use Rattle.script.specs.declared.Event.{Event}
use Rattle.script.specs.declared.Event.TheVariants.{Line, Nmi, Special, Entry, Return, Lost}
use Rattle.rules.specs.Chip.{chip55, chip240}
use Rattle.rules.specs.Model.{Model, with_lost}
use Rattle.rules.specs.Step.{step_of, run_of}
use Rattle.rules.specs.Table.{Case, gives, enable, set_pending, clear_pending, rise, fall, after_on, last_on, refused, answered}

-- event 12 after some events, on the chip with 55 lines
abbrev count : List Event → ℕ → List ℤ
count es line = answered (last_on chip55 es (Lost line))

-- line 0 active and still high
abbrev handler : List Event
handler = enable 1 ∷ rise 0 ∷ Entry ∷ []

-- line 0 pending and low again, with this count, as a state handed in
abbrev counted : ℕ → Model
counted n = with_lost (set (after_on chip55 []).lost 0 n) (after_on chip55 (rise 0 ∷ fall 0 ∷ []))

-- its count after some events
abbrev more : ℕ → List Event → List ℤ
more n es = answered (step_of chip55 (run_of chip55 (counted n) es) (Lost 0))

unfoldable pub cases : List Case
cases =
    -- "A rise on a line that is already pending": the second of two is lost
    gives (count (rise 0 ∷ []) 0) (0 ∷ 0 ∷ [])
    ∷ gives (count (rise 0 ∷ fall 0 ∷ rise 0 ∷ []) 0) (0 ∷ 1 ∷ [])
    -- "for each line": no other count moves
    ∷ gives (count (rise 0 ∷ fall 0 ∷ rise 0 ∷ []) 1) (0 ∷ 0 ∷ [])
    -- an unchanged high level, a fall and a software set are no rises
    ∷ gives (count (rise 0 ∷ rise 0 ∷ fall 0 ∷ fall 0 ∷ set_pending 1 ∷ []) 0) (0 ∷ 0 ∷ [])
    -- whatever made the line pending: a software set, or a return that found it high
    ∷ gives (count (set_pending 1 ∷ rise 0 ∷ []) 0) (0 ∷ 1 ∷ [])
    ∷ gives (count (handler ++ (Return 0xFFFFFFF9 ∷ [])) 0) (0 ∷ 0 ∷ [])
    ∷ gives (count (handler ++ (Return 0xFFFFFFF9 ∷ fall 0 ∷ rise 0 ∷ [])) 0) (0 ∷ 1 ∷ [])
    -- active or not: the first rise on an active line makes it pending, the second is lost
    ∷ gives (count (handler ++ (fall 0 ∷ rise 0 ∷ [])) 0) (0 ∷ 0 ∷ [])
    ∷ gives (count (handler ++ (fall 0 ∷ rise 0 ∷ fall 0 ∷ rise 0 ∷ [])) 0) (0 ∷ 1 ∷ [])
    -- pending no more: the next rise is not lost, and nothing has cleared the count
    ∷ gives (count (rise 0 ∷ fall 0 ∷ rise 0 ∷ fall 0 ∷ clear_pending 1 ∷ rise 0 ∷ []) 0) (0 ∷ 1 ∷ [])
    -- reading it clears nothing, and needs no privilege
    ∷ gives (count (rise 0 ∷ fall 0 ∷ rise 0 ∷ Special 4 1 ∷ Lost 0 ∷ []) 0) (0 ∷ 1 ∷ [])
    -- a refused event counts nothing: a level above 1
    ∷ gives (count (rise 0 ∷ fall 0 ∷ Line 0 2 ∷ []) 0) (0 ∷ 0 ∷ [])
    -- "6 for a line above 54, as for event 3"; on 240 lines above 239
    ∷ gives (count [] 54) (0 ∷ 0 ∷ [])
    ∷ gives (count [] 55) (6 ∷ 0 ∷ [])
    ∷ gives (answered (last_on chip240 (rise 239 ∷ fall 239 ∷ rise 239 ∷ []) (Lost 239))) (0 ∷ 1 ∷ [])
    ∷ gives (refused (last_on chip240 [] (Lost 240))) (6 ∷ [])
    -- "holding at 65,535"
    ∷ gives (more 65534 (rise 0 ∷ [])) (0 ∷ 65535 ∷ [])
    ∷ gives (more 65534 (rise 0 ∷ fall 0 ∷ rise 0 ∷ [])) (0 ∷ 65535 ∷ [])
    ∷ gives (more 65535 (rise 0 ∷ [])) (0 ∷ 65535 ∷ [])
    -- a count above that is not sound
    ∷ gives (refused (step_of chip55 (counted 65536) Nmi)) (16 ∷ [])
    ∷ []
