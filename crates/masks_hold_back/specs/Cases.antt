-- Document 02, E13: entries after the same events without a mask and with some, as a table of what the rules compute and what the papers say. A new case
-- is a new row.
use Rattle.std.specs.Prelude.{ℕ, ◌*◌, List, [], ◌∷◌, ◌++◌, map, ℤ, pos, negsuc}
use Rattle.script.specs.declared.Event.{Event}
use Rattle.script.specs.declared.Event.TheVariants.{Nmi, Fault, Special, Entry}
use Rattle.rules.specs.declared.Chip.{Chip}
use Rattle.rules.specs.Chip.{chip55, chip_m0}
use Rattle.rules.specs.Model.{Model, Answer}
use Rattle.rules.specs.Priorities.{execution}
use Rattle.rules.specs.Step.{step_of}
use Rattle.rules.specs.Table.{Case, group, byte, enable, rise, after_on}

-- ---- an entry: the execution priority before it, its refusal, number, vector address and link value

abbrev shown : Answer → List ℤ
shown a = pos a.refusal ∷ pos a.value ∷ pos a.vector ∷ pos a.link ∷ []

abbrev seen : Chip → Model → List ℤ
seen c m = execution m ∷ shown (step_of c m Entry)

-- exception n is entered, from thread mode or from a handler (vectors start at 0), or none is
abbrev from_thread : ℕ → ℤ → List ℤ
from_thread n priority = priority ∷ map pos (0 ∷ n ∷ 4 * n ∷ 0xFFFFFFF9 ∷ [])

abbrev from_handler : ℕ → ℤ → List ℤ
from_handler n priority = priority ∷ map pos (0 ∷ n ∷ 4 * n ∷ 0xFFFFFFF1 ∷ [])

abbrev held_back : ℤ → List ℤ
held_back priority = priority ∷ map pos (8 ∷ 0 ∷ 0 ∷ 0 ∷ [])

-- ---- the same events, and then an entry, or a write and an entry

abbrev Written : Type 0
Written = Event × List ℤ

abbrev seen_after : Chip → Model → List Written → List ℤ
seen_after c m [] = []
seen_after c m (w ∷ ws) = seen c (step_of c m w.0).next ++ seen_after c m ws

abbrev expected_after : List Written → List ℤ
expected_after [] = []
expected_after (w ∷ ws) = w.1 ++ expected_after ws

abbrev seen_from : Chip → Model → List Written → List ℤ
seen_from c m ws = seen c m ++ seen_after c m ws

abbrev entering : Chip → List Event → List ℤ → List Written → Case
entering c es without ws = record { computed = seen_from c (after_on c es) ws; expected = without ++ expected_after ws }

-- ---- events and writes

-- line 0 pending and enabled, its priority byte 0
abbrev pub line0 : List Event
line0 = enable 1 ∷ rise 0 ∷ []

-- lines 3 and 9 with these bytes, both enabled, both risen
abbrev lines : ℕ → ℕ → List Event
lines b3 b9 = byte 3 b3 ∷ byte 9 b9 ∷ enable 0x208 ∷ rise 3 ∷ rise 9 ∷ []

-- line 9 with the byte 0x80 active, line 3 with the byte 0x40 pending
abbrev handler : List Event
handler = byte 3 0x40 ∷ byte 9 0x80 ∷ enable 0x208 ∷ rise 9 ∷ Entry ∷ rise 3 ∷ []

abbrev primask : Event
primask = Special 0 1

abbrev faultmask : Event
faultmask = Special 1 1

abbrev basepri : ℕ → Event
basepri v = Special 2 v

abbrev basepri_max : ℕ → Event
basepri_max v = Special 3 v

unfoldable pub cases : List Case
cases =
    -- the same script without a mask, and with PRIMASK, with FAULTMASK, with a BASEPRI that does not reach it
    entering chip55 line0 (from_thread 16 (pos 256))
    ((primask, held_back (pos 0)) ∷ (faultmask, held_back (negsuc 0)) ∷ (basepri_max 0x20, from_thread 16 (pos 0x20)) ∷ [])
    -- HardFault is below all masks but FAULTMASK, NMI below all; "the same": with p = 7, PRIMASK and a BASEPRI give the same execution priority
    ∷ entering chip55 (Fault 25 0 ∷ []) (from_thread 3 (pos 256)) ((primask, from_thread 3 (pos 0)) ∷ (faultmask, held_back (negsuc 0)) ∷ [])
    ∷ entering chip55 (group 7 ∷ Nmi ∷ []) (from_thread 2 (pos 256)) ((faultmask, from_thread 2 (negsuc 0)) ∷ (primask, from_thread 2 (pos 0)) ∷ (basepri 0x20, from_thread 2 (pos 0)) ∷ [])
    -- where the first of two is held back, so is the other
    ∷ entering chip55 (lines 0x40 0x80) (from_thread 19 (pos 256)) ((basepri_max 0x60, from_thread 19 (pos 0x60)) ∷ (basepri_max 0x40, held_back (pos 0x40)) ∷ [])
    -- two bytes that share a group number are held back together: with p = 6 those of 0x40 and 0x60 are 0
    ∷ entering chip55 (group 6 ∷ lines 0x60 0x40) (from_thread 25 (pos 256)) ((basepri_max 0xE0, from_thread 25 (pos 0x80)) ∷ (basepri_max 0x60, held_back (pos 0)) ∷ [])
    -- in a handler: a mask above its group number changes nothing
    ∷ entering chip55 handler (from_handler 19 (pos 0x80)) ((basepri_max 0xC0, from_handler 19 (pos 0x80)) ∷ (basepri_max 0x60, from_handler 19 (pos 0x60)) ∷ (primask, held_back (pos 0)) ∷ [])
    -- BASEPRI_MAX does not let go, BASEPRI does: it is not among the writes that can only add
    ∷ entering chip55 (lines 0x40 0x80 ++ (basepri_max 0x20 ∷ [])) (held_back (pos 0x20)) ((basepri_max 0x80, held_back (pos 0x20)) ∷ (basepri 0x80, from_thread 19 (pos 0x80)) ∷ [])
    -- without privilege a write has no effect
    ∷ entering chip55 (line0 ++ (Special 4 1 ∷ [])) (from_thread 16 (pos 256)) ((primask, from_thread 16 (pos 256)) ∷ [])
    -- on a Cortex-M0, which has PRIMASK alone
    ∷ entering chip_m0 line0 (from_thread 16 (pos 256)) ((primask, held_back (pos 0)) ∷ (faultmask, from_thread 16 (pos 256)) ∷ (basepri_max 0x40, from_thread 16 (pos 256)) ∷ [])
    ∷ []
