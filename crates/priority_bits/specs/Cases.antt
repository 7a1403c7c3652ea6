-- Document 02, E7: worked cases with w kept bits, as a table of what the rules compute and what the papers say. A new case is a new row.
use Rattle.std.specs.Prelude.{ℕ, List, [], ◌∷◌, map, set, ℤ, pos}
use Rattle.script.specs.declared.Event.{Event}
use Rattle.script.specs.declared.Event.TheVariants.{Write, Read, Nmi, Special, Entry}
use Rattle.rules.specs.declared.Chip.{Chip}
use Rattle.rules.specs.Chip.{chip55, chip240, with_bits}
use Rattle.rules.specs.Model.{Model, fresh, fresh_masks, with_priority, with_masks}
use Rattle.rules.specs.Priorities.{execution}
use Rattle.rules.specs.Events.{with_basepri}
use Rattle.rules.specs.Step.{step_of}
use Rattle.rules.specs.Table.{Case, gives, group, byte, enable, rise, after_on, last_on, refused, answered, unsound}

-- document 01's chip with w bits kept
abbrev keeps : ℕ → Chip
keeps w = with_bits w chip55

abbrev widths : List ℕ
widths = 3 ∷ 4 ∷ 5 ∷ 6 ∷ 7 ∷ 8 ∷ []

-- what an address reads after some events
abbrev reads : ℕ → List Event → ℕ → ℤ
reads w es address = pos (last_on (keeps w) es (Read 4 address)).value

-- the execution priority after some events
abbrev priority : ℕ → List Event → ℤ
priority w es = execution (after_on (keeps w) es)

-- lines 0 and 1 with these bytes, at the group setting p; line 0 active, line 1 pending
abbrev over : ℕ → ℕ → ℕ → List Event
over p b0 b1 = group p ∷ byte 0 b0 ∷ byte 1 b1 ∷ enable 3 ∷ rise 0 ∷ Entry ∷ rise 1 ∷ []

-- .. both pending
abbrev together : ℕ → ℕ → List Event
together b0 b1 = byte 0 b0 ∷ byte 1 b1 ∷ enable 3 ∷ rise 0 ∷ rise 1 ∷ []

-- line 0 with a byte, as a state handed in; and BASEPRI with one
abbrev with_byte0 : ℕ → Model
with_byte0 b = with_priority (set (fresh chip55).priority 16 b) (fresh chip55)

abbrev with_mask : ℕ → Model
with_mask b = with_masks (with_basepri b fresh_masks) (fresh chip55)

unfoldable pub cases : List Case
cases =
    -- "Cutting a byte .. and reading back follow w": a line's byte
    gives (map (λ (w : ℕ). reads w (byte 0 0xFF ∷ []) 0xE000E400) widths) (0xE0 ∷ 0xF0 ∷ 0xF8 ∷ 0xFC ∷ 0xFE ∷ 0xFF ∷ [])
    -- .. the bytes of system exceptions: 4, 5, 6; 11; 14, 15
    ∷ gives (reads 5 (Write 4 0xE000ED18 0xFFFFFFFF ∷ []) 0xE000ED18 ∷ reads 6 (Write 4 0xE000ED1C 0xFFFFFFFF ∷ []) 0xE000ED1C ∷ []) (0xF8F8F8 ∷ 0xFC000000 ∷ [])
    ∷ gives (reads 3 (Write 4 0xE000ED20 0xFFFFFFFF ∷ []) 0xE000ED20 ∷ reads 8 (Write 4 0xE000ED20 0xFFFFFFFF ∷ []) 0xE000ED20 ∷ []) (0xE0E00000 ∷ 0xFFFF0000 ∷ [])
    -- .. on both line counts: line 239
    ∷ gives (pos (last_on (with_bits 8 chip240) (Write 1 0xE000E4EF 0xFF ∷ []) (Read 1 0xE000E4EF)).value ∷ []) (0xFF ∷ [])
    -- "BASEPRI .. follow w": the group number of what is kept of 0xFF, p being 0
    ∷ gives (map (λ (w : ℕ). priority w (Special 2 0xFF ∷ [])) widths) (0xE0 ∷ 0xF0 ∷ 0xF8 ∷ 0xFC ∷ 0xFE ∷ 0xFE ∷ [])
    -- BASEPRI 1: kept of eight bits, and its group number is 0; of seven bits nothing is left, so that it masks nothing
    ∷ gives (priority 8 (Special 2 1 ∷ []) ∷ priority 7 (Special 2 1 ∷ []) ∷ []) (0 ∷ 256 ∷ [])
    -- BASEPRI_MAX cuts, "then writes only if the value is not 0 and is below BASEPRI or BASEPRI is 0"
    ∷ gives (priority 4 (Special 3 0x0F ∷ []) ∷ priority 5 (Special 3 0x0F ∷ []) ∷ priority 8 (Special 3 0x0F ∷ []) ∷ []) (256 ∷ 0x08 ∷ 0x0E ∷ [])
    ∷ gives (map (λ (w : ℕ). priority w (Special 2 0x50 ∷ Special 3 0x0F ∷ [])) (4 ∷ 5 ∷ [])) (0x50 ∷ 0x08 ∷ [])
    ∷ gives (map (λ (w : ℕ). priority w (Special 2 0x5C ∷ Special 3 0x5B ∷ [])) (4 ∷ 5 ∷ 6 ∷ 7 ∷ 8 ∷ [])) (0x50 ∷ 0x58 ∷ 0x58 ∷ 0x5A ∷ 0x5A ∷ [])
    -- bit 0 is never part of the group number: with eight bits and p = 0, 2 and 3 do not interrupt each other, 3 interrupts 4
    ∷ gives (refused (last_on (keeps 8) (over 0 3 2) Entry)) (8 ∷ [])
    ∷ gives (refused (last_on (keeps 8) (over 0 2 3) Entry)) (8 ∷ [])
    ∷ gives (answered (last_on (keeps 8) (over 0 4 3) Entry)) (0 ∷ 17 ∷ [])
    -- .. but the one of least full priority is entered first
    ∷ gives (answered (last_on (keeps 8) (together 3 2) Entry)) (0 ∷ 17 ∷ [])
    -- with four bits and p = 3 there are 16 group numbers; with three, these two bytes are one
    ∷ gives (answered (last_on (keeps 4) (over 3 0x50 0x40) Entry)) (0 ∷ 17 ∷ [])
    ∷ gives (refused (last_on (keeps 3) (over 3 0x50 0x40) Entry)) (8 ∷ [])
    -- "Soundness of a state follows w": refused by 16 where a byte, or BASEPRI, has a bit that is not kept
    ∷ gives (refused (step_of (keeps 8) (with_byte0 1) Nmi)) (0 ∷ [])
    ∷ gives (refused (step_of (keeps 7) (with_byte0 1) Nmi)) (16 ∷ [])
    ∷ gives (refused (step_of (keeps 4) (with_mask 0x10) Nmi)) (0 ∷ [])
    ∷ gives (refused (step_of (keeps 3) (with_mask 0x10) Nmi)) (16 ∷ [])
    -- "17, a chip setup with w outside 3 to 8"
    ∷ gives (map (λ (w : ℕ). pos (last_on (keeps w) [] Nmi).refusal) (0 ∷ 2 ∷ 3 ∷ 8 ∷ 9 ∷ 0xFFFFFFFF ∷ [])) (17 ∷ 17 ∷ 0 ∷ 0 ∷ 17 ∷ 17 ∷ [])
    -- ".. checked before all others, 15 and 16 too": on a state that is not sound, and where there is nothing to enter
    ∷ gives (refused (step_of (keeps 9) unsound Nmi)) (17 ∷ [])
    ∷ gives (refused (step_of (keeps 8) unsound Nmi)) (16 ∷ [])
    ∷ gives (refused (last_on (keeps 9) [] Entry)) (17 ∷ [])
    ∷ []
