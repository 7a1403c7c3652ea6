-- Document 02, E12: worked cases, as a table of what the rules compute and what the papers say. A new case is a new row.
use Rattle.std.specs.Prelude.{ℕ, ◌+◌, ◌*◌, List, [], ◌∷◌, ◌++◌, set, ℤ}
use Rattle.mpu.specs.declared.Mpu.{Mpu}
use Rattle.mpu.specs.declared.Edition.{Edition}
use Rattle.mpu.specs.declared.Edition.TheVariants.{Pmsav7, Pmsav8}
use Rattle.script.specs.declared.AccessKind.TheVariants as kind
use Rattle.script.specs.declared.Event.{Event}
use Rattle.script.specs.declared.Event.TheVariants.{Read, Write, Nmi, Special, Entry, Access}
use Rattle.rules.specs.declared.Chip.{Chip}
use Rattle.rules.specs.Chip.{chip55, chip240, with_edition}
use Rattle.rules.specs.Model.{with_guard}
use Rattle.rules.specs.Step.{step_of}
use Rattle.rules.specs.Table.{Case, gives, after_on, last_on, refused, answered}

-- the chip with 55 lines and the second guard
abbrev next55 : Chip
next55 = with_edition Pmsav8 chip55

-- the refusal and the value of an event after some others there
abbrev asked : List Event → Event → List ℤ
asked es e = answered (last_on next55 es e)

-- ---- events by name

abbrev reads : ℕ → Event
reads address = Access kind.Read 1 address

abbrev writes : ℕ → Event
writes address = Access kind.Write 1 address

abbrev fetches : ℕ → Event
fetches address = Access kind.Fetch 2 address

-- CONTROL bit 0: unprivileged from then on
abbrev unprivileged : Event
unprivileged = Special 4 1

-- ED94: 1 the guard is on, 2 at negative priorities too, 4 with the background
abbrev control : ℕ → Event
control v = Write 4 0xE000ED94 v

-- region n: its first and its last word
abbrev region : ℕ → ℕ → ℕ → List Event
region n rbar rlar = Write 4 0xE000ED98 n ∷ Write 4 0xE000ED9C rbar ∷ Write 4 0xE000EDA0 rlar ∷ []

-- ---- the setups

-- one region, number 2, of blocks 0x20000040 and 0x20000060, with these rights; no fetch where the bit is 1
abbrev two : ℕ → ℕ → List Event
two rights no_fetch = control 1 ∷ region 2 (0x20000040 + 2 * rights + no_fetch) 0x20000061

-- regions 1 and 4 share the block 0x20000060 alone; all may read and write; ED94 has these bits
abbrev overlapping : ℕ → List Event
overlapping bits = region 1 0x20000042 0x20000061 ++ (region 4 0x20000062 0x20000081 ++ (control bits ∷ []))

-- the same two regions with their numbers exchanged
abbrev exchanged : ℕ → List Event
exchanged bits = region 4 0x20000042 0x20000061 ++ (region 1 0x20000062 0x20000081 ++ (control bits ∷ []))

-- two regions over the private bus
abbrev over_bus : List Event
over_bus = region 0 0xE0000002 0xE00FFFE1 ++ (region 1 0xE0000002 0xE00FFFE1 ++ (control 1 ∷ []))

-- a state handed in: sound but for its guard
abbrev handed : Edition → Mpu → List ℤ
handed e g = refused (step_of (with_edition e chip55) (with_guard g (after_on chip55 [])) (reads 0x20000000))

abbrev fresh_guard : Mpu
fresh_guard = (after_on chip55 []).core.guard

abbrev with_plain : ℕ → ℕ → Mpu
with_plain x y =
    record { control = 0; region = 0; bases = fresh_guard.bases; attributes = fresh_guard.attributes; mair0 = x; mair1 = y }

-- region 7's two words
abbrev with_words : ℕ → ℕ → Mpu
with_words x y =
    record { control = 0; region = 0; bases = set fresh_guard.bases 7 x; attributes = set fresh_guard.attributes 7 y; mair0 = 0; mair1 = 0 }

unfoldable pub covering : List Case
covering =
    -- "eight regions given by a first and a last 32-byte block": the byte before the first block and its first byte, the last byte of the last block and the one after it
    gives (asked (two 1 0) (reads 0x2000003F)) (0 ∷ 1 ∷ [])
    ∷ gives (asked (two 1 0) (reads 0x20000040)) (0 ∷ 0 ∷ [])
    ∷ gives (asked (two 1 0) (reads 0x2000007F)) (0 ∷ 0 ∷ [])
    ∷ gives (asked (two 1 0) (reads 0x20000080)) (0 ∷ 1 ∷ [])
    -- first = last: one block whole
    ∷ gives (asked (control 1 ∷ region 0 0x20000042 0x20000041) (reads 0x20000040)) (0 ∷ 0 ∷ [])
    ∷ gives (asked (control 1 ∷ region 0 0x20000042 0x20000041) (reads 0x2000005F)) (0 ∷ 0 ∷ [])
    ∷ gives (asked (control 1 ∷ region 0 0x20000042 0x20000041) (reads 0x20000060)) (0 ∷ 1 ∷ [])
    -- "A region whose last block is before its first covers nothing."
    ∷ gives (asked (control 1 ∷ region 0 0x20000042 0x20000021) (reads 0x20000040)) (0 ∷ 1 ∷ [])
    ∷ gives (asked (control 1 ∷ region 0 0x20000042 0x20000021) (reads 0x20000020)) (0 ∷ 1 ∷ [])
    -- "enabled 0"; the last address of all
    ∷ gives (asked (control 1 ∷ region 0 0x20000042 0x20000040) (reads 0x20000040)) (0 ∷ 1 ∷ [])
    ∷ gives (asked (control 1 ∷ region 7 0xE0100002 0xFFFFFFE1) (reads 0xFFFFFFFF)) (0 ∷ 0 ∷ [])
    -- "An address that two enabled regions cover faults": the block that two share, and none beside it
    ∷ gives (asked (overlapping 1) (reads 0x2000005F)) (0 ∷ 0 ∷ [])
    ∷ gives (asked (overlapping 1) (reads 0x20000060)) (0 ∷ 1 ∷ [])
    ∷ gives (asked (overlapping 1) (writes 0x2000007F)) (0 ∷ 1 ∷ [])
    ∷ gives (asked (overlapping 1) (fetches 0x20000060)) (0 ∷ 2 ∷ [])
    ∷ gives (asked (overlapping 1) (reads 0x20000080)) (0 ∷ 0 ∷ [])
    -- .. whatever the background, which is asked where there is none
    ∷ gives (asked (overlapping 5) (reads 0x20000060)) (0 ∷ 1 ∷ [])
    ∷ gives (asked (overlapping 5) (reads 0x200000A0)) (0 ∷ 0 ∷ [])
    ∷ gives (asked (overlapping 1) (reads 0x200000A0)) (0 ∷ 1 ∷ [])
    ∷ gives (asked (overlapping 5 ++ (unprivileged ∷ [])) (reads 0x200000A0)) (0 ∷ 1 ∷ [])
    -- .. whatever their numbers
    ∷ gives (asked (exchanged 1) (reads 0x20000060)) (0 ∷ 1 ∷ [])
    ∷ gives (asked (exchanged 1) (reads 0x20000080)) (0 ∷ 0 ∷ [])
    -- "Background, private bus, fetch and negative-priority rules stay as in document 01": overlaps do not matter with the guard off, on the private bus,
    -- or with FAULTMASK and in NMI, unless ED94 bit 1 is set
    ∷ gives (asked (overlapping 0) (reads 0x20000060)) (0 ∷ 0 ∷ [])
    ∷ gives (asked (overlapping 6) (reads 0x20000060)) (0 ∷ 0 ∷ [])
    ∷ gives (asked over_bus (reads 0xE000E000)) (0 ∷ 0 ∷ [])
    ∷ gives (asked over_bus (fetches 0xE000E000)) (0 ∷ 2 ∷ [])
    ∷ gives (asked (overlapping 1 ++ (Special 1 1 ∷ [])) (reads 0x20000060)) (0 ∷ 0 ∷ [])
    ∷ gives (asked (overlapping 3 ++ (Special 1 1 ∷ [])) (reads 0x20000060)) (0 ∷ 1 ∷ [])
    ∷ gives (asked (overlapping 1 ++ (Nmi ∷ Entry ∷ [])) (writes 0x20000060)) (0 ∷ 0 ∷ [])
    -- with the first guard the higher number decides, as before: the same words are other regions there
    ∷ gives (answered (last_on chip55 (region 1 0x20000000 0x0300000B ++ (region 4 0x20000000 0x0600000B ++ (control 1 ∷ []))) (writes 0x20000000))) (0 ∷ 1 ∷ [])
    ∷ gives (answered (last_on chip55 (region 1 0x20000000 0x0300000B ++ (region 4 0x20000000 0x0600000B ++ (control 1 ∷ []))) (reads 0x20000000))) (0 ∷ 0 ∷ [])
    ∷ []

unfoldable pub rights : List Case
rights =
    -- "Rights are two bits, 0 to 3: privileged RW,"
    gives (asked (two 0 0) (reads 0x20000040)) (0 ∷ 0 ∷ [])
    ∷ gives (asked (two 0 0) (writes 0x20000040)) (0 ∷ 0 ∷ [])
    ∷ gives (asked (two 0 0 ++ (unprivileged ∷ [])) (reads 0x20000040)) (0 ∷ 1 ∷ [])
    ∷ gives (asked (two 0 0 ++ (unprivileged ∷ [])) (writes 0x20000040)) (0 ∷ 1 ∷ [])
    -- "all RW,"
    ∷ gives (asked (two 1 0) (writes 0x20000040)) (0 ∷ 0 ∷ [])
    ∷ gives (asked (two 1 0 ++ (unprivileged ∷ [])) (reads 0x20000040)) (0 ∷ 0 ∷ [])
    ∷ gives (asked (two 1 0 ++ (unprivileged ∷ [])) (writes 0x20000040)) (0 ∷ 0 ∷ [])
    -- "privileged R,"
    ∷ gives (asked (two 2 0) (reads 0x20000040)) (0 ∷ 0 ∷ [])
    ∷ gives (asked (two 2 0) (writes 0x20000040)) (0 ∷ 1 ∷ [])
    ∷ gives (asked (two 2 0 ++ (unprivileged ∷ [])) (reads 0x20000040)) (0 ∷ 1 ∷ [])
    -- "all R."
    ∷ gives (asked (two 3 0) (writes 0x20000040)) (0 ∷ 1 ∷ [])
    ∷ gives (asked (two 3 0 ++ (unprivileged ∷ [])) (reads 0x20000040)) (0 ∷ 0 ∷ [])
    ∷ gives (asked (two 3 0 ++ (unprivileged ∷ [])) (writes 0x20000040)) (0 ∷ 1 ∷ [])
    -- a fetch needs the right to read, and "no fetch 0" clear
    ∷ gives (asked (two 1 0) (fetches 0x20000040)) (0 ∷ 0 ∷ [])
    ∷ gives (asked (two 1 1) (fetches 0x20000040)) (0 ∷ 2 ∷ [])
    ∷ gives (asked (two 1 1) (reads 0x20000040)) (0 ∷ 0 ∷ [])
    ∷ gives (asked (two 2 0) (fetches 0x20000040)) (0 ∷ 0 ∷ [])
    ∷ gives (asked (two 2 0 ++ (unprivileged ∷ [])) (fetches 0x20000040)) (0 ∷ 2 ∷ [])
    -- one region without the right: the background does not help
    ∷ gives (asked (two 2 0 ++ (control 5 ∷ [])) (writes 0x20000040)) (0 ∷ 1 ∷ [])
    -- a region may allow a fetch that the default map would not, below 0xE0000000
    ∷ gives (asked [] (fetches 0x40000000)) (0 ∷ 2 ∷ [])
    ∷ gives (asked (control 1 ∷ region 0 0x40000002 0x40000001) (fetches 0x40000000)) (0 ∷ 0 ∷ [])
    ∷ gives (asked (control 1 ∷ region 0 0xE0100002 0xE0100001) (fetches 0xE0100000)) (0 ∷ 2 ∷ [])
    -- "unaligned accesses stay refused by 2"
    ∷ gives (asked (two 1 0) (Access kind.Read 4 0x20000042)) (2 ∷ 0 ∷ [])
    ∷ gives (asked (two 1 0) (Access kind.Fetch 2 0x20000041)) (2 ∷ 0 ∷ [])
    ∷ []

unfoldable pub storage : List Case
storage =
    -- "ED90 to ED98 as before"
    gives (asked [] (Read 4 0xE000ED90)) (0 ∷ 0x800 ∷ [])
    ∷ gives (asked (control 0xFFFFFFFF ∷ []) (Read 4 0xE000ED94)) (0 ∷ 7 ∷ [])
    ∷ gives (asked (Write 4 0xE000ED98 7 ∷ Write 4 0xE000ED98 8 ∷ []) (Read 4 0xE000ED98)) (0 ∷ 7 ∷ [])
    -- "ED9C keeps all bits", and selects nothing
    ∷ gives (asked (Write 4 0xE000ED9C 0xFFFFFFFF ∷ []) (Read 4 0xE000ED9C)) (0 ∷ 0xFFFFFFFF ∷ [])
    ∷ gives (asked (Write 4 0xE000ED9C 0x35 ∷ []) (Read 4 0xE000ED9C)) (0 ∷ 0x35 ∷ [])
    ∷ gives (asked (Write 4 0xE000ED9C 0x35 ∷ []) (Read 4 0xE000ED98)) (0 ∷ 0 ∷ [])
    -- "EDA0 mask 0xFFFFFFEF"
    ∷ gives (asked (Write 4 0xE000EDA0 0xFFFFFFFF ∷ []) (Read 4 0xE000EDA0)) (0 ∷ 0xFFFFFFEF ∷ [])
    ∷ gives (asked (Write 4 0xE000EDB8 0xFFFFFFFF ∷ []) (Read 4 0xE000EDB8)) (0 ∷ 0xFFFFFFEF ∷ [])
    -- "EDA4 to EDB8 are that pair for the selected region with 1:0 of its number 1, 2, 3": with 6 selected, 5, 6 and 7
    ∷ gives (asked (Write 4 0xE000ED98 6 ∷ Write 4 0xE000EDA4 0x55 ∷ Write 4 0xE000ED98 5 ∷ []) (Read 4 0xE000ED9C)) (0 ∷ 0x55 ∷ [])
    ∷ gives (asked (Write 4 0xE000ED98 6 ∷ Write 4 0xE000EDAC 0x66 ∷ []) (Read 4 0xE000ED9C)) (0 ∷ 0x66 ∷ [])
    ∷ gives (asked (Write 4 0xE000ED98 6 ∷ Write 4 0xE000EDB4 0x77 ∷ Write 4 0xE000ED98 7 ∷ []) (Read 4 0xE000ED9C)) (0 ∷ 0x77 ∷ [])
    ∷ gives (asked (Write 4 0xE000ED98 6 ∷ Write 4 0xE000EDA8 0x105 ∷ Write 4 0xE000ED98 5 ∷ []) (Read 4 0xE000EDA0)) (0 ∷ 0x105 ∷ [])
    ∷ gives (asked (Write 4 0xE000ED98 6 ∷ Write 4 0xE000EDA4 0x55 ∷ Write 4 0xE000EDB8 0x77 ∷ []) (Read 4 0xE000ED98)) (0 ∷ 6 ∷ [])
    -- with 5 selected, EDA4 is the selected one's; with 0, EDA4 is region 1's
    ∷ gives (asked (Write 4 0xE000ED98 5 ∷ Write 4 0xE000EDA4 0x55 ∷ []) (Read 4 0xE000ED9C)) (0 ∷ 0x55 ∷ [])
    ∷ gives (asked (Write 4 0xE000EDA4 0x11 ∷ []) (Read 4 0xE000ED9C)) (0 ∷ 0 ∷ [])
    ∷ gives (asked (Write 4 0xE000EDA4 0x11 ∷ Write 4 0xE000ED98 1 ∷ []) (Read 4 0xE000ED9C)) (0 ∷ 0x11 ∷ [])
    -- "EDC0, EDC4 are plain words"
    ∷ gives (asked (Write 4 0xE000EDC0 0xFFFFFFFF ∷ []) (Read 4 0xE000EDC0)) (0 ∷ 0xFFFFFFFF ∷ [])
    ∷ gives (asked (Write 4 0xE000EDC4 0x12345678 ∷ []) (Read 4 0xE000EDC4)) (0 ∷ 0x12345678 ∷ [])
    ∷ gives (asked (Write 4 0xE000EDC0 0xFFFFFFFF ∷ []) (Read 4 0xE000EDC4)) (0 ∷ 0 ∷ [])
    -- "4 by the guard's own register map"; its registers are words
    ∷ gives (asked [] (Read 4 0xE000EDBC)) (4 ∷ 0 ∷ [])
    ∷ gives (asked [] (Write 4 0xE000EDC8 0)) (4 ∷ 0 ∷ [])
    ∷ gives (asked [] (Read 1 0xE000EDC4)) (5 ∷ 0 ∷ [])
    ∷ gives (asked [] (Read 2 0xE000ED9C)) (5 ∷ 0 ∷ [])
    ∷ gives (answered (last_on chip55 [] (Read 4 0xE000EDBC))) (4 ∷ 0 ∷ [])
    ∷ gives (answered (last_on chip55 [] (Read 4 0xE000EDC0))) (4 ∷ 0 ∷ [])
    ∷ gives (answered (last_on chip55 [] (Write 4 0xE000EDC4 0))) (4 ∷ 0 ∷ [])
    -- the same on 240 lines
    ∷ gives (answered (last_on (with_edition Pmsav8 chip240) (Write 4 0xE000EDC4 0xFFFFFFFF ∷ []) (Read 4 0xE000EDC4))) (0 ∷ 0xFFFFFFFF ∷ [])
    ∷ gives (answered (last_on chip240 [] (Read 4 0xE000EDC4))) (4 ∷ 0 ∷ [])
    -- what is sound goes by the guard: the plain words, bit 4 of a base and of the last word, bits that attributes do not keep
    ∷ gives (handed Pmsav8 (with_plain 0xFFFFFFFF 1)) (0 ∷ [])
    ∷ gives (handed Pmsav7 (with_plain 1 0)) (16 ∷ [])
    ∷ gives (handed Pmsav7 (with_plain 0 1)) (16 ∷ [])
    ∷ gives (handed Pmsav8 (with_words 0x1F 0x0E)) (0 ∷ [])
    ∷ gives (handed Pmsav8 (with_words 0 0x10)) (16 ∷ [])
    ∷ gives (handed Pmsav7 (with_words 0x1F 0)) (16 ∷ [])
    ∷ gives (handed Pmsav7 (with_words 0 0xE0)) (16 ∷ [])
    ∷ []
