-- Document 01, "The chip", and document 02, E4, E7, E10 and E12: which chips there are, and which exceptions each has.
use Rattle.std.specs.Prelude.{ℕ, ◌+◌, List, [], ◌∷◌, Bool, true, false, cond, ◌&&◌, ◌||◌, length, ltb, leb, eqb}
use Rattle.mpu.specs.declared.Edition.{Edition}
use Rattle.mpu.specs.declared.Edition.TheVariants.{Pmsav7}
use Rattle.rules.specs.declared.Chip.{Chip}
use Rattle.rules.specs.declared.Profile.{Profile}
use Rattle.rules.specs.declared.Profile.TheVariants.{Armv7m, Armv6m}
use Rattle.rules.specs.declared.Part.{Part}
use Rattle.rules.specs.declared.Part.TheVariants.{Lines55, Lines240, CortexM0}
use Rattle.rules.specs.declared.Setup.{Setup}
use Rattle.rules.specs.declared.Place.{Place}
use Rattle.rules.specs.declared.Place.TheVariants.{Exception, Enable, Line}

-- "Lines 0 to 54", "bits 7:5 are kept"
abbrev pub chip55 : Chip
chip55 = record { profile = Armv7m; guard = Pmsav7; lines = 55; bits = 3 }

-- E4: "The next printer's chip has lines 0 to 239"
abbrev pub chip240 : Chip
chip240 = record { profile = Armv7m; guard = Pmsav7; lines = 240; bits = 3 }

-- E10: "The hand-held printer has an ARMv6-M core. Profile: 32 lines, two priority bits (fixed by the profile ..), .. no MPU": which edition stands
-- here is never asked
abbrev pub chip_m0 : Chip
chip_m0 = record { profile = Armv6m; guard = Pmsav7; lines = 32; bits = 2 }

-- Every rule that E10 changes asks this, and nothing else, of the chip.
abbrev pub armv6m : Profile → Bool
armv6m Armv7m = false
armv6m Armv6m = true

abbrev pub is_armv6m : Chip → Bool
is_armv6m c = armv6m c.profile

-- E7: "Let a chip keep the top w bits"
abbrev pub with_bits : ℕ → Chip → Chip
with_bits w c = record { profile = c.profile; guard = c.guard; lines = c.lines; bits = w }

-- E12: "The successor core has the ARMv8-M guard", "a second guard"
abbrev pub with_edition : Edition → Chip → Chip
with_edition e c = record { profile = c.profile; guard = e; lines = c.lines; bits = c.bits }

-- E4: "the library's caller names the chip or setup", with E7 the bits that it keeps, with E12 its guard; E10: the profile fixes both, whatever the setup
-- says of them
abbrev pub part_chip : Part → ℕ → Edition → Chip
part_chip Lines55 w e = with_edition e (with_bits w chip55)
part_chip Lines240 w e = with_edition e (with_bits w chip240)
part_chip CortexM0 w e = chip_m0

abbrev pub chip_of : Setup → Chip
chip_of s = part_chip s.part s.bits s.guard

-- E7: "w from 3 to 8"; E10: "two priority bits (fixed by the profile, so refusal 17 never touches it)"
abbrev pub fits : Chip → Bool
fits c = cond (is_armv6m c) (eqb c.bits 2) (leb 3 c.bits && leb c.bits 8)

-- "Flags are held for numbers 0 to 70"; E4: "exceptions up to 255"
abbrev pub flag_count : Chip → ℕ
flag_count c = 16 + c.lines

abbrev pub is_in : ℕ → List ℕ → Bool
is_in n [] = false
is_in n (x ∷ xs) = eqb n x || is_in n xs

-- "System exceptions: 2 NMI, 3 HardFault, 4 MemManage, 5 BusFault, 6 UsageFault, 11 SVCall, 14 PendSV, 15 SysTick."
-- Those that can be enabled are 4, 5 and 6; E10: "no configurable faults", "Exceptions are 2, 3, 11, 14, 15 and the lines."
abbrev pub configurable : Chip → List ℕ
configurable c = cond (is_armv6m c) [] (4 ∷ 5 ∷ 6 ∷ [])

abbrev pub system_exceptions : Chip → List ℕ
system_exceptions c = 2 ∷ 3 ∷ 11 ∷ 14 ∷ 15 ∷ configurable c

-- "That makes 63"; E4: "the bare bound becomes 248"; E10: "the bare bound is 37"
abbrev pub exception_count : Chip → ℕ
exception_count c = length (system_exceptions c) + c.lines

-- How many lowest bits of a vector table's address are 0: the table, a word for each number that has a flag, stands at a multiple of its
-- size rounded up to a power of 2. Up to 128 vectors that is 512 bytes, above it 1024.
abbrev pub vtable_low : Chip → ℕ
vtable_low c = cond (leb (flag_count c) 128) 9 10

-- "Lines 0 to 54 are exceptions 16 to 70."
abbrev pub is_line : Chip → ℕ → Bool
is_line c n = leb 16 n && ltb n (flag_count c)

abbrev pub exists : Chip → ℕ → Bool
exists c n = is_in n (system_exceptions c) || is_line c n

-- "Fixed priorities: NMI -2, HardFault -1. The rest have a byte"
abbrev pub has_byte : Chip → ℕ → Bool
has_byte c n = leb 4 n && exists c n

-- Those that an enable bit governs: "4, 5, 6 by SYSHNDCTRL bits 16, 17, 18; lines by their enable bit."
abbrev pub has_enable : Chip → ℕ → Bool
has_enable c n = is_in n (configurable c) || is_line c n

-- where a flag of each kind may stand
abbrev pub stands : Chip → Place → ℕ → Bool
stands c Exception n = exists c n
stands c Enable n = has_enable c n
stands c Line n = is_line c n
