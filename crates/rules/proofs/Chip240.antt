-- Document 02, E4, "A chip with 240 lines": each number of the request, worked out from the definitions that every chip shares.
use Rattle.std.specs.Prelude.{ℕ, ◌+◌, ◌<◌, ◌≡◌, refl, List, Bool, true, false, set}
use Rattle.std.proofs.Common.{arith}
use Rattle.bits.specs.Words.{field}
use Rattle.mpu.specs.declared.Edition.TheVariants.{Pmsav7}
use Rattle.rules.specs.declared.Register.TheVariants as reg
use Rattle.rules.specs.declared.Bank.TheVariants.{EnableSet, EnableClear, PendingSet, PendingClear, Active}
use Rattle.rules.specs.declared.SystemRegister.TheVariants.{Ictype}
use Rattle.rules.specs.declared.Part.TheVariants.{Lines55, Lines240}
use Rattle.rules.specs.Chip.{chip55, chip240, chip_of, flag_count, exception_count, is_line}
use Rattle.rules.specs.Model.{Model, refuse}
use Rattle.rules.specs.SystemBlock.{kept_vtable}
use Rattle.rules.specs.Blocks.{flag_words}
use Rattle.rules.specs.Map.{block_register, register_at}
use Rattle.rules.specs.Reads.{intctrl_value, system_value}
use Rattle.rules.specs.Writes.{swtrig_written}
use Rattle.rules.specs.Events.{line_call}

-- "Both chips stay .. the library's caller names the chip"
named : (chip_of (record { part = Lines55; bits = 3; guard = Pmsav7 }) ≡ chip55) × (chip_of (record { part = Lines240; bits = 3; guard = Pmsav7 }) ≡ chip240)
named = (refl, refl)

-- "lines 0 to 239, exceptions up to 255"
lines : (is_line chip240 (16 + 239) ≡ true) × (is_line chip240 256 ≡ false) × (flag_count chip240 ≡ 256)
lines = (refl, refl, refl)

-- "Enable, pending and active registers become eight words each"
words : flag_words chip240 ≡ 8
words = refl

-- the last word of each, and none past it: "Refusals: .. 4 by the chip's own map"
enable_set_lem : (register_at chip240 0xE000E11C ≡ reg.Flags EnableSet 240) × (register_at chip240 0xE000E120 ≡ reg.Missing)
unfolding register_at block_register
enable_set_lem = (refl, refl)

enable_clear_lem : (register_at chip240 0xE000E19C ≡ reg.Flags EnableClear 240) × (register_at chip240 0xE000E1A0 ≡ reg.Missing)
unfolding register_at block_register
enable_clear_lem = (refl, refl)

pending_set_lem : (register_at chip240 0xE000E21C ≡ reg.Flags PendingSet 240) × (register_at chip240 0xE000E220 ≡ reg.Missing)
unfolding register_at block_register
pending_set_lem = (refl, refl)

pending_clear_lem : (register_at chip240 0xE000E29C ≡ reg.Flags PendingClear 240) × (register_at chip240 0xE000E2A0 ≡ reg.Missing)
unfolding register_at block_register
pending_clear_lem = (refl, refl)

active : (register_at chip240 0xE000E31C ≡ reg.Flags Active 240) × (register_at chip240 0xE000E320 ≡ reg.Missing)
unfolding register_at block_register
active = (refl, refl)

-- "priorities run to 0xE000E4EF"
priorities : (register_at chip240 0xE000E4EC ≡ reg.Priority (16 + 236)) × (register_at chip240 0xE000E4F0 ≡ reg.Missing)
unfolding register_at block_register
priorities = (refl, refl)

-- "the word at E000E004 reads 7"
ictype : (m : Model) → (system_value chip240 Ictype m ≡ 7) × (system_value chip55 Ictype m ≡ 1)
unfolding system_value
ictype m = (refl, refl)

-- "INTCTRL shows eight bits of the nest's top": an exception's number is below 256, and is what bits 7:0 show
intctrl : (pending : List Bool) (base : Bool) (topmost : ℕ) → topmost < 256 → field 7 0 (intctrl_value pending base topmost) ≡ topmost
unfolding intctrl_value
intctrl pending base topmost h = omega arith

-- "VTABLE keeps bits 29:10"
vtable : (kept_vtable chip240 0xFFFFFFFF ≡ 0x3FFFFC00) × (kept_vtable chip55 0xFFFFFFFF ≡ 0x3FFFFE00)
vtable = (refl, refl)

-- "SWTRIG has no effect above 239"
swtrig : (l : List Bool) → (swtrig_written chip240 239 l ≡ set l 255 true) × (swtrig_written chip240 240 l ≡ l)
unfolding swtrig_written
swtrig l = (refl, refl)

-- "In demand 3 the bare bound becomes 248 for this chip."
bare_bound : (exception_count chip240 ≡ 248) × (exception_count chip55 ≡ 63)
bare_bound = (refl, refl)

-- "Refusals: 6 above 239"
line_239 : (m : Model) → (line_call chip240 m 239 1).refusal ≡ 0
unfolding line_call
line_239 m = refl

line_240 : (m : Model) → line_call chip240 m 240 1 ≡ refuse 6 m
unfolding line_call
line_240 m = refl
