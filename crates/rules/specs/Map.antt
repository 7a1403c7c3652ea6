-- Document 01, "Registers": the register at an address. The table there is the whole map of ARMv7-M; `MapArmv6m` has the other.
use Rattle.std.specs.Prelude.{ℕ, ◌+◌, ◌-◌, ◌%◌, cond, ◌&&◌, ◌||◌, eqb}
use Rattle.mpu.specs.declared.MpuRegister.{MpuRegister}
use Rattle.mpu.specs.declared.MpuRegister.TheVariants as mpu
use Rattle.mpu.specs.Editions.{guard_register_at}
use Rattle.rules.specs.declared.TimerRegister.TheVariants.{Stctrl, Streload, Stcurrent}
use Rattle.rules.specs.declared.Bank.TheVariants.{Active}
use Rattle.rules.specs.declared.SystemRegister.TheVariants.{Ictype, Cpuid, Intctrl, Vtable, Apint, Sysctrl, Cfgctrl, Syshndctrl, Faultstat, Hfaultstat, Mmaddr, Faultaddr, Swtrig}
use Rattle.rules.specs.declared.Register.{Register}
use Rattle.rules.specs.declared.Register.TheVariants.{Missing, Timer, Flags, Priority, System, Guard, Constant}
use Rattle.rules.specs.declared.Chip.{Chip}
use Rattle.rules.specs.Chip.{is_armv6m}
use Rattle.rules.specs.Blocks.{flag_words, byte_words, in_block, first_flag, bank_register}
use Rattle.rules.specs.MapArmv6m.{armv6m_register}

abbrev pub guard_register : MpuRegister → Register
guard_register mpu.Missing = Missing
guard_register mpu.Kind = Guard mpu.Kind
guard_register mpu.Control = Guard mpu.Control
guard_register mpu.Number = Guard mpu.Number
guard_register mpu.Base = Guard mpu.Base
guard_register mpu.Attributes = Guard mpu.Attributes
guard_register (mpu.Rbar pair) = Guard (mpu.Rbar pair)
guard_register (mpu.Rlar pair) = Guard (mpu.Rlar pair)
guard_register mpu.Mair0 = Guard mpu.Mair0
guard_register mpu.Mair1 = Guard mpu.Mair1

-- the blocks, whose length is the chip's: E100 enable set, E180 clear, E200 pending set, E280 clear, E300 active, E400 priority bytes; ED90 the
-- MPU, to EDC4 at most (document 02, E12: "the guard's own register map")
unfoldable pub block_register : Chip → ℕ → Register
block_register c a =
    bank_register c a
    (cond (in_block 0xE000E300 (flag_words c) a) (Flags Active (first_flag 0xE000E300 a))
    (cond (in_block 0xE000E400 (byte_words c) a) (Priority (16 + (a - 0xE000E400)))
    (cond (in_block 0xE000ED90 14 a) (guard_register (guard_register_at c.guard (a - 0xE000ED90)))
    Missing)))

-- The register at the aligned address a. ED18, 1C and 20 hold the bytes of the exceptions 4 to 15.
unfoldable pub register_at : Chip → ℕ → Register
register_at c a =
    cond (eqb a 0xE000E004) (System Ictype)
    (cond (eqb a 0xE000E010) (Timer Stctrl)
    (cond (eqb a 0xE000E014) (Timer Streload)
    (cond (eqb a 0xE000E018) (Timer Stcurrent)
    (cond (eqb a 0xE000ED00) (System Cpuid)
    (cond (eqb a 0xE000ED04) (System Intctrl)
    (cond (eqb a 0xE000ED08) (System Vtable)
    (cond (eqb a 0xE000ED0C) (System Apint)
    (cond (eqb a 0xE000ED10) (System Sysctrl)
    (cond (eqb a 0xE000ED14) (System Cfgctrl)
    (cond (eqb a 0xE000ED18) (Priority 4)
    (cond (eqb a 0xE000ED1C) (Priority 8)
    (cond (eqb a 0xE000ED20) (Priority 12)
    (cond (eqb a 0xE000ED24) (System Syshndctrl)
    (cond (eqb a 0xE000ED28) (System Faultstat)
    (cond (eqb a 0xE000ED2C) (System Hfaultstat)
    (cond (eqb a 0xE000ED34) (System Mmaddr)
    (cond (eqb a 0xE000ED38) (System Faultaddr)
    (cond (eqb a 0xE000EF00) (System Swtrig)
    (block_register c a)))))))))))))))))))

-- the register of the aligned word that holds this address, by the profile's map
abbrev pub register_of : Chip → ℕ → Register
register_of c a = cond (is_armv6m c) (armv6m_register c (a - a % 4)) (register_at c (a - a % 4))

-- "All are words; bytes too at E400 to E437 and ED18 to ED23" (document 02, E4: to E4EF): 4 where there is no register, 5 where the width is not allowed, else 0.
-- E10: "4 for registers it lacks, 5 for single priority bytes"
unfoldable pub width_refusal : Chip → Register → ℕ → ℕ
width_refusal c Missing w = 4
width_refusal c (Timer r) w = cond (eqb w 4) 0 5
width_refusal c (Flags b n) w = cond (eqb w 4) 0 5
width_refusal c (Priority n) w = cond (eqb w 2 || (is_armv6m c && eqb w 1)) 5 0
width_refusal c (System r) w = cond (eqb w 4) 0 5
width_refusal c (Guard r) w = cond (eqb w 4) 0 5
width_refusal c (Constant x) w = cond (eqb w 4) 0 5
