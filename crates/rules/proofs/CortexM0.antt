-- Document 02, E10, "The small printer's Cortex-M0": each number of the request, worked out from the definitions that every chip shares.
use Rattle.std.specs.Prelude.{ℕ, ◌+◌, ◌≡◌, refl, [], ◌∷◌, map, Bool, true, false, cond, ℤ}
use Rattle.bits.specs.Words.{bit_at}
use Rattle.grouping.specs.Grouping.{kept_byte}
use Rattle.mpu.specs.declared.Edition.{Edition}
use Rattle.rules.specs.declared.Bank.TheVariants.{EnableSet, EnableClear, PendingSet, PendingClear}
use Rattle.rules.specs.declared.TimerRegister.TheVariants.{Stctrl, Streload, Stcurrent}
use Rattle.rules.specs.declared.SystemRegister.TheVariants.{Intctrl, Sysctrl}
use Rattle.rules.specs.declared.Register.TheVariants as reg
use Rattle.rules.specs.declared.Part.TheVariants.{CortexM0}
use Rattle.rules.specs.declared.Masks.{Masks}
use Rattle.rules.specs.declared.System.{System}
use Rattle.rules.specs.Chip.{chip_m0, chip_of, fits, flag_count, system_exceptions, exception_count, is_line, has_enable}
use Rattle.rules.specs.Model.{Model, refuse, fresh}
use Rattle.rules.specs.Events.{noted, line_call, lost_call, control_written, special_at, with_control}
use Rattle.rules.specs.MapArmv6m.{armv6m_block, armv6m_register}
use Rattle.rules.specs.Map.{register_of, width_refusal}
use Rattle.rules.specs.Reads.{shows_base, value_of}
use Rattle.rules.specs.Writes.{word_written}
use Rattle.rules.specs.Access.{access_by, access_call}

-- "32 lines, two priority bits (fixed by the profile, so refusal 17 never touches it)": whatever bits and guard the setup names
named : (w : ℕ) (e : Edition) → chip_of (record { part = CortexM0; bits = w; guard = e }) ≡ chip_m0
named w e = refl

never_17 : (w : ℕ) (e : Edition) → fits (chip_of (record { part = CortexM0; bits = w; guard = e })) ≡ true
never_17 w e = refl

lines : (is_line chip_m0 (16 + 31) ≡ true) × (is_line chip_m0 48 ≡ false) × (flag_count chip_m0 ≡ 48)
lines = (refl, refl, refl)

two_bits : kept_byte chip_m0.bits 0xFF ≡ 0xC0
two_bits = refl

-- "Exceptions are 2, 3, 11, 14, 15 and the lines", "the bare bound is 37", "no configurable faults"
exceptions : (system_exceptions chip_m0 ≡ 2 ∷ 3 ∷ 11 ∷ 14 ∷ 15 ∷ []) × (exception_count chip_m0 ≡ 37) × (map (has_enable chip_m0) (4 ∷ 5 ∷ 6 ∷ []) ≡ false ∷ false ∷ false ∷ [])
exceptions = (refl, refl, refl)

-- "it has E010, 14, 18, E100, E180, E200, E280, E400 to E41F, ED00 (0x410CC200), ED04 .., ED0C (reads 0xFA050000 ..), ED10, ED14 (always 0x208), ED1C and
-- ED20"
registers : map (register_of chip_m0) (0xE000E010 ∷ 0xE000E014 ∷ 0xE000E018 ∷ 0xE000E100 ∷ 0xE000E180 ∷ 0xE000E200 ∷ 0xE000E280 ∷ 0xE000E400 ∷ 0xE000E41C ∷ 0xE000ED00 ∷ 0xE000ED04 ∷ 0xE000ED0C ∷ 0xE000ED10 ∷ 0xE000ED14 ∷ 0xE000ED1C ∷ 0xE000ED20 ∷ [])
    ≡ reg.Timer Stctrl ∷ reg.Timer Streload ∷ reg.Timer Stcurrent ∷ reg.Flags EnableSet 16 ∷ reg.Flags EnableClear 16 ∷ reg.Flags PendingSet 16 ∷ reg.Flags PendingClear 16 ∷ reg.Priority 16 ∷ reg.Priority 44 ∷ reg.Constant 0x410CC200 ∷ reg.System Intctrl ∷ reg.Constant 0xFA050000 ∷ reg.System Sysctrl ∷ reg.Constant 0x208 ∷ reg.Priority 8 ∷ reg.Priority 12 ∷ []
unfolding armv6m_register armv6m_block
registers = refl

-- "4 for registers it lacks": E004, the second words of the banks, E300, E420, ED08, ED18, ED24, ED28, ED2C, ED34, ED38, the MPU's, SWTRIG
lacked : map (register_of chip_m0) (0xE000E004 ∷ 0xE000E104 ∷ 0xE000E184 ∷ 0xE000E204 ∷ 0xE000E284 ∷ 0xE000E300 ∷ 0xE000E420 ∷ 0xE000ED08 ∷ 0xE000ED18 ∷ 0xE000ED24 ∷ 0xE000ED28 ∷ 0xE000ED2C ∷ 0xE000ED34 ∷ 0xE000ED38 ∷ 0xE000ED90 ∷ 0xE000EDA0 ∷ 0xE000EF00 ∷ [])
    ≡ map (λ (a : ℕ). reg.Missing) (0xE000E004 ∷ 0xE000E104 ∷ 0xE000E184 ∷ 0xE000E204 ∷ 0xE000E284 ∷ 0xE000E300 ∷ 0xE000E420 ∷ 0xE000ED08 ∷ 0xE000ED18 ∷ 0xE000ED24 ∷ 0xE000ED28 ∷ 0xE000ED2C ∷ 0xE000ED34 ∷ 0xE000ED38 ∷ 0xE000ED90 ∷ 0xE000EDA0 ∷ 0xE000EF00 ∷ [])
unfolding armv6m_register armv6m_block
lacked = refl

-- "5 for single priority bytes": words only
words_only : (n : ℕ) → map (width_refusal chip_m0 (reg.Priority n)) (1 ∷ 2 ∷ 4 ∷ []) ≡ 5 ∷ 5 ∷ 0 ∷ []
unfolding width_refusal
words_only n = refl

-- "always 0x208", "reads 0xFA050000, writes do nothing": a constant reads as it is, and no write changes anything
constant : (x v : ℕ) (m : Model) → (value_of chip_m0 (reg.Constant x) m ≡ x) × (word_written chip_m0 (reg.Constant x) v m ≡ m)
unfolding value_of word_written
constant x v m = (refl, refl)

-- ED04: "bit 11 is 0"
bit_11 : (depth : ℕ) → shows_base chip_m0 depth ≡ false
unfolding shows_base
bit_11 depth = refl

-- "no fault status or address kept"
nothing_noted : (status s : System) → noted chip_m0 status s ≡ s
unfolding noted
nothing_noted status s = refl

-- "CONTROL keeps bit 1 only", which only thread mode writes
control : (v : ℕ) (thread : Bool) (k : Masks) → control_written chip_m0 v thread k ≡ with_control false (cond thread (bit_at 1 v) k.spsel) k
unfolding control_written
control v thread k = refl

-- "6 for special registers 1, 2 and 3 and for lines above 31"
specials : (e : ℤ) (m : Model) (v : ℕ) → (special_at e chip_m0 m 1 v ≡ refuse 6 m) × (special_at e chip_m0 m 2 v ≡ refuse 6 m) × (special_at e chip_m0 m 3 v ≡ refuse 6 m)
unfolding special_at
specials e m v = (refl, refl, refl)

line_31 : (m : Model) → ((line_call chip_m0 m 31 1).refusal ≡ 0) × ((lost_call chip_m0 m 31).refusal ≡ 0)
unfolding line_call lost_call
line_31 m = (refl, refl)

line_32 : (m : Model) → (line_call chip_m0 m 32 1 ≡ refuse 6 m) × (lost_call chip_m0 m 32 ≡ refuse 6 m)
unfolding line_call lost_call
line_32 m = (refl, refl)

-- "access events are refused by 19, before all others but 16": of any kind, width and address
access : (m : Model) (kind width address : ℕ) → access_call chip_m0 m kind width address ≡ refuse 19 m
unfolding access_by
access m kind width address = refl

-- the fresh state holds what ED14 reads
fresh_cfgctrl_lem : (fresh chip_m0).core.system.cfgctrl ≡ 0x208
unfolding fresh
fresh_cfgctrl_lem = refl
