-- Document 01, "Registers": what a write to each register does. "Writing a read-only register is accepted without effect."
use Rattle.std.specs.Prelude.{ℕ, ◌+◌, List, Bool, true, false, cond, set, ltb, eqb}
use Rattle.flag_words.specs.Flags.{flags_word, set_flags, clear_flags}
use Rattle.bits.specs.Words.{field, bit_at, without, byte_at}
use Rattle.grouping.specs.Grouping.{kept_byte}
use Rattle.systick.specs.declared.Timer.{Timer}
use Rattle.systick.specs.Timer.{write_control, write_reload, write_current}
use Rattle.mpu.specs.Registers.{write_mpu}
use Rattle.rules.specs.declared.System.{System}
use Rattle.rules.specs.declared.TimerRegister.{TimerRegister}
use Rattle.rules.specs.declared.TimerRegister.TheVariants.{Stctrl, Streload, Stcurrent}
use Rattle.rules.specs.declared.Bank.{Bank}
use Rattle.rules.specs.declared.Bank.TheVariants.{EnableSet, EnableClear, PendingSet, PendingClear, Active}
use Rattle.rules.specs.declared.SystemRegister.{SystemRegister}
use Rattle.rules.specs.declared.SystemRegister.TheVariants.{Ictype, Cpuid, Intctrl, Vtable, Apint, Sysctrl, Cfgctrl, Syshndctrl, Faultstat, Hfaultstat, Mmaddr, Faultaddr, Swtrig}
use Rattle.rules.specs.declared.Register.{Register}
use Rattle.rules.specs.declared.Register.TheVariants as reg
use Rattle.rules.specs.declared.Chip.{Chip}
use Rattle.rules.specs.Chip.{has_byte}
use Rattle.rules.specs.Model.{Model, with_pending, with_enabled, with_priority, with_group, with_timer, with_guard, with_system}
use Rattle.rules.specs.SystemBlock.{kept_vtable, kept_sysctrl, kept_cfgctrl}

unfoldable pub timer_written : TimerRegister → ℕ → Timer → Timer
timer_written Stctrl v t = write_control v t
timer_written Streload v t = write_reload v t
timer_written Stcurrent v t = write_current v t

-- "Clearing pending has no effect while the line is high and not active": those bits of the word count as 0
unfoldable pub clearable : List Bool → List Bool → ℕ → ℕ → ℕ
clearable level active n v = without 32 v (without 32 (flags_word level n) (flags_word active n))

-- "a 0 bit written does nothing; bits past line 54 .. ignore writes"
unfoldable pub bank_written : Bank → ℕ → ℕ → Model → Model
bank_written EnableSet n v m = with_enabled (set_flags m.enabled n v) m
bank_written EnableClear n v m = with_enabled (clear_flags m.enabled n v) m
bank_written PendingSet n v m = with_pending (set_flags m.pending n v) m
bank_written PendingClear n v m = with_pending (clear_flags m.pending n (clearable m.level m.active n v)) m
bank_written Active n v m = m

-- one priority byte, of a line or of a system exception, cut to the chip's kept bits (document 02, E7: "Cutting a byte .. and reading back follow w");
-- where no exception has one, nothing
unfoldable pub with_byte : Chip → ℕ → ℕ → List ℕ → List ℕ
with_byte c n b bytes = cond (has_byte c n) (set bytes n (kept_byte c.bits b)) bytes

unfoldable pub with_bytes : Chip → ℕ → ℕ → List ℕ → List ℕ
with_bytes c n v bytes =
    with_byte c (n + 3) (byte_at 3 v)
    (with_byte c (n + 2) (byte_at 2 v)
    (with_byte c (n + 1) (byte_at 1 v)
    (with_byte c n (byte_at 0 v) bytes)))

-- a pair of bits that sets or clears a pending flag: "clear wins if both"
unfoldable pub set_or_clear : ℕ → Bool → Bool → List Bool → List Bool
set_or_clear n sets clears pending = cond clears (set pending n false) (cond sets (set pending n true) pending)

-- "31 NMI, 28/27 PendSV set/clear, 26/25 SysTick set/clear"
unfoldable pub intctrl_written : ℕ → List Bool → List Bool
intctrl_written v pending =
    set_or_clear 15 (bit_at 26 v) (bit_at 25 v)
    (set_or_clear 14 (bit_at 28 v) (bit_at 27 v)
    (set_or_clear 2 (bit_at 31 v) false pending))

-- "bits 18:16 kept": the enable flags of 4, 5, 6
unfoldable pub syshndctrl_written : ℕ → List Bool → List Bool
syshndctrl_written v enabled = set (set (set enabled 4 (bit_at 16 v)) 5 (bit_at 17 v)) 6 (bit_at 18 v)

-- "a write needs 0x05FA in 31:16, else no effect; 10:8 group setting"
unfoldable pub apint_written : ℕ → ℕ → ℕ
apint_written v group = cond (eqb (field 31 16 v) 0x05FA) (field 10 8 v) group

-- "SWTRIG: bits 8:0 name a line to make pending, above 54 no effect"; document 02, E4: "above 239"
unfoldable pub swtrig_written : Chip → ℕ → List Bool → List Bool
swtrig_written c v pending = cond (ltb (field 8 0 v) c.lines) (set pending (16 + field 8 0 v) true) pending

abbrev pub with_vtable : ℕ → System → System
with_vtable x s =
    record { vtable = x; sysctrl = s.sysctrl; cfgctrl = s.cfgctrl; faultstat = s.faultstat; hfaultstat = s.hfaultstat; mmaddr = s.mmaddr; faultaddr = s.faultaddr }

abbrev pub with_sysctrl : ℕ → System → System
with_sysctrl x s =
    record { vtable = s.vtable; sysctrl = x; cfgctrl = s.cfgctrl; faultstat = s.faultstat; hfaultstat = s.hfaultstat; mmaddr = s.mmaddr; faultaddr = s.faultaddr }

abbrev pub with_cfgctrl : ℕ → System → System
with_cfgctrl x s =
    record { vtable = s.vtable; sysctrl = s.sysctrl; cfgctrl = x; faultstat = s.faultstat; hfaultstat = s.hfaultstat; mmaddr = s.mmaddr; faultaddr = s.faultaddr }

abbrev pub with_faultstat : ℕ → System → System
with_faultstat x s =
    record { vtable = s.vtable; sysctrl = s.sysctrl; cfgctrl = s.cfgctrl; faultstat = x; hfaultstat = s.hfaultstat; mmaddr = s.mmaddr; faultaddr = s.faultaddr }

abbrev pub with_hfaultstat : ℕ → System → System
with_hfaultstat x s =
    record { vtable = s.vtable; sysctrl = s.sysctrl; cfgctrl = s.cfgctrl; faultstat = s.faultstat; hfaultstat = x; mmaddr = s.mmaddr; faultaddr = s.faultaddr }

-- the registers of the system block that are plain storage; "writing 1 clears a set bit" of FAULTSTAT and HFAULTSTAT
unfoldable pub stored_written : Chip → SystemRegister → ℕ → System → System
stored_written c Vtable v s = with_vtable (kept_vtable c v) s
stored_written c Sysctrl v s = with_sysctrl (kept_sysctrl v) s
stored_written c Cfgctrl v s = with_cfgctrl (kept_cfgctrl v) s
stored_written c Faultstat v s = with_faultstat (without 32 s.faultstat v) s
stored_written c Hfaultstat v s = with_hfaultstat (without 32 s.hfaultstat v) s
stored_written c Ictype v s = s
stored_written c Cpuid v s = s
stored_written c Intctrl v s = s
stored_written c Apint v s = s
stored_written c Syshndctrl v s = s
stored_written c Mmaddr v s = s
stored_written c Faultaddr v s = s
stored_written c Swtrig v s = s

unfoldable pub system_written : Chip → SystemRegister → ℕ → Model → Model
system_written c Intctrl v m = with_pending (intctrl_written v m.pending) m
system_written c Apint v m = with_group (apint_written v m.core.group) m
system_written c Syshndctrl v m = with_enabled (syshndctrl_written v m.enabled) m
system_written c Swtrig v m = with_pending (swtrig_written c v m.pending) m
system_written c Vtable v m = with_system (stored_written c Vtable v m.core.system) m
system_written c Sysctrl v m = with_system (stored_written c Sysctrl v m.core.system) m
system_written c Cfgctrl v m = with_system (stored_written c Cfgctrl v m.core.system) m
system_written c Faultstat v m = with_system (stored_written c Faultstat v m.core.system) m
system_written c Hfaultstat v m = with_system (stored_written c Hfaultstat v m.core.system) m
system_written c Ictype v m = m
system_written c Cpuid v m = m
system_written c Mmaddr v m = m
system_written c Faultaddr v m = m

unfoldable pub word_written : Chip → Register → ℕ → Model → Model
word_written c reg.Missing v m = m
word_written c (reg.Timer r) v m = with_timer (timer_written r v m.core.timer) m
word_written c (reg.Flags b n) v m = bank_written b n v m
word_written c (reg.Priority n) v m = with_priority (with_bytes c n v m.priority) m
word_written c (reg.System r) v m = system_written c r v m
word_written c (reg.Guard r) v m = with_guard (write_mpu r v m.core.guard) m
word_written c (reg.Constant x) v m = m

-- bytes "written from the value's low 8 bits"; only priority bytes are written so
unfoldable pub byte_written : Chip → Register → ℕ → ℕ → Model → Model
byte_written c (reg.Priority n) lane v m = with_priority (with_byte c (n + lane) v m.priority) m
byte_written c reg.Missing lane v m = m
byte_written c (reg.Timer r) lane v m = m
byte_written c (reg.Flags b n) lane v m = m
byte_written c (reg.System r) lane v m = m
byte_written c (reg.Guard r) lane v m = m
byte_written c (reg.Constant x) lane v m = m
