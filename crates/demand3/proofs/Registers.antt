-- Reads and writes of registers leave the nest alone and keep the model sound: a word of flags starts at a line, and every store is cut to its kept bits.
use Prim.Native.Nat.{ℕ, ◌+◌, ◌-◌, ◌%◌, ◌≤◌, ◌<◌}
use mathlib.Core.Path.{◌≡◌}
use mathlib.Core.List.{List}
use mathlib.Core.Bool.{Bool, true, false, not, ◌&&◌, ◌||◌}
use native.Mathlib.Omega.{arith}
use lib.ListN.{set}
use lib.Dec.{T, ltb, eqb, leb, ltb→lt, le→leb, leb→le, T_not}
use Rattle.bits.specs.Words.{field, bit_at}
use Rattle.bits.specs.WordLaws.{field_lt, kept_twice}
use Rattle.bools.specs.Tests.{false_is, implies, if_of, of_if, both, join, by_cases, either_way}
use Rattle.systick.specs.Laws.{read_control_sound, write_control_sound, write_reload_sound, write_current_sound}
use Rattle.systick.specs.declared.Timer.{Timer}
use Rattle.systick.specs.Timer.{SoundTimer}
use Rattle.mpu.specs.declared.MpuRegister.{MpuRegister}
use Rattle.mpu.specs.declared.MpuRegister.TheVariants as mpu
use Rattle.mpu.specs.Editions.{guard_register_at, belongs}
use Rattle.mpu.specs.Laws.{map_belongs, write_mpu_sound}
use Rattle.rules.specs.declared.TimerRegister.{TimerRegister}
use Rattle.rules.specs.declared.TimerRegister.TheVariants.{Stctrl, Streload, Stcurrent}
use Rattle.rules.specs.declared.Bank.{Bank}
use Rattle.rules.specs.declared.Bank.TheVariants.{EnableSet, EnableClear, PendingSet, PendingClear, Active}
use Rattle.rules.specs.declared.SystemRegister.{SystemRegister}
use Rattle.rules.specs.declared.SystemRegister.TheVariants.{Ictype, Cpuid, Intctrl, Vtable, Apint, Sysctrl, Cfgctrl, Syshndctrl, Faultstat, Hfaultstat, Mmaddr, Faultaddr, Swtrig}
use Rattle.rules.specs.declared.Register.{Register}
use Rattle.rules.specs.declared.Register.TheVariants as reg
use Rattle.rules.specs.declared.Chip.{Chip}
use Rattle.rules.specs.declared.Place.TheVariants.{Exception, Enable}
use Rattle.rules.specs.declared.System.{System}
use Rattle.rules.specs.Chip.{is_armv6m, vtable_low, exists, has_byte}
use Rattle.rules.specs.Model.{Model, Answer}
use Rattle.rules.specs.Priorities.{privileged}
use Rattle.rules.specs.Sound.{Flags, PriorityBytes, SoundSystem, BareSystem, Sound}
use Rattle.rules.specs.Blocks.{in_block, flag_words, byte_words, first_flag, bank_register}
use Rattle.rules.specs.MapArmv6m.{armv6m_block, armv6m_register}
use Rattle.rules.specs.Map.{guard_register, block_register, register_at, register_of}
use Rattle.rules.specs.Reads.{timer_read, after_read}
use Rattle.rules.specs.Writes.{timer_written, clearable, bank_written, with_byte, with_bytes, set_or_clear, intctrl_written, syshndctrl_written, apint_written, swtrig_written, stored_written, system_written, word_written, byte_written}
use Rattle.rules.specs.Registers.{access_refusal, read_call, free_write, written, write_call}
use Rattle.demand3.proofs.Words.{sysctrl_twice, cfgctrl_twice, faultstat_without, hfaultstat_without}
use Rattle.rules.proofs.Laws.{is_line_lem, line_stands}
use Rattle.demand3.proofs.Parts.{flags_set, flags_put, bytes_set}
use Rattle.demand3.proofs.Quiet.{Quiet, stay, put_pending, put_enabled, put_priority, put_group_lem, put_timer_lem, put_guard_lem, put_system_lem}

-- ---- a word of flags starts at a line, and a register of the system block or the MPU is one that the chip has

-- those of the system block that both profiles have; ARMv6-M's others are constants
unfoldable shared : SystemRegister → Bool
shared Intctrl = true
shared Sysctrl = true
shared Ictype = false
shared Cpuid = false
shared Vtable = false
shared Apint = false
shared Cfgctrl = false
shared Syshndctrl = false
shared Faultstat = false
shared Hfaultstat = false
shared Mmaddr = false
shared Faultaddr = false
shared Swtrig = false

unfoldable own : Chip → Register → Bool
own c reg.Missing = true
own c (reg.Timer r) = true
own c (reg.Flags b n) = leb 16 n
own c (reg.Priority n) = true
own c (reg.System r) = implies (is_armv6m c) (shared r)
own c (reg.Guard r) = not (is_armv6m c) && belongs c.guard r
own c (reg.Constant x) = true

flags_at : (base a : ℕ) → T (leb 16 (first_flag base a))
flags_at base a = le→leb 16 (first_flag base a) (omega arith)

shared_at : (c : Chip) (r : SystemRegister) → T (shared r) → T (own c (reg.System r))
unfolding own
shared_at c r s = if_of (is_armv6m c) (shared r) (λ _. s)

guard_at : (c : Chip) (r : MpuRegister) → T (not (is_armv6m c) && belongs c.guard r) → T (own c (guard_register r))
unfolding own
guard_at c mpu.Missing t = tt
guard_at c mpu.Kind t = t
guard_at c mpu.Control t = t
guard_at c mpu.Number t = t
guard_at c mpu.Base t = t
guard_at c mpu.Attributes t = t
guard_at c (mpu.Rbar pair) t = t
guard_at c (mpu.Rlar pair) t = t
guard_at c mpu.Mair0 t = t
guard_at c mpu.Mair1 t = t

bank_at : (c : Chip) (a : ℕ) (otherwise : Register) → T (own c otherwise) → T (own c (bank_register c a otherwise))
unfolding own
bank_at c a otherwise o =
    either_way (own c) (in_block 0xE000E100 (flag_words c) a) _ _ (flags_at 0xE000E100 a)
    (either_way (own c) (in_block 0xE000E180 (flag_words c) a) _ _ (flags_at 0xE000E180 a)
    (either_way (own c) (in_block 0xE000E200 (flag_words c) a) _ _ (flags_at 0xE000E200 a)
    (either_way (own c) (in_block 0xE000E280 (flag_words c) a) _ _ (flags_at 0xE000E280 a) o)))

module _ (c : Chip) (full : T (not (is_armv6m c))) where
  system_at : (r : SystemRegister) → T (own c (reg.System r))
  unfolding own
  system_at r = if_of (is_armv6m c) (shared r) (λ t. absurd (T_not (is_armv6m c) full t))

  block_at : (a : ℕ) → T (own c (block_register c a))
  unfolding own block_register
  block_at a =
      bank_at c a _
      (either_way (own c) (in_block 0xE000E300 (flag_words c) a) _ _ (flags_at 0xE000E300 a)
      (either_way (own c) (in_block 0xE000E400 (byte_words c) a) _ _ tt
      (either_way (own c) (in_block 0xE000ED90 14 a) _ _
      (guard_at c (guard_register_at c.guard (a - 0xE000ED90)) (join (not (is_armv6m c)) _ full (map_belongs c.guard (a - 0xE000ED90)))) tt)))

  register_at_lem : (a : ℕ) → T (own c (register_at c a))
  unfolding own register_at
  register_at_lem a = search (either_way (own c), system_at, block_at) depth 30

armv6m_block_at : (c : Chip) (a : ℕ) → T (own c (armv6m_block c a))
unfolding own armv6m_block
armv6m_block_at c a = bank_at c a _ (either_way (own c) (in_block 0xE000E400 (byte_words c) a) _ _ tt tt)

armv6m_at : (c : Chip) (a : ℕ) → T (own c (armv6m_register c a))
unfolding own shared armv6m_register
armv6m_at c a = let i = shared_at c Intctrl tt in let s = shared_at c Sysctrl tt in search (either_way (own c), armv6m_block_at) depth 30

own_at : (c : Chip) (a : ℕ) → T (own c (register_of c a))
own_at c a = by_cases (λ (r : Register). T (own c r)) (is_armv6m c) (λ _. armv6m_at c (a - a % 4)) (λ full. register_at_lem c full (a - a % 4))

-- ---- the flags, the bytes and the system block

set_or_clear_lem : (c : Chip) (n : ℕ) (sets clears : Bool) (l : List Bool) → T (exists c n) → Flags c Exception l → Flags c Exception (set_or_clear n sets clears l)
unfolding set_or_clear
set_or_clear_lem c n sets clears l e f =
    by_cases (Flags c Exception) clears (λ _. flags_set c Exception l n false (λ x. absurd x) f)
    (λ _. by_cases (Flags c Exception) sets (λ _. flags_set c Exception l n true (λ _. e) f) (λ _. f))

intctrl_flags : (c : Chip) (v : ℕ) (l : List Bool) → Flags c Exception l → Flags c Exception (intctrl_written v l)
unfolding intctrl_written
intctrl_flags c v l f = set_or_clear_lem c 15 _ _ _ tt (set_or_clear_lem c 14 _ _ _ tt (set_or_clear_lem c 2 _ _ l tt f))

syshndctrl_flags : (c : Chip) (v : ℕ) (l : List Bool) → is_armv6m c ≡ false → Flags c Enable l → Flags c Enable (syshndctrl_written v l)
unfolding syshndctrl_written
syshndctrl_flags c v l full f =
    let a = flags_set c Enable l 4 (bit_at 16 v) (λ _. rw full tt) f in
    let b = flags_set c Enable (set l 4 (bit_at 16 v)) 5 (bit_at 17 v) (λ _. rw full tt) a in
    flags_set c Enable (set (set l 4 (bit_at 16 v)) 5 (bit_at 17 v)) 6 (bit_at 18 v) (λ _. rw full tt) b

swtrig_flags : (c : Chip) (v : ℕ) (l : List Bool) → Flags c Exception l → Flags c Exception (swtrig_written c v l)
unfolding swtrig_written
swtrig_flags c v l f =
    by_cases (Flags c Exception) (ltb (field 8 0 v) c.lines)
    (λ t. flags_set c Exception l (16 + field 8 0 v) true (λ _. line t) f)
    (λ _. f)
  where
    line : T (ltb (field 8 0 v) c.lines) → T (exists c (16 + field 8 0 v))
    line t =
        let h = ltb→lt (field 8 0 v) c.lines t in
        line_stands c (16 + field 8 0 v) Exception (is_line_lem c (16 + field 8 0 v) (omega arith) (omega arith))

byte_written_lem : (c : Chip) (n b : ℕ) (l : List ℕ) → PriorityBytes c l → PriorityBytes c (with_byte c n b l)
unfolding with_byte
byte_written_lem c n b l h = by_cases (PriorityBytes c) (has_byte c n) (λ t. bytes_set c l n b t h) (λ _. h)

bytes_written : (c : Chip) (n v : ℕ) (l : List ℕ) → PriorityBytes c l → PriorityBytes c (with_bytes c n v l)
unfolding with_bytes
bytes_written c n v l h = byte_written_lem c _ _ _ (byte_written_lem c _ _ _ (byte_written_lem c _ _ _ (byte_written_lem c _ _ _ h)))

group_below : (v group : ℕ) → group < 8 → apint_written v group < 8
unfolding apint_written
group_below v group h = by_cases (λ (p : ℕ). p < 8) (eqb (field 31 16 v) 0x05FA) (λ _. field_lt 10 8 v) (λ _. h)

stored_sound : (c : Chip) (r : SystemRegister) (v : ℕ) (s : System) → SoundSystem c s → SoundSystem c (stored_written c r v s)
unfolding stored_written
stored_sound c Vtable v s h = record { vtable = kept_twice 29 (vtable_low c) v; sysctrl = h.sysctrl; cfgctrl = h.cfgctrl; faultstat = h.faultstat; hfaultstat = h.hfaultstat }
stored_sound c Sysctrl v s h = record { vtable = h.vtable; sysctrl = sysctrl_twice v; cfgctrl = h.cfgctrl; faultstat = h.faultstat; hfaultstat = h.hfaultstat }
stored_sound c Cfgctrl v s h = record { vtable = h.vtable; sysctrl = h.sysctrl; cfgctrl = cfgctrl_twice v; faultstat = h.faultstat; hfaultstat = h.hfaultstat }
stored_sound c Faultstat v s h = record { vtable = h.vtable; sysctrl = h.sysctrl; cfgctrl = h.cfgctrl; faultstat = faultstat_without s.faultstat v h.faultstat; hfaultstat = h.hfaultstat }
stored_sound c Hfaultstat v s h = record { vtable = h.vtable; sysctrl = h.sysctrl; cfgctrl = h.cfgctrl; faultstat = h.faultstat; hfaultstat = hfaultstat_without s.hfaultstat v h.hfaultstat }
stored_sound c Ictype v s h = h
stored_sound c Cpuid v s h = h
stored_sound c Intctrl v s h = h
stored_sound c Apint v s h = h
stored_sound c Syshndctrl v s h = h
stored_sound c Mmaddr v s h = h
stored_sound c Faultaddr v s h = h
stored_sound c Swtrig v s h = h

timer_sound : (r : TimerRegister) (v : ℕ) (t : Timer) → SoundTimer t → SoundTimer (timer_written r v t)
unfolding timer_written
timer_sound Stctrl v t h = write_control_sound v h
timer_sound Streload v t h = write_reload_sound v h
timer_sound Stcurrent v t h = write_current_sound v h

timer_read_sound : (r : TimerRegister) (t : Timer) → SoundTimer t → SoundTimer (timer_read r t)
unfolding timer_read
timer_read_sound Stctrl t h = read_control_sound h
timer_read_sound Streload t h = h
timer_read_sound Stcurrent t h = h

-- ---- the registers

module _ {c : Chip} {m : Model} (h : Sound c m) where
  bank_quiet : (b : Bank) (n v : ℕ) → 16 ≤ n → Quiet c m (bank_written b n v m)
  unfolding bank_written
  bank_quiet EnableSet n v l = put_enabled (stay h) (flags_put c Enable true 32 m.enabled n v l h.enabled)
  bank_quiet EnableClear n v l = put_enabled (stay h) (flags_put c Enable false 32 m.enabled n v l h.enabled)
  bank_quiet PendingSet n v l = put_pending (stay h) (flags_put c Exception true 32 m.pending n v l h.pending)
  bank_quiet PendingClear n v l = put_pending (stay h) (flags_put c Exception false 32 m.pending n (clearable m.level m.active n v) l h.pending)
  bank_quiet Active n v l = stay h

  -- a register that ARMv6-M lacks is not one of its chips'
  lacked : {A : Type 0} → T (implies (is_armv6m c) false) → T (is_armv6m c) → A
  lacked o t = absurd (of_if (is_armv6m c) false o t)

  system_quiet : (r : SystemRegister) (v : ℕ) → T (own c (reg.System r)) → Quiet c m (system_written c r v m)
  unfolding system_written stored_written own shared
  system_quiet Intctrl v o = put_pending (stay h) (intctrl_flags c v m.pending h.pending)
  system_quiet Apint v o = put_group_lem (stay h) (group_below v m.core.group h.core.group) (lacked o)
  system_quiet Syshndctrl v o = put_enabled (stay h) (syshndctrl_flags c v m.enabled (false_is (is_armv6m c) (lacked o)) h.enabled)
  system_quiet Swtrig v o = put_pending (stay h) (swtrig_flags c v m.pending h.pending)
  system_quiet Vtable v o = put_system_lem (stay h) (stored_sound c Vtable v m.core.system h.core.system) (lacked o)
  system_quiet Sysctrl v o = put_system_lem (stay h) (stored_sound c Sysctrl v m.core.system h.core.system) sysctrl_bare
    where
      sysctrl_bare : T (is_armv6m c) → BareSystem (stored_written c Sysctrl v m.core.system)
      sysctrl_bare t = let b = (h.core.bare t).system in record { vtable = b.vtable; cfgctrl = b.cfgctrl; faultstat = b.faultstat; hfaultstat = b.hfaultstat; mmaddr = b.mmaddr; faultaddr = b.faultaddr }
  system_quiet Cfgctrl v o = put_system_lem (stay h) (stored_sound c Cfgctrl v m.core.system h.core.system) (lacked o)
  system_quiet Faultstat v o = put_system_lem (stay h) (stored_sound c Faultstat v m.core.system h.core.system) (lacked o)
  system_quiet Hfaultstat v o = put_system_lem (stay h) (stored_sound c Hfaultstat v m.core.system h.core.system) (lacked o)
  system_quiet Ictype v o = stay h
  system_quiet Cpuid v o = stay h
  system_quiet Mmaddr v o = stay h
  system_quiet Faultaddr v o = stay h

  word_quiet : (r : Register) (v : ℕ) → T (own c r) → Quiet c m (word_written c r v m)
  unfolding word_written own
  word_quiet reg.Missing v t = stay h
  word_quiet (reg.Timer r) v t = put_timer_lem (stay h) (timer_sound r v m.core.timer h.core.timer)
  word_quiet (reg.Flags b n) v t = bank_quiet b n v (leb→le 16 n t)
  word_quiet (reg.Priority n) v t = put_priority (stay h) (bytes_written c n v m.priority h.priority)
  word_quiet (reg.System r) v t = system_quiet r v t
  word_quiet (reg.Guard r) v t =
      let o = both (not (is_armv6m c)) (belongs c.guard r) t in
      put_guard_lem (stay h) (write_mpu_sound c.guard r v m.core.guard o.1 h.core.guard) (λ y. absurd (T_not (is_armv6m c) o.0 y))
  word_quiet (reg.Constant x) v t = stay h

  byte_quiet : (r : Register) (lane v : ℕ) → Quiet c m (byte_written c r lane v m)
  unfolding byte_written
  byte_quiet (reg.Priority n) lane v = put_priority (stay h) (byte_written_lem c (n + lane) v m.priority h.priority)
  byte_quiet reg.Missing lane v = stay h
  byte_quiet (reg.Timer r) lane v = stay h
  byte_quiet (reg.Flags b n) lane v = stay h
  byte_quiet (reg.System r) lane v = stay h
  byte_quiet (reg.Guard r) lane v = stay h
  byte_quiet (reg.Constant x) lane v = stay h

  pub written_quiet : (w a v : ℕ) → Quiet c m (written c w a v m)
  unfolding written
  written_quiet w a v =
      by_cases (Quiet c m) (eqb w 4) (λ _. word_quiet (register_of c a) v (own_at c a)) (λ _. byte_quiet (register_of c a) (a % 4) v)

  pub read_quiet : (r : Register) → Quiet c m (after_read r m)
  unfolding after_read
  read_quiet reg.Missing = stay h
  read_quiet (reg.Timer r) = put_timer_lem (stay h) (timer_read_sound r m.core.timer h.core.timer)
  read_quiet (reg.Flags b n) = stay h
  read_quiet (reg.Priority n) = stay h
  read_quiet (reg.System r) = stay h
  read_quiet (reg.Guard r) = stay h
  read_quiet (reg.Constant x) = stay h

  pub read_call_quiet : (w a : ℕ) → Quiet c m (read_call c m w a).next
  unfolding read_call
  read_call_quiet w a =
      by_cases (λ (x : Answer). Quiet c m x.next) (eqb (access_refusal c (register_of c a) (privileged m.core) w a) 0) (λ _. read_quiet (register_of c a)) (λ _. stay h)

  pub write_call_quiet : (w a v : ℕ) → Quiet c m (write_call c m w a v).next
  unfolding write_call
  write_call_quiet w a v =
      by_cases (λ (x : Answer). Quiet c m x.next) (eqb (access_refusal c (register_of c a) (privileged m.core || free_write m.core w a) w a) 0) (λ _. written_quiet w a v) (λ _. stay h)
