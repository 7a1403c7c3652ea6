-- Reads and writes on two models that are alike: at an address that the proviso leaves both chips have the same register, and every store is
-- within the shorter lists.
use Prim.Native.Nat.{ℕ, ◌+◌, ◌-◌, ◌*◌, ◌%◌, ◌≤◌, ◌<◌}
use mathlib.Core.Path.{◌≡◌, refl, ap, subst, ◌∙◌}
use mathlib.Core.Logic.{◌≢◌}
use mathlib.Core.List.{List, [], ◌∷◌}
use mathlib.Core.Bool.{Bool, true, false, not, cond, ◌&&◌, ◌||◌}
use native.Mathlib.Omega.{arith}
use lib.ListN.{set}
use lib.Dec.{T, ltb, leb, eqb, ltb→lt, leb→le, le→leb, nleb→lt, eqb→eq, T_not, not_T}
use borrow.Author.Tests.{lt-ltb, le-ltb, ltb-true, ltb-false, leb-true}
use Rattle.bools.specs.Tests.{same, both, join, of_if, by_cases}
use Rattle.bits.specs.Words.{field}
use Rattle.grouping.specs.Grouping.{kept_byte}
use Rattle.flag_words.specs.Flags.{clear_flags}
use Rattle.mpu.specs.declared.MpuRegister.{MpuRegister}
use Rattle.mpu.specs.declared.MpuRegister.TheVariants as mpu
use Rattle.mpu.specs.Registers.{read_mpu, write_mpu}
use Rattle.mpu.specs.Editions.{guard_register_at}
use Rattle.rules.specs.declared.Chip.{Chip}
use Rattle.rules.specs.declared.Core.{Core}
use Rattle.rules.specs.declared.System.{System}
use Rattle.rules.specs.declared.Bank.{Bank}
use Rattle.rules.specs.declared.Bank.TheVariants.{EnableSet, EnableClear, PendingSet, PendingClear, Active}
use Rattle.rules.specs.declared.SystemRegister.{SystemRegister}
use Rattle.rules.specs.declared.SystemRegister.TheVariants.{Ictype, Cpuid, Intctrl, Vtable, Apint, Sysctrl, Cfgctrl, Syshndctrl, Faultstat, Hfaultstat, Mmaddr, Faultaddr, Swtrig}
use Rattle.rules.specs.declared.Register.{Register}
use Rattle.rules.specs.declared.Register.TheVariants as reg
use Rattle.rules.specs.Chip.{flag_count, has_byte}
use Rattle.rules.specs.Model.{Model, stack, top, with_system, put_group, put_timer, put_guard, put_system}
use Rattle.rules.specs.Priorities.{privileged}
use Rattle.rules.specs.Sound.{Sound}
use Rattle.rules.specs.Blocks.{in_block, flag_words, byte_words, first_flag}
use Rattle.rules.specs.Map.{guard_register, block_register, register_at, register_of, width_refusal}
use Rattle.rules.specs.Reads.{timer_value, timer_read, bank_value, bytes_value, shows_base, intctrl_value, syshndctrl_value, system_value, value_of, after_read}
use Rattle.rules.specs.Writes.{timer_written, clearable, bank_written, with_byte, with_bytes, set_or_clear, intctrl_written, syshndctrl_written, apint_written, swtrig_written, stored_written, system_written, word_written, byte_written}
use Rattle.rules.specs.Registers.{is_width, access_refusal, lane_of, read_call, free_write, written, write_call}
use Rattle.old_scripts.specs.Alike.{Same, Alike}
use Rattle.old_scripts.specs.OldScripts.{Block, only, holds, none_holds, flags_past, bytes_past, parted, mixed_word, avoids, is_own, names_own, Grown}
use Rattle.old_scripts.proofs.Lists.{both_ways, Held, held_set, held_put, same_word, same_any}
use Rattle.old_scripts.proofs.Calls.{put_pending, put_enabled, put_priority, put_core, Meets, meets_refuse, meets_done, more, pendings, stack_same}

-- ---- the proviso as facts of order

-- an address up to the last of a block that does not hold it is before the first
abbrev Before : Block → ℕ → Type 0
Before b a = a ≤ b.last → a < b.first

before : (b : Block) (a : ℕ) → T (not (holds b a)) → Before b a
before b a t u =
    nleb→lt b.first a (not_T (leb b.first a) (λ l. T_not (holds b a) t (join (leb b.first a) (leb a b.last) l (le→leb a b.last u))))

abbrev AllBefore : List Block → ℕ → Type 0
AllBefore [] a = Unit {0}
AllBefore (b ∷ bs) a = Before b a × AllBefore bs a

all_before : (bs : List Block) (a : ℕ) → T (none_holds bs a) → AllBefore bs a
all_before [] a t = tt
all_before (b ∷ bs) a t = let p = both (not (holds b a)) (none_holds bs a) t in (before b a p.0, all_before bs a p.1)

record Apart (c d : Chip) (w a : ℕ) : Type 0 where
  ictype : Before (only 0xE000E004) a
  enable_set : Before (flags_past c d 0xE000E100) a
  enable_clear : Before (flags_past c d 0xE000E180) a
  pending_set : Before (flags_past c d 0xE000E200) a
  pending_clear : Before (flags_past c d 0xE000E280) a
  active : Before (flags_past c d 0xE000E300) a
  bytes : Before (bytes_past c d) a
  vtable : Before (only 0xE000ED08) a
  mixed : w ≡ 4 → a ≢ mixed_word c

apart : (c d : Chip) (w a : ℕ) → T (avoids c d w a) → Apart c d w a
unfolding avoids
apart c d w a t =
    let b = both (none_holds (parted c d) a) (not (eqb w 4 && eqb a (mixed_word c))) t in
    let p = all_before (parted c d) a b.0 in
    record {
      ictype = p.0;
      enable_set = p.1.0;
      enable_clear = p.1.1.0;
      pending_set = p.1.1.1.0;
      pending_clear = p.1.1.1.1.0;
      active = p.1.1.1.1.1.0;
      bytes = p.1.1.1.1.1.1.0;
      vtable = p.1.1.1.1.1.1.1.0;
      mixed = λ e f. T_not (eqb w 4 && eqb a (mixed_word c)) b.1 (join (eqb w 4) (eqb a (mixed_word c)) (same w 4 e) (same a (mixed_word c) f));
    }

names_own_lem : (c : Chip) (a v : ℕ) → T (names_own c a v) → a ≡ 0xE000EF00 → field 8 0 v < c.lines
unfolding names_own
names_own_lem c a v t e = ltb→lt (field 8 0 v) c.lines (of_if (eqb a 0xE000EF00) (is_own c (field 8 0 v)) t (same a 0xE000EF00 e))

-- ---- the register at an address

-- the word that holds an address
abbrev aligned : ℕ → ℕ
aligned a = a - a % 4

-- a block of p words and one of q hold the same, where what the longer one holds the shorter one does
in_same : (base p q a : ℕ) → p ≤ q → (base ≤ a → a < base + 4 * q → a < base + 4 * p) → in_block base p a ≡ in_block base q a
in_same base p q a l back = go (leb base a) refl (ltb a (base + 4 * q)) refl
  where
    go : (x : Bool) → leb base a ≡ x → (y : Bool) → ltb a (base + 4 * q) ≡ y → in_block base p a ≡ in_block base q a
    go false e y f = rw e
    go true e true f = let h = back (leb-true base a e) (ltb-true a (base + 4 * q) f) in rw (f, lt-ltb a (base + 4 * p) h)
    go true e false f = let h = ltb-false a (base + 4 * q) f in rw (f, le-ltb a (base + 4 * p) (omega arith))

in_bounds : (base words a : ℕ) → T (in_block base words a) → (base ≤ a) × (a < base + 4 * words)
in_bounds base words a t =
    let b = both (leb base a) (ltb a (base + 4 * words)) t in
    (leb→le base a b.0, ltb→lt a (base + 4 * words) b.1)

module _ {c d : Chip} (g : Grown c d) where
  flags_in : (base a : ℕ) → base % 4 ≡ 0 → Before (flags_past c d base) a → in_block base (flag_words c) (aligned a) ≡ in_block base (flag_words d) (aligned a)
  flags_in base a e out =
      let k = g.lines in
      in_same base (flag_words c) (flag_words d) (aligned a) (omega arith) (λ l u. let h = out (omega arith) in omega arith)

  -- every flag of such a word is one of c
  flags_fit : (base a : ℕ) → base % 4 ≡ 0 → Before (flags_past c d base) a → T (in_block base (flag_words c) (aligned a)) → first_flag base (aligned a) + 32 ≤ flag_count c
  flags_fit base a e out t =
      let k = g.lines in
      let b = in_bounds base (flag_words c) (aligned a) t in
      let l = b.0 in
      let u = b.1 in
      let h = out (omega arith) in
      omega arith

  module _ {w a : ℕ} (o : Apart c d w a) where
    bytes_in : in_block 0xE000E400 (byte_words c) (aligned a) ≡ in_block 0xE000E400 (byte_words d) (aligned a)
    bytes_in =
        let k = g.lines in
        in_same 0xE000E400 (byte_words c) (byte_words d) (aligned a) (omega arith) (λ l u. let h = o.bytes (omega arith) in omega arith)

    block_same : block_register c (aligned a) ≡ block_register d (aligned a)
    unfolding block_register
    block_same =
        rw (flags_in 0xE000E100 a refl o.enable_set, flags_in 0xE000E180 a refl o.enable_clear, flags_in 0xE000E200 a refl o.pending_set, flags_in 0xE000E280 a refl o.pending_clear, flags_in 0xE000E300 a refl o.active, bytes_in, g.guard)

    register_same : register_of c a ≡ register_of d a
    unfolding register_at
    register_same = rw (g.profiles.0, g.profiles.1, block_same)

-- ---- where a register stands: a word of flags within those of c, a byte too, and a word of bytes but for the mixed one

abbrev SystemAt : SystemRegister → ℕ → Type 0
SystemAt Ictype a = a ≡ 0xE000E004
SystemAt Vtable a = a ≡ 0xE000ED08
SystemAt Swtrig a = a ≡ 0xE000EF00
SystemAt Cpuid a = Unit {0}
SystemAt Intctrl a = Unit {0}
SystemAt Apint a = Unit {0}
SystemAt Sysctrl a = Unit {0}
SystemAt Cfgctrl a = Unit {0}
SystemAt Syshndctrl a = Unit {0}
SystemAt Faultstat a = Unit {0}
SystemAt Hfaultstat a = Unit {0}
SystemAt Mmaddr a = Unit {0}
SystemAt Faultaddr a = Unit {0}

unfoldable Placed : Chip → ℕ → ℕ → Register → Type 0
Placed c w a reg.Missing = Unit {0}
Placed c w a (reg.Timer r) = Unit {0}
Placed c w a (reg.Flags b n) = n + 32 ≤ flag_count c
Placed c w a (reg.Priority n) = (n + a % 4 < flag_count c) × (w ≡ 4 → a % 4 ≡ 0 → n + 4 ≤ flag_count c)
Placed c w a (reg.System r) = SystemAt r (aligned a)
Placed c w a (reg.Guard r) = Unit {0}
Placed c w a (reg.Constant x) = Unit {0}

module _ {c d : Chip} (g : Grown c d) {w a : ℕ} (o : Apart c d w a) where
  guard_placed : (r : MpuRegister) → Placed c w a (guard_register r)
  unfolding Placed
  guard_placed mpu.Missing = tt
  guard_placed mpu.Kind = tt
  guard_placed mpu.Control = tt
  guard_placed mpu.Number = tt
  guard_placed mpu.Base = tt
  guard_placed mpu.Attributes = tt
  guard_placed (mpu.Rbar pair) = tt
  guard_placed (mpu.Rlar pair) = tt
  guard_placed mpu.Mair0 = tt
  guard_placed mpu.Mair1 = tt

  byte_placed : T (in_block 0xE000E400 (byte_words c) (aligned a)) → Placed c w a (reg.Priority (16 + (aligned a - 0xE000E400)))
  unfolding Placed
  byte_placed t =
      let k = g.lines in
      let b = in_bounds 0xE000E400 (byte_words c) (aligned a) t in
      let l = b.0 in
      let u = b.1 in
      let h = o.bytes (omega arith) in
      (omega arith, λ e f. let n = o.mixed e in omega arith)

  low_placed : (n : ℕ) → n ≤ 12 → Placed c w a (reg.Priority n)
  unfolding Placed
  low_placed n l = (omega arith, λ _ _. omega arith)

  block_placed : Placed c w a (block_register c (aligned a))
  unfolding Placed block_register
  block_placed =
      by_cases (Placed c w a) (in_block 0xE000E100 (flag_words c) (aligned a)) (flags_fit g 0xE000E100 a refl o.enable_set)
      (λ _. by_cases (Placed c w a) (in_block 0xE000E180 (flag_words c) (aligned a)) (flags_fit g 0xE000E180 a refl o.enable_clear)
      (λ _. by_cases (Placed c w a) (in_block 0xE000E200 (flag_words c) (aligned a)) (flags_fit g 0xE000E200 a refl o.pending_set)
      (λ _. by_cases (Placed c w a) (in_block 0xE000E280 (flag_words c) (aligned a)) (flags_fit g 0xE000E280 a refl o.pending_clear)
      (λ _. by_cases (Placed c w a) (in_block 0xE000E300 (flag_words c) (aligned a)) (flags_fit g 0xE000E300 a refl o.active)
      (λ _. by_cases (Placed c w a) (in_block 0xE000E400 (byte_words c) (aligned a)) byte_placed
      (λ _. by_cases (Placed c w a) (in_block 0xE000ED90 14 (aligned a)) (λ _. guard_placed (guard_register_at c.guard (aligned a - 0xE000ED90))) (λ _. tt)))))))

  register_placed : Placed c w a (register_of c a)
  unfolding Placed register_at
  register_placed =
      rw g.profiles.0
      (by_cases (Placed c w a) (eqb (aligned a) 0xE000E004) (eqb→eq (aligned a) 0xE000E004)
      (λ _. by_cases (Placed c w a) (eqb (aligned a) 0xE000E010) (λ _. tt)
      (λ _. by_cases (Placed c w a) (eqb (aligned a) 0xE000E014) (λ _. tt)
      (λ _. by_cases (Placed c w a) (eqb (aligned a) 0xE000E018) (λ _. tt)
      (λ _. by_cases (Placed c w a) (eqb (aligned a) 0xE000ED00) (λ _. tt)
      (λ _. by_cases (Placed c w a) (eqb (aligned a) 0xE000ED04) (λ _. tt)
      (λ _. by_cases (Placed c w a) (eqb (aligned a) 0xE000ED08) (eqb→eq (aligned a) 0xE000ED08)
      (λ _. by_cases (Placed c w a) (eqb (aligned a) 0xE000ED0C) (λ _. tt)
      (λ _. by_cases (Placed c w a) (eqb (aligned a) 0xE000ED10) (λ _. tt)
      (λ _. by_cases (Placed c w a) (eqb (aligned a) 0xE000ED14) (λ _. tt)
      (λ _. by_cases (Placed c w a) (eqb (aligned a) 0xE000ED18) (λ _. low_placed 4 (omega arith))
      (λ _. by_cases (Placed c w a) (eqb (aligned a) 0xE000ED1C) (λ _. low_placed 8 (omega arith))
      (λ _. by_cases (Placed c w a) (eqb (aligned a) 0xE000ED20) (λ _. low_placed 12 (omega arith))
      (λ _. by_cases (Placed c w a) (eqb (aligned a) 0xE000ED24) (λ _. tt)
      (λ _. by_cases (Placed c w a) (eqb (aligned a) 0xE000ED28) (λ _. tt)
      (λ _. by_cases (Placed c w a) (eqb (aligned a) 0xE000ED2C) (λ _. tt)
      (λ _. by_cases (Placed c w a) (eqb (aligned a) 0xE000ED34) (λ _. tt)
      (λ _. by_cases (Placed c w a) (eqb (aligned a) 0xE000ED38) (λ _. tt)
      (λ _. by_cases (Placed c w a) (eqb (aligned a) 0xE000EF00) (eqb→eq (aligned a) 0xE000EF00) (λ _. block_placed))))))))))))))))))))

-- ---- what an accepted access passes

accepted : (c : Chip) (r : Register) (allowed : Bool) (w a : ℕ) → T (eqb (access_refusal c r allowed w a) 0) → (a % w ≡ 0) × T (eqb (width_refusal c r w) 0)
unfolding access_refusal
accepted c r allowed w a t = let p = go (is_width w) (eqb (a % w) 0) allowed t in (eqb→eq (a % w) 0 p.0, p.1)
  where
    go : (x y z : Bool) → T (eqb (cond (not x) 1 (cond (not y) 2 (cond (not z) 3 (width_refusal c r w)))) 0) → T y × T (eqb (width_refusal c r w) 0)
    go true true true u = (tt, u)
    go true true false u = absurd u
    go true false z u = absurd u
    go false y z u = absurd u

word_only : (c : Chip) (r : SystemRegister) (w : ℕ) → T (eqb (width_refusal c (reg.System r) w) 0) → w ≡ 4
unfolding width_refusal
word_only c r w t = eqb→eq w 4 (go (eqb w 4) t)
  where
    go : (x : Bool) → T (eqb (cond x 0 5) 0) → T x
    go true u = tt
    go false u = absurd u

-- ---- what is read

module _ {c d : Chip} (g : Grown c d) {m t : Model} (h : Sound c m) (k : Sound d t) (a : Alike m t) where
  bank_same : (b : Bank) (n : ℕ) → bank_value b n m ≡ bank_value b n t
  unfolding bank_value
  bank_same EnableSet n = same_word m.enabled t.enabled n 32 a.enabled
  bank_same EnableClear n = same_word m.enabled t.enabled n 32 a.enabled
  bank_same PendingSet n = same_word m.pending t.pending n 32 a.pending
  bank_same PendingClear n = same_word m.pending t.pending n 32 a.pending
  bank_same Active n = same_word m.active t.active n 32 a.active

  bytes_same : (n : ℕ) → bytes_value m.priority n ≡ bytes_value t.priority n
  unfolding bytes_value
  bytes_same n = let s = a.priority in rw (s.each n, s.each (n + 1), s.each (n + 2), s.each (n + 3))

  intctrl_same : intctrl_value m.pending (shows_base c m.core.depth) (top (stack m)) ≡ intctrl_value t.pending (shows_base d t.core.depth) (top (stack t))
  unfolding intctrl_value shows_base
  intctrl_same =
      let s = a.pending in
      rw (stack_same g h k a, s.each 2, s.each 14, s.each 15, same_any m.pending t.pending 16 (omega arith) (more g) (pendings g h k a), g.profiles.0, g.profiles.1, a.core)

  syshndctrl_same : syshndctrl_value m.pending m.active m.enabled ≡ syshndctrl_value t.pending t.active t.enabled
  unfolding syshndctrl_value
  syshndctrl_same =
      let p = a.pending in
      let q = a.active in
      let r = a.enabled in
      rw (p.each 4, p.each 5, p.each 6, p.each 11, q.each 4, q.each 5, q.each 6, q.each 11, q.each 14, q.each 15, r.each 4, r.each 5, r.each 6)

  system_same : (r : SystemRegister) → r ≢ Ictype → system_value c r m ≡ system_value d r t
  unfolding system_value
  system_same Ictype other = absurd (other refl)
  system_same Cpuid other = refl
  system_same Intctrl other = intctrl_same
  system_same Vtable other = ap (λ (x : Core). x.system.vtable) a.core
  system_same Apint other = rw a.core
  system_same Sysctrl other = ap (λ (x : Core). x.system.sysctrl) a.core
  system_same Cfgctrl other = ap (λ (x : Core). x.system.cfgctrl) a.core
  system_same Syshndctrl other = syshndctrl_same
  system_same Faultstat other = ap (λ (x : Core). x.system.faultstat) a.core
  system_same Hfaultstat other = ap (λ (x : Core). x.system.hfaultstat) a.core
  system_same Mmaddr other = ap (λ (x : Core). x.system.mmaddr) a.core
  system_same Faultaddr other = ap (λ (x : Core). x.system.faultaddr) a.core
  system_same Swtrig other = refl

  value_same : (r : Register) → r ≢ reg.System Ictype → value_of c r m ≡ value_of d r t
  unfolding value_of
  value_same reg.Missing other = refl
  value_same (reg.Timer r) other = ap (λ (x : Core). timer_value r x.timer) a.core
  value_same (reg.Flags b n) other = bank_same b n
  value_same (reg.Priority n) other = bytes_same n
  value_same (reg.System r) other = system_same r (λ e. other (ap reg.System e))
  value_same (reg.Guard r) other = ap (λ (x : Core). read_mpu r x.guard) a.core
  value_same (reg.Constant x) other = refl

  after_alike : (r : Register) → Alike (after_read r m) (after_read r t)
  unfolding after_read
  after_alike reg.Missing = a
  after_alike (reg.Timer r) = put_core a (λ x. put_timer (timer_read r x.timer) x)
  after_alike (reg.Flags b n) = a
  after_alike (reg.Priority n) = a
  after_alike (reg.System r) = a
  after_alike (reg.Guard r) = a
  after_alike (reg.Constant x) = a

  -- ---- what is written

  enables : Held false (flag_count c) (flag_count d) m.enabled t.enabled
  enables = record { short = h.enabled.size; long = k.enabled.size; same = a.enabled }

  bytes : Held 0 (flag_count c) (flag_count d) m.priority t.priority
  bytes = record { short = h.priority.size; long = k.priority.size; same = a.priority }

  clearable_same : (n v : ℕ) → clearable m.level m.active n v ≡ clearable t.level t.active n v
  unfolding clearable
  clearable_same n v = rw (same_word m.level t.level n 32 a.level, same_word m.active t.active n 32 a.active)

  bank_alike : (b : Bank) (n v : ℕ) → n + 32 ≤ flag_count c → Alike (bank_written b n v m) (bank_written b n v t)
  unfolding bank_written
  bank_alike EnableSet n v f = put_enabled a (held_put (more g) true 32 n v f enables).same
  bank_alike EnableClear n v f = put_enabled a (held_put (more g) false 32 n v f enables).same
  bank_alike PendingSet n v f = put_pending a (held_put (more g) true 32 n v f (pendings g h k a)).same
  bank_alike PendingClear n v f =
      put_pending a
      (subst (λ (x : ℕ). Same false (clear_flags m.pending n (clearable m.level m.active n v)) (clear_flags t.pending n x)) (clearable_same n v)
      (held_put (more g) false 32 n (clearable m.level m.active n v) f (pendings g h k a)).same)
  bank_alike Active n v f = a

  has_byte_lem : (n : ℕ) → n < flag_count c → has_byte c n ≡ has_byte d n
  has_byte_lem n l = let e = g.lines in rw (g.profiles.0, g.profiles.1, lt-ltb n (16 + c.lines) l, lt-ltb n (16 + d.lines) (omega arith))

  byte_held : (n b : ℕ) (l r : List ℕ) → n < flag_count c → Held 0 (flag_count c) (flag_count d) l r → Held 0 (flag_count c) (flag_count d) (with_byte c n b l) (with_byte d n b r)
  unfolding with_byte
  byte_held n b l r f s =
      both_ways (Held 0 (flag_count c) (flag_count d)) (has_byte c n) (has_byte d n) (has_byte_lem n f)
      (λ _. subst (λ (w : ℕ). Held 0 (flag_count c) (flag_count d) (set l n (kept_byte c.bits b)) (set r n (kept_byte w b))) g.bits (held_set (more g) n (kept_byte c.bits b) f s))
      (λ _. s)

  bytes_held : (n v : ℕ) → n + 4 ≤ flag_count c → Held 0 (flag_count c) (flag_count d) (with_bytes c n v m.priority) (with_bytes d n v t.priority)
  unfolding with_bytes
  bytes_held n v f =
      byte_held (n + 3) _ _ _ (omega arith) (byte_held (n + 2) _ _ _ (omega arith) (byte_held (n + 1) _ _ _ (omega arith) (byte_held n _ _ _ (omega arith) bytes)))

  set_or_clear_lem : (n : ℕ) (sets clears : Bool) (l r : List Bool) → n < 16 → Held false (flag_count c) (flag_count d) l r → Held false (flag_count c) (flag_count d) (set_or_clear n sets clears l) (set_or_clear n sets clears r)
  unfolding set_or_clear
  set_or_clear_lem n sets true l r f s = held_set (more g) n false (omega arith) s
  set_or_clear_lem n true false l r f s = held_set (more g) n true (omega arith) s
  set_or_clear_lem n false false l r f s = s

  intctrl_held : (v : ℕ) → Held false (flag_count c) (flag_count d) (intctrl_written v m.pending) (intctrl_written v t.pending)
  unfolding intctrl_written
  intctrl_held v =
      set_or_clear_lem 15 _ _ _ _ (omega arith) (set_or_clear_lem 14 _ _ _ _ (omega arith) (set_or_clear_lem 2 _ _ _ _ (omega arith) (pendings g h k a)))

  syshndctrl_held : (v : ℕ) → Held false (flag_count c) (flag_count d) (syshndctrl_written v m.enabled) (syshndctrl_written v t.enabled)
  unfolding syshndctrl_written
  syshndctrl_held v =
      let u = more g in
      held_set u 6 _ (omega arith) (held_set u 5 _ (omega arith) (held_set u 4 _ (omega arith) enables))

  swtrig_held : (v : ℕ) → field 8 0 v < c.lines → Held false (flag_count c) (flag_count d) (swtrig_written c v m.pending) (swtrig_written d v t.pending)
  unfolding swtrig_written
  swtrig_held v f =
      let e = g.lines in
      both_ways (Held false (flag_count c) (flag_count d)) (ltb (field 8 0 v) c.lines) (ltb (field 8 0 v) d.lines) (rw (lt-ltb (field 8 0 v) c.lines f, lt-ltb (field 8 0 v) d.lines (omega arith)))
      (λ _. held_set (more g) (16 + field 8 0 v) true (omega arith) (pendings g h k a))
      (λ _. pendings g h k a)

  stored_alike : (f : System → System) → Alike (with_system (f m.core.system) m) (with_system (f t.core.system) t)
  stored_alike f = put_core a (λ x. put_system (f x.system) x)

  system_alike : (r : SystemRegister) (v : ℕ) → r ≢ Vtable → (r ≡ Swtrig → field 8 0 v < c.lines) → Alike (system_written c r v m) (system_written d r v t)
  unfolding system_written stored_written
  system_alike Intctrl v other own = put_pending a (intctrl_held v).same
  system_alike Apint v other own = put_core a (λ x. put_group (apint_written v x.group) x)
  system_alike Syshndctrl v other own = put_enabled a (syshndctrl_held v).same
  system_alike Swtrig v other own = put_pending a (swtrig_held v (own refl)).same
  system_alike Vtable v other own = absurd (other refl)
  system_alike Sysctrl v other own = stored_alike (stored_written c Sysctrl v)
  system_alike Cfgctrl v other own = stored_alike (stored_written c Cfgctrl v)
  system_alike Faultstat v other own = stored_alike (stored_written c Faultstat v)
  system_alike Hfaultstat v other own = stored_alike (stored_written c Hfaultstat v)
  system_alike Ictype v other own = a
  system_alike Cpuid v other own = a
  system_alike Mmaddr v other own = a
  system_alike Faultaddr v other own = a

  -- ---- the calls, at an address that the proviso leaves

  module _ (w x : ℕ) (ok : T (avoids c d w x)) where
    o : Apart c d w x
    o = apart c d w x ok

    word_alike : (v : ℕ) → T (names_own c x v) → w ≡ 4 → x % 4 ≡ 0 → (r : Register) → Placed c w x r → Alike (word_written c r v m) (word_written d r v t)
    unfolding word_written Placed
    word_alike v own e f reg.Missing p = a
    word_alike v own e f (reg.Timer r) p = put_core a (λ y. put_timer (timer_written r v y.timer) y)
    word_alike v own e f (reg.Flags b n) p = bank_alike b n v p
    word_alike v own e f (reg.Priority n) p = put_priority a (bytes_held n v (p.1 e f)).same
    word_alike v own e f (reg.System r) p = system_alike r v not_vtable named
      where
        at : (r' : SystemRegister) → r ≡ r' → SystemAt r' x
        at r' q = subst (λ s. SystemAt s x) q (subst (SystemAt r) (omega arith) p)

        not_vtable : r ≢ Vtable
        not_vtable q = let y = at Vtable q in let z = o.vtable (omega arith) in omega arith

        named : r ≡ Swtrig → field 8 0 v < c.lines
        named q = names_own_lem c x v own (at Swtrig q)
    word_alike v own e f (reg.Guard r) p = put_core a (λ y. put_guard (write_mpu r v y.guard) y)
    word_alike v own e f (reg.Constant y) p = a

    byte_alike : (v : ℕ) (r : Register) → Placed c w x r → Alike (byte_written c r (x % 4) v m) (byte_written d r (x % 4) v t)
    unfolding byte_written Placed
    byte_alike v (reg.Priority n) p = put_priority a (byte_held (n + x % 4) v _ _ p.0 bytes).same
    byte_alike v reg.Missing p = a
    byte_alike v (reg.Timer r) p = a
    byte_alike v (reg.Flags b n) p = a
    byte_alike v (reg.System r) p = a
    byte_alike v (reg.Guard r) p = a
    byte_alike v (reg.Constant y) p = a

    width_same : (r : Register) (allowed : Bool) → access_refusal c r allowed w x ≡ access_refusal d r allowed w x
    unfolding access_refusal width_refusal
    width_same reg.Missing allowed = refl
    width_same (reg.Timer r) allowed = refl
    width_same (reg.Flags b n) allowed = refl
    width_same (reg.Priority n) allowed = rw (g.profiles.0, g.profiles.1)
    width_same (reg.System r) allowed = refl
    width_same (reg.Guard r) allowed = refl
    width_same (reg.Constant y) allowed = refl

    refusal_same : (f : Core → Bool) → access_refusal c (register_of c x) (f m.core) w x ≡ access_refusal d (register_of d x) (f t.core) w x
    refusal_same f =
        width_same (register_of c x) (f m.core)
        ∙ ap (λ (r : Register). access_refusal d r (f m.core) w x) (register_same g o)
        ∙ ap (λ (y : Core). access_refusal d (register_of d x) (f y) w x) a.core

    -- an accepted access is a word at the address of its register
    not_ictype : (allowed : Bool) → T (eqb (access_refusal c (register_of c x) allowed w x) 0) → register_of c x ≢ reg.System Ictype
    unfolding Placed
    not_ictype allowed u e =
        let p = accepted c (reg.System Ictype) allowed w x (subst (λ r. T (eqb (access_refusal c r allowed w x) 0)) e u) in
        let z = subst (λ (i : ℕ). x % i ≡ 0) (word_only c Ictype w p.1) p.0 in
        let y : aligned x ≡ 0xE000E004 = subst (Placed c w x) e (register_placed g o) in
        let b = o.ictype (omega arith) in
        omega arith

    pub read_meets : Meets (read_call c m w x) (read_call d t w x)
    unfolding read_call
    read_meets =
        let e = refusal_same privileged in
        both_ways Meets (eqb (access_refusal c (register_of c x) (privileged m.core) w x) 0) (eqb (access_refusal d (register_of d x) (privileged t.core) w x) 0) (ap (λ (n : ℕ). eqb n 0) e)
        (λ f. meets_done
        (ap (lane_of w x) (value_same (register_of c x) (not_ictype (privileged m.core) f) ∙ ap (λ (r : Register). value_of d r t) (register_same g o)))
        (subst (λ (r : Register). Alike (after_read (register_of c x) m) (after_read r t)) (register_same g o) (after_alike (register_of c x))))
        (λ _. meets_refuse e a)

    written_alike : (v : ℕ) → T (names_own c x v) → x % w ≡ 0 → Alike (written c w x v m) (written d w x v t)
    unfolding written
    written_alike v own z =
        both_ways Alike (eqb w 4) (eqb w 4) refl
        (λ e. let n = eqb→eq w 4 e in
        subst (λ (r : Register). Alike (word_written c (register_of c x) v m) (word_written d r v t)) (register_same g o) (word_alike v own n (subst (λ (i : ℕ). x % i ≡ 0) n z) (register_of c x) (register_placed g o)))
        (λ _. subst (λ (r : Register). Alike (byte_written c (register_of c x) (x % 4) v m) (byte_written d r (x % 4) v t)) (register_same g o) (byte_alike v (register_of c x) (register_placed g o)))

    pub write_meets : (v : ℕ) → T (names_own c x v) → Meets (write_call c m w x v) (write_call d t w x v)
    unfolding write_call
    write_meets v own =
        let may : Core → Bool = λ y. privileged y || free_write y w x in
        let e = refusal_same may in
        both_ways Meets (eqb (access_refusal c (register_of c x) (may m.core) w x) 0) (eqb (access_refusal d (register_of d x) (may t.core) w x) 0) (ap (λ (n : ℕ). eqb n 0) e)
        (λ f. meets_done refl (written_alike v own (accepted c (register_of c x) (may m.core) w x f).0))
        (λ _. meets_refuse e a)
