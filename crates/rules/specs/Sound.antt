-- Document 01, "The chip": "A state is sound if each field holds only the bits kept here, flags stand only at the 63, and the nested
-- exceptions are distinct and exactly the active ones." As a test that computes (refusal 16), and as a record of facts.
use Rattle.std.specs.Prelude.{ℕ, ◌≤◌, ◌<◌, ◌≡◌, Bool, true, false, not, ◌&&◌, ◌||◌, length, get_or, T, ltb, leb, eqb}
use mathlib.Core.List.{List, [], ◌∷◌, Memᴰ}
use Rattle.bools.specs.Tests.{implies}
use Rattle.bools.specs.Every.{every}
use Rattle.flag_words.specs.Flags.{on}
use Rattle.priority.specs.Order.{Distinct}
use Rattle.grouping.specs.Grouping.{kept_byte}
use Rattle.systick.specs.Timer.{sound_timer, SoundTimer}
use Rattle.mpu.specs.declared.Mpu.{Mpu}
use Rattle.mpu.specs.Soundness.{sound_mpu, SoundMpu}
use Rattle.mpu.specs.Unused.{is_unused}
use Rattle.rules.specs.declared.Chip.{Chip}
use Rattle.rules.specs.declared.Place.{Place}
use Rattle.rules.specs.declared.Place.TheVariants.{Exception, Enable, Line}
use Rattle.rules.specs.declared.Masks.{Masks}
use Rattle.rules.specs.declared.System.{System}
use Rattle.rules.specs.declared.Core.{Core}
use Rattle.rules.specs.SystemBlock.{kept_vtable, kept_sysctrl, kept_cfgctrl, kept_faultstat, kept_hfaultstat}
use Rattle.rules.specs.Chip.{is_armv6m, flag_count, exception_count, is_in, has_byte, stands}
use Rattle.rules.specs.Model.{Model, down, stack}

-- ---- the test

-- flag n stands only where it may
unfoldable pub flag_sound : Chip → Place → List Bool → ℕ → Bool
flag_sound c place flags n = implies (on flags n) (stands c place n)

-- byte n has none but the kept bits (document 02, E7: "Soundness of a state follows w"; so does BASEPRI below), and is 0 where no exception has a byte
unfoldable pub byte_sound : Chip → List ℕ → ℕ → Bool
byte_sound c bytes n =
    eqb (kept_byte c.bits (get_or bytes n 0)) (get_or bytes n 0) && (has_byte c n || eqb (get_or bytes n 0) 0)

-- Document 02, E1: a count is "holding at 65,535"; where there is no line the list has no place
unfoldable pub count_sound : List ℕ → ℕ → Bool
count_sound lost line = leb (get_or lost line 0) 65535

-- an active exception is nested
unfoldable pub nested_sound : List Bool → List ℕ → ℕ → Bool
nested_sound active nested n = implies (on active n) (is_in n nested)

abbrev pub all_on : List Bool → List ℕ → Bool
all_on l [] = true
all_on l (x ∷ xs) = on l x && all_on l xs

abbrev pub all_distinct : List ℕ → Bool
all_distinct [] = true
all_distinct (x ∷ xs) = not (is_in x xs) && all_distinct xs

-- a place of the nest that is not in use holds 0
unfoldable pub unused_sound : List ℕ → ℕ → ℕ → Bool
unused_sound nest depth i = ltb i depth || eqb (get_or nest i 0) 0

unfoldable pub sound_nest : Chip → List Bool → List ℕ → ℕ → Bool
sound_nest c active nest depth =
    leb depth (exception_count c)
    && every (unused_sound nest depth) (exception_count c)
    && every (nested_sound active (down nest depth)) (flag_count c)
    && all_on active (down nest depth)
    && all_distinct (down nest depth)

unfoldable pub sound_flags : Chip → List Bool → List Bool → List Bool → List Bool → Bool
sound_flags c pending active enabled level =
    every (flag_sound c Exception pending) (flag_count c)
    && every (flag_sound c Exception active) (flag_count c)
    && every (flag_sound c Enable enabled) (flag_count c)
    && every (flag_sound c Line level) (flag_count c)

unfoldable pub sound_system : Chip → System → Bool
sound_system c s =
    eqb (kept_vtable c s.vtable) s.vtable
    && eqb (kept_sysctrl s.sysctrl) s.sysctrl
    && eqb (kept_cfgctrl s.cfgctrl) s.cfgctrl
    && eqb (kept_faultstat s.faultstat) s.faultstat
    && eqb (kept_hfaultstat s.hfaultstat) s.hfaultstat

-- Document 02, E10: what ARMv6-M lacks is 0. "no BASEPRI or FAULTMASK, .. always privileged"
unfoldable pub bare_masks : Masks → Bool
bare_masks k = not k.faultmask && eqb k.basepri 0 && not k.npriv

-- "vectors start at 0", "ED14 (always 0x208)", "no fault status or address kept"
unfoldable pub bare_system : System → Bool
bare_system s =
    eqb s.vtable 0
    && eqb s.cfgctrl 0x208
    && eqb s.faultstat 0
    && eqb s.hfaultstat 0
    && eqb s.mmaddr 0
    && eqb s.faultaddr 0

-- "no grouping", "no MPU"
unfoldable pub is_bare : Core → Bool
is_bare k = eqb k.group 0 && bare_masks k.masks && is_unused k.guard && bare_system k.system

-- every list has its length, as the arrays of a state by value always have
unfoldable pub is_sized : Chip → Model → Bool
is_sized c m =
    eqb (length m.pending) (flag_count c)
    && eqb (length m.active) (flag_count c)
    && eqb (length m.enabled) (flag_count c)
    && eqb (length m.level) (flag_count c)
    && eqb (length m.priority) (flag_count c)
    && eqb (length m.nest) (exception_count c)
    && eqb (length m.lost) c.lines

unfoldable pub is_sound : Chip → Model → Bool
is_sound c m =
    is_sized c m
    && sound_flags c m.pending m.active m.enabled m.level
    && every (byte_sound c m.priority) (flag_count c)
    && sound_nest c m.active m.nest m.core.depth
    && every (count_sound m.lost) c.lines
    && ltb m.core.group 8
    && eqb (kept_byte c.bits m.core.masks.basepri) m.core.masks.basepri
    && sound_timer m.core.timer
    && sound_mpu c.guard m.core.guard
    && sound_system c m.core.system
    && implies (is_armv6m c) (is_bare m.core)

-- ---- the facts, part by part: each names only the fields that it is about

-- flags stand only where they may
pub record Flags (c : Chip) (place : Place) (l : List Bool) : Type 0 where
  pub size : length l ≡ flag_count c
  pub only : (n : ℕ) → T (on l n) → T (stands c place n)

-- priority bytes: the kept bits, and 0 where there is no byte
pub record PriorityBytes (c : Chip) (l : List ℕ) : Type 0 where
  pub size : length l ≡ flag_count c
  pub each : (n : ℕ) → kept_byte c.bits (get_or l n 0) ≡ get_or l n 0
  pub none : (n : ℕ) → (T (has_byte c n) → ⊥) → get_or l n 0 ≡ 0

-- the nested exceptions are distinct, and exactly the active ones
pub record Nested (active : List Bool) (nested : List ℕ) : Type 0 where
  pub distinct : Distinct nested
  pub shown : (n : ℕ) → Memᴰ n nested → T (on active n)
  pub stacked : (n : ℕ) → T (on active n) → Memᴰ n nested

-- the nest's places: as many as there are exceptions, 0 where not in use
pub record Places (c : Chip) (nest : List ℕ) (depth : ℕ) : Type 0 where
  pub size : length nest ≡ exception_count c
  pub unused : (i : ℕ) → depth ≤ i → get_or nest i 0 ≡ 0

-- a count for each line, held at 65,535
pub record Counts (c : Chip) (l : List ℕ) : Type 0 where
  pub size : length l ≡ c.lines
  pub most : (line : ℕ) → get_or l line 0 ≤ 65535

pub record SoundSystem (c : Chip) (s : System) : Type 0 where
  pub vtable : kept_vtable c s.vtable ≡ s.vtable
  pub sysctrl : kept_sysctrl s.sysctrl ≡ s.sysctrl
  pub cfgctrl : kept_cfgctrl s.cfgctrl ≡ s.cfgctrl
  pub faultstat : kept_faultstat s.faultstat ≡ s.faultstat
  pub hfaultstat : kept_hfaultstat s.hfaultstat ≡ s.hfaultstat

-- what ARMv6-M lacks
pub record BareMasks (k : Masks) : Type 0 where
  pub faultmask : k.faultmask ≡ false
  pub basepri : k.basepri ≡ 0
  pub npriv : k.npriv ≡ false

pub record BareSystem (s : System) : Type 0 where
  pub vtable : s.vtable ≡ 0
  pub cfgctrl : s.cfgctrl ≡ 0x208
  pub faultstat : s.faultstat ≡ 0
  pub hfaultstat : s.hfaultstat ≡ 0
  pub mmaddr : s.mmaddr ≡ 0
  pub faultaddr : s.faultaddr ≡ 0

pub record Bare (p : ℕ) (k : Masks) (g : Mpu) (s : System) : Type 0 where
  pub group : p ≡ 0
  pub masks : BareMasks k
  pub guard : T (is_unused g)
  pub system : BareSystem s

-- what holds no list; the nest's depth is a matter of its places
pub record SoundCore (c : Chip) (k : Core) : Type 0 where
  pub group : k.group < 8
  pub basepri : kept_byte c.bits k.masks.basepri ≡ k.masks.basepri
  pub timer : SoundTimer k.timer
  pub guard : SoundMpu c.guard k.guard
  pub system : SoundSystem c k.system
  pub bare : T (is_armv6m c) → Bare k.group k.masks k.guard k.system

pub record Sound (c : Chip) (m : Model) : Type 0 where
  pub pending : Flags c Exception m.pending
  pub active : Flags c Exception m.active
  pub enabled : Flags c Enable m.enabled
  pub level : Flags c Line m.level
  pub priority : PriorityBytes c m.priority
  pub places : Places c m.nest m.core.depth
  pub nested : Nested m.active (stack m)
  pub lost : Counts c m.lost
  pub core : SoundCore c m.core
