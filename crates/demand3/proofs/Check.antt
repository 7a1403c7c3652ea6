-- The test of a model passes exactly on the sound ones, part by part. So on a sound model of a chip that fits a call acts.
use Prim.Native.Nat.{ℕ, ◌≤◌, ◌<◌}
use mathlib.Core.Path.{◌≡◌, refl, sym, subst}
use mathlib.Core.Logic.{◌⊎◌, inl, inr}
use mathlib.Core.List.Memᴰ
use mathlib.Core.List.{List, [], ◌∷◌, Memᴰ}
use mathlib.Core.Bool.{Bool, true, false, not, ◌||◌}
use native.Mathlib.Omega.{arith}
use lib.ListN.{length, get_or, get_or-eq_default}
use lib.Dec.{T, ltb, eqb, le→leb, leb→le, ltb→lt, lt→ltb, eqb→eq, T_not, not_T, nltb→le}
use Rattle.flag_words.specs.Flags.{on}
use Rattle.grouping.specs.Grouping.{kept_byte}
use Rattle.bools.specs.Tests.{is_true, true_is, false_is, fails, same, both, and_l, and_r, join, or_of, of_or, if_of, of_if}
use Rattle.bools.specs.Every.{every, every_of, of_every}
use Rattle.priority.specs.Order.{flag_below, Distinct}
use Rattle.systick.specs.Laws.{sound_timer_of, of_sound_timer}
use Rattle.mpu.specs.Soundness.{sound_mpu_of, of_sound_mpu}
use Rattle.script.specs.declared.Event.{Event}
use Rattle.rules.specs.declared.Chip.{Chip}
use Rattle.rules.specs.declared.Place.{Place}
use Rattle.rules.specs.declared.Place.TheVariants.{Exception, Enable, Line}
use Rattle.rules.specs.declared.Masks.{Masks}
use Rattle.rules.specs.declared.System.{System}
use Rattle.rules.specs.declared.Core.{Core}
use Rattle.rules.specs.Chip.{is_armv6m, fits, flag_count, exception_count, is_in, has_byte, stands}
use Rattle.rules.specs.Model.{Model, Answer, refuse, stack}
use Rattle.rules.specs.SystemBlock.{kept_vtable, kept_sysctrl, kept_cfgctrl, kept_faultstat, kept_hfaultstat}
use Rattle.rules.specs.Sound.{flag_sound, byte_sound, count_sound, nested_sound, all_on, all_distinct, unused_sound, sound_nest, sound_flags, sound_system, bare_masks, bare_system, is_bare, is_sized, is_sound, Flags, PriorityBytes, Nested, Places, Counts, SoundSystem, BareMasks, BareSystem, Bare, Sound}
use Rattle.rules.specs.Step.{act_of, guarded, admitted, step_of}
use Rattle.rules.proofs.Laws.{is_in_mem, mem_is_in, counts_held}
use Rattle.demand3.proofs.Parts.{kept_byte_zero, down_length, nested_fits}

-- ---- lists of numbers

all_on_of : (l : List Bool) (xs : List ℕ) → ((n : ℕ) → Memᴰ n xs → T (on l n)) → T (all_on l xs)
all_on_of l [] f = tt
all_on_of l (x ∷ xs) f = join (on l x) (all_on l xs) (f x (Memᴰ.head refl)) (all_on_of l xs (λ n m. f n (Memᴰ.tail m)))

of_all_on : (l : List Bool) (xs : List ℕ) → T (all_on l xs) → (n : ℕ) → Memᴰ n xs → T (on l n)
of_all_on l [] t n m = absurd (Memᴰ.not-nil m)
of_all_on l (x ∷ xs) t n m = go (both (on l x) (all_on l xs) t) (λ u k. of_all_on l xs u n k) (Memᴰ.cases_cons m)
  where
    go : T (on l x) × T (all_on l xs) → (T (all_on l xs) → Memᴰ n xs → T (on l n)) → (n ≡ x) ⊎ Memᴰ n xs → T (on l n)
    go u below (inl e) = rw e u.0
    go u below (inr k) = below u.1 k

distinct_of : (xs : List ℕ) → Distinct xs → T (all_distinct xs)
distinct_of [] d = tt
distinct_of (x ∷ xs) d = join (not (is_in x xs)) (all_distinct xs) (not_T (is_in x xs) (λ t. d.0 (is_in_mem x xs t))) (distinct_of xs d.1)

of_distinct : (xs : List ℕ) → T (all_distinct xs) → Distinct xs
of_distinct [] t = tt
of_distinct (x ∷ xs) t = let p = both (not (is_in x xs)) (all_distinct xs) t in (λ m. T_not (is_in x xs) p.0 (mem_is_in x xs m), of_distinct xs p.1)

-- a fact of each element of a list of known length, and of what is read past its end
at_each : (P : ℕ → ℕ → Type 0) (l : List ℕ) (k : ℕ) → length l ≡ k → ((n : ℕ) → P n 0) → ((n : ℕ) → n < k → P n (get_or l n 0)) → (n : ℕ) → P n (get_or l n 0)
at_each P l k size past f n = go (ltb n k) refl
  where
    go : (b : Bool) → ltb n k ≡ b → P n (get_or l n 0)
    go true e = f n (ltb→lt n k (is_true e))
    go false e =
        let h = nltb→le n k (fails e) in
        subst (P n) (sym (get_or-eq_default l 0 {n = n} (omega arith))) (past n)

-- ---- the parts

module _ (c : Chip) where
  flags_of : (place : Place) (l : List Bool) → Flags c place l → T (every (flag_sound c place l) (flag_count c))
  unfolding flag_sound
  flags_of place l f = every_of (flag_sound c place l) (flag_count c) (λ n _. if_of (on l n) (stands c place n) (f.only n))

  of_flags : (place : Place) (l : List Bool) → length l ≡ flag_count c → T (every (flag_sound c place l) (flag_count c)) → Flags c place l
  unfolding flag_sound
  of_flags place l size t =
      record { size = size; only = λ n b. of_if (on l n) (stands c place n) (of_every (flag_sound c place l) (flag_count c) n (rw size at (flag_below l n b)) t) b }

  bytes_of : (l : List ℕ) → PriorityBytes c l → T (every (byte_sound c l) (flag_count c))
  unfolding byte_sound
  bytes_of l h =
      every_of (byte_sound c l) (flag_count c)
      (λ n _. join (eqb (kept_byte c.bits (get_or l n 0)) (get_or l n 0)) (has_byte c n || eqb (get_or l n 0) 0)
      (same (kept_byte c.bits (get_or l n 0)) (get_or l n 0) (h.each n))
      (or_of (has_byte c n) (eqb (get_or l n 0) 0) (λ no. same (get_or l n 0) 0 (h.none n no))))

  of_bytes : (l : List ℕ) → length l ≡ flag_count c → T (every (byte_sound c l) (flag_count c)) → PriorityBytes c l
  unfolding byte_sound
  of_bytes l size t =
      record {
        size = size;
        each = at_each (λ n x. kept_byte c.bits x ≡ x) l (flag_count c) size (λ n. kept_byte_zero c.bits) (λ n k. eqb→eq (kept_byte c.bits (get_or l n 0)) (get_or l n 0) (parts n k).0);
        none = at_each (λ n x. (T (has_byte c n) → ⊥) → x ≡ 0) l (flag_count c) size (λ n _. refl) (λ n k no. eqb→eq (get_or l n 0) 0 (of_or (has_byte c n) (eqb (get_or l n 0) 0) (parts n k).1 no));
      }
    where
      parts : (n : ℕ) → n < flag_count c → T (eqb (kept_byte c.bits (get_or l n 0)) (get_or l n 0)) × T (has_byte c n || eqb (get_or l n 0) 0)
      parts n k = both (eqb (kept_byte c.bits (get_or l n 0)) (get_or l n 0)) (has_byte c n || eqb (get_or l n 0) 0) (of_every (byte_sound c l) (flag_count c) n k t)

  places_of : (nest : List ℕ) (depth : ℕ) → Places c nest depth → T (every (unused_sound nest depth) (exception_count c))
  unfolding unused_sound
  places_of nest depth h =
      every_of (unused_sound nest depth) (exception_count c)
      (λ i _. or_of (ltb i depth) (eqb (get_or nest i 0) 0) (λ no. same (get_or nest i 0) 0 (h.unused i (nltb→le i depth (not_T (ltb i depth) no)))))

  of_places : (nest : List ℕ) (depth : ℕ) → length nest ≡ exception_count c → T (every (unused_sound nest depth) (exception_count c)) → Places c nest depth
  unfolding unused_sound
  of_places nest depth size t =
      record {
        size = size;
        unused = at_each (λ i x. depth ≤ i → x ≡ 0) nest (exception_count c) size (λ i _. refl)
            (λ i k l. eqb→eq (get_or nest i 0) 0 (of_or (ltb i depth) (eqb (get_or nest i 0) 0) (of_every (unused_sound nest depth) (exception_count c) i k t) (λ u. let v = ltb→lt i depth u in omega arith)));
      }

  of_counts : (l : List ℕ) → length l ≡ c.lines → T (every (count_sound l) c.lines) → Counts c l
  unfolding count_sound
  of_counts l size t =
      record { size = size; most = at_each (λ n x. x ≤ 65535) l c.lines size (λ n. omega arith) (λ n k. leb→le (get_or l n 0) 65535 (of_every (count_sound l) c.lines n k t)) }

  stacked_of : (active : List Bool) (xs : List ℕ) → Nested active xs → T (every (nested_sound active xs) (flag_count c))
  unfolding nested_sound
  stacked_of active xs h = every_of (nested_sound active xs) (flag_count c) (λ n _. if_of (on active n) (is_in n xs) (λ t. mem_is_in n xs (h.stacked n t)))

  of_stacked : (active : List Bool) (xs : List ℕ) → length active ≡ flag_count c → T (every (nested_sound active xs) (flag_count c)) → (n : ℕ) → T (on active n) → Memᴰ n xs
  unfolding nested_sound
  of_stacked active xs size t n b =
      is_in_mem n xs (of_if (on active n) (is_in n xs) (of_every (nested_sound active xs) (flag_count c) n (rw size at (flag_below active n b)) t) b)

system_of : (c : Chip) (s : System) → SoundSystem c s → T (sound_system c s)
unfolding sound_system
system_of c s h =
    let a = same (kept_vtable c s.vtable) s.vtable h.vtable in
    let b = same (kept_sysctrl s.sysctrl) s.sysctrl h.sysctrl in
    let d = same (kept_cfgctrl s.cfgctrl) s.cfgctrl h.cfgctrl in
    let e = same (kept_faultstat s.faultstat) s.faultstat h.faultstat in
    let f = same (kept_hfaultstat s.hfaultstat) s.hfaultstat h.hfaultstat in
    search join

of_system : (c : Chip) (s : System) → T (sound_system c s) → SoundSystem c s
unfolding sound_system
of_system c s t =
    record {
      vtable = eqb→eq (kept_vtable c s.vtable) s.vtable (search (and_l, and_r));
      sysctrl = eqb→eq (kept_sysctrl s.sysctrl) s.sysctrl (search (and_l, and_r));
      cfgctrl = eqb→eq (kept_cfgctrl s.cfgctrl) s.cfgctrl (search (and_l, and_r));
      faultstat = eqb→eq (kept_faultstat s.faultstat) s.faultstat (search (and_l, and_r));
      hfaultstat = eqb→eq (kept_hfaultstat s.hfaultstat) s.hfaultstat (search (and_l, and_r));
    }

-- ---- what ARMv6-M lacks

of_not : (b : Bool) → T (not b) → b ≡ false
of_not b t = false_is b (T_not b t)

masks_of : (k : Masks) → BareMasks k → T (bare_masks k)
unfolding bare_masks
masks_of k h =
    let a = fails h.faultmask in
    let b = same k.basepri 0 h.basepri in
    let d = fails h.npriv in
    search join

of_masks : (k : Masks) → T (bare_masks k) → BareMasks k
unfolding bare_masks
of_masks k t =
    record {
      faultmask = of_not k.faultmask (search (and_l, and_r));
      basepri = eqb→eq k.basepri 0 (search (and_l, and_r));
      npriv = of_not k.npriv (search (and_l, and_r));
    }

block_of : (s : System) → BareSystem s → T (bare_system s)
unfolding bare_system
block_of s h =
    let a = same s.vtable 0 h.vtable in
    let b = same s.cfgctrl 0x208 h.cfgctrl in
    let d = same s.faultstat 0 h.faultstat in
    let e = same s.hfaultstat 0 h.hfaultstat in
    let f = same s.mmaddr 0 h.mmaddr in
    let g = same s.faultaddr 0 h.faultaddr in
    search join depth 8

of_block : (s : System) → T (bare_system s) → BareSystem s
unfolding bare_system
of_block s t =
    record {
      vtable = eqb→eq s.vtable 0 (search (and_l, and_r) depth 8);
      cfgctrl = eqb→eq s.cfgctrl 0x208 (search (and_l, and_r) depth 8);
      faultstat = eqb→eq s.faultstat 0 (search (and_l, and_r) depth 8);
      hfaultstat = eqb→eq s.hfaultstat 0 (search (and_l, and_r) depth 8);
      mmaddr = eqb→eq s.mmaddr 0 (search (and_l, and_r) depth 8);
      faultaddr = eqb→eq s.faultaddr 0 (search (and_l, and_r) depth 8);
    }

bare_of : (k : Core) → Bare k.group k.masks k.guard k.system → T (is_bare k)
unfolding is_bare
bare_of k h =
    let a = same k.group 0 h.group in
    let b = masks_of k.masks h.masks in
    let d = h.guard in
    let e = block_of k.system h.system in
    search join

of_bare : (k : Core) → T (is_bare k) → Bare k.group k.masks k.guard k.system
unfolding is_bare
of_bare k t =
    record {
      group = eqb→eq k.group 0 (search (and_l, and_r));
      masks = of_masks k.masks (search (and_l, and_r));
      guard = search (and_l, and_r);
      system = of_block k.system (search (and_l, and_r));
    }

-- ---- the whole

pub depth_fits : {c : Chip} {m : Model} → Sound c m → m.core.depth ≤ exception_count c
depth_fits {c} {m} h = rw (down_length m.nest m.core.depth) at (nested_fits c m.active (stack m) h.active h.nested)

module _ (c : Chip) (m : Model) where
  sized_of : Sound c m → T (is_sized c m)
  unfolding is_sized
  sized_of h =
      let a = same (length m.pending) (flag_count c) h.pending.size in
      let b = same (length m.active) (flag_count c) h.active.size in
      let d = same (length m.enabled) (flag_count c) h.enabled.size in
      let e = same (length m.level) (flag_count c) h.level.size in
      let f = same (length m.priority) (flag_count c) h.priority.size in
      let g = same (length m.nest) (exception_count c) h.places.size in
      let i = same (length m.lost) c.lines h.lost.size in
      search join depth 8

  all_flags_of : Sound c m → T (sound_flags c m.pending m.active m.enabled m.level)
  unfolding sound_flags
  all_flags_of h =
      let a = flags_of c Exception m.pending h.pending in
      let b = flags_of c Exception m.active h.active in
      let d = flags_of c Enable m.enabled h.enabled in
      let e = flags_of c Line m.level h.level in
      search join

  nest_of : Sound c m → T (sound_nest c m.active m.nest m.core.depth)
  unfolding sound_nest
  nest_of h =
      let a = le→leb m.core.depth (exception_count c) (depth_fits h) in
      let b = places_of c m.nest m.core.depth h.places in
      let d = stacked_of c m.active (stack m) h.nested in
      let e = all_on_of m.active (stack m) h.nested.shown in
      let f = distinct_of (stack m) h.nested.distinct in
      search join

pub sound_of : {c : Chip} {m : Model} → Sound c m → T (is_sound c m)
unfolding is_sound
sound_of {c} {m} h =
    let a = sized_of c m h in
    let b = all_flags_of c m h in
    let d = bytes_of c m.priority h.priority in
    let e = nest_of c m h in
    let l = is_true (counts_held m.lost c.lines h.lost.most) in
    let f = lt→ltb m.core.group 8 h.core.group in
    let g = same (kept_byte c.bits m.core.masks.basepri) m.core.masks.basepri h.core.basepri in
    let i = sound_timer_of h.core.timer in
    let j = sound_mpu_of h.core.guard in
    let k = system_of c m.core.system h.core.system in
    let n = if_of (is_armv6m c) (is_bare m.core) (λ t. bare_of m.core (h.core.bare t)) in
    search join depth 13

pub of_sound : (c : Chip) (m : Model) → T (is_sound c m) → Sound c m
unfolding is_sound is_sized sound_flags sound_nest
of_sound c m t =
    let sized : T (is_sized c m) = search (and_l, and_r) depth 13 in
    let flagged : T (sound_flags c m.pending m.active m.enabled m.level) = search (and_l, and_r) depth 13 in
    let nested : T (sound_nest c m.active m.nest m.core.depth) = search (and_l, and_r) depth 13 in
    let size = eqb→eq (length m.active) (flag_count c) (search (and_l, and_r) depth 13) in
    record {
      pending = of_flags c Exception m.pending (eqb→eq (length m.pending) (flag_count c) (search (and_l, and_r) depth 13)) (search (and_l, and_r) depth 13);
      active = of_flags c Exception m.active size (search (and_l, and_r) depth 13);
      enabled = of_flags c Enable m.enabled (eqb→eq (length m.enabled) (flag_count c) (search (and_l, and_r) depth 13)) (search (and_l, and_r) depth 13);
      level = of_flags c Line m.level (eqb→eq (length m.level) (flag_count c) (search (and_l, and_r) depth 13)) (search (and_l, and_r) depth 13);
      priority = of_bytes c m.priority (eqb→eq (length m.priority) (flag_count c) (search (and_l, and_r) depth 13)) (search (and_l, and_r) depth 13);
      places = of_places c m.nest m.core.depth (eqb→eq (length m.nest) (exception_count c) (search (and_l, and_r) depth 13)) (search (and_l, and_r) depth 13);
      nested = record { distinct = of_distinct (stack m) (search (and_l, and_r) depth 13); shown = of_all_on m.active (stack m) (search (and_l, and_r) depth 13); stacked = of_stacked c m.active (stack m) size (search (and_l, and_r) depth 13) };
      lost = of_counts c m.lost (eqb→eq (length m.lost) c.lines (search (and_l, and_r) depth 13)) (search (and_l, and_r) depth 13);
      core = record {
        group = ltb→lt m.core.group 8 (search (and_l, and_r) depth 13);
        basepri = eqb→eq (kept_byte c.bits m.core.masks.basepri) m.core.masks.basepri (search (and_l, and_r) depth 13);
        timer = of_sound_timer m.core.timer (search (and_l, and_r) depth 13);
        guard = of_sound_mpu c.guard m.core.guard (search (and_l, and_r) depth 13);
        system = of_system c m.core.system (search (and_l, and_r) depth 13);
        bare = λ y. of_bare m.core (of_if (is_armv6m c) (is_bare m.core) (search (and_l, and_r) depth 13) y);
      };
    }

pub guard_passes : {c : Chip} {m : Model} → Sound c m → (a : Answer) → guarded c m a ≡ a
unfolding guarded
guard_passes {c} {m} h a = rw (true_is (is_sound c m) (sound_of h))

pub step_sound : {c : Chip} {m : Model} → T (fits c) → Sound c m → (e : Event) → step_of c m e ≡ act_of c m e
unfolding admitted
step_sound {c} {m} f h e = rw (true_is (fits c) f) (guard_passes h (act_of c m e))

-- an event on a model is let through, or every event on it is refused by the same number
pub data Way (c : Chip) (m : Model) : Type 0 where
  through : T (fits c) → Sound c m → Way c m
  refused : (k : ℕ) → ((e : Event) → step_of c m e ≡ refuse k m) → Way c m

pub way : (c : Chip) (m : Model) → Way c m
unfolding admitted guarded
way c m = go (fits c) (is_sound c m) refl refl
  where
    go : (a b : Bool) → fits c ≡ a → is_sound c m ≡ b → Way c m
    go true true p q = through (is_true p) (of_sound c m (is_true q))
    go true false p q = refused 16 (λ e. simp (p, q))
    go false b p q = refused 17 (λ e. simp p)
