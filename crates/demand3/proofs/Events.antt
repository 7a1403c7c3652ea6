-- Lines, NMI, SysTick, faults, SVC and the special registers leave the nest alone and keep the model sound.
use Prim.Native.Nat.{ℕ, ◌+◌}
use mathlib.Core.Path.{◌≡◌, sym, subst}
use mathlib.Core.List.{[], ◌∷◌}
use mathlib.Core.Bool.{Bool, true, false, not, ◌&&◌, ◌||◌}
use native.Mathlib.Omega.{arith}
use lib.Dec.{T, ltb, leb, eqb, nleb→lt, eqb→eq, T_not}
use lib.Signed.{lt_z}
use Rattle.flag_words.specs.Flags.{on}
use Rattle.bits.specs.Words.{bit_at, with_bit}
use Rattle.grouping.specs.Grouping.{kept_byte}
use Rattle.bools.specs.Tests.{true_is, both, join, or_right, not_or_left, by_cases}
use Rattle.std.specs.Prelude.{Some}
use Rattle.systick.specs.declared.Ticked.{Ticked}
use Rattle.systick.specs.Timer.{tick_of, SoundTimer}
use Rattle.systick.specs.Laws.{tick_sound}
use Rattle.systick.specs.Skip.{skip_of}
use Rattle.systick.specs.SkipLaws.{skip_sound}
use Rattle.rules.specs.declared.Chip.{Chip}
use Rattle.rules.specs.declared.Place.TheVariants.{Exception, Line}
use Rattle.rules.specs.declared.Masks.{Masks}
use Rattle.rules.specs.declared.System.{System}
use Rattle.rules.specs.Chip.{is_armv6m, is_in, is_line, exists}
use Rattle.rules.specs.Model.{Model, Answer, with_system}
use Rattle.rules.specs.Priorities.{group_number, enabled_at, execution, is_negative, privileged}
use Rattle.rules.specs.SystemBlock.{kept_faultstat}
use Rattle.rules.specs.Sound.{Counts, SoundSystem, BareMasks, Sound}
use Rattle.rules.specs.Events.{levelled, loses_rise, counted, line_call, lost_call, nmi_call, ticked_model, tick_call, skip_call, escalates, forced, noted, raised, fault_exception, fault_status, fault_raised, fault_at, fault_call, svc_at, svc_call, faultmask_written, basepri_raised, control_written, lacks_special, special_written, special_at, special_call}
use Rattle.demand3.proofs.Words.{inside, faultstat_fields, faultstat_with, hfaultstat_with}
use Rattle.rules.specs.Laws.{all}
use Rattle.rules.proofs.Laws.{in_all, is_line_lem, line_stands}
use Rattle.rules.specs.SkipLaws.{skip_timer}
use Rattle.demand3.proofs.Exceptions.{enable_exists}
use Rattle.demand3.proofs.Parts.{flags_set, counts_more, kept_byte_twice}
use Rattle.demand3.proofs.Quiet.{Quiet, stay, put_level, put_lost, put_masks_lem, put_timer_lem, put_system_lem, pend_quiet}

of_not_not : (b : Bool) → T (not (not b)) → T b
of_not_not true t = tt
of_not_not false t = absurd t

-- ---- the system block after a fault

pub forced_sound : {c : Chip} {s : System} → SoundSystem c s → SoundSystem c (forced s)
forced_sound {s = s} h =
    record { vtable = h.vtable; sysctrl = h.sysctrl; cfgctrl = h.cfgctrl; faultstat = h.faultstat; hfaultstat = hfaultstat_with _ s.hfaultstat h.hfaultstat }

pub status_sound : (b address : ℕ) {c : Chip} {s : System} → T (inside faultstat_fields b) → SoundSystem c s → SoundSystem c (fault_status b address s)
unfolding fault_status
status_sound b address {s = s} t h =
    record {
      vtable = h.vtable;
      sysctrl = h.sysctrl;
      cfgctrl = h.cfgctrl;
      faultstat =
          by_cases (λ x. kept_faultstat x ≡ x) (eqb b 1)
          (λ _. faultstat_with 7 (with_bit 1 true s.faultstat) tt (faultstat_with 1 s.faultstat tt h.faultstat))
          (λ _. by_cases (λ x. kept_faultstat x ≡ x) (eqb b 9)
          (λ _. faultstat_with 15 (with_bit 9 true s.faultstat) tt (faultstat_with 9 s.faultstat tt h.faultstat))
          (λ _. faultstat_with b s.faultstat t h.faultstat));
      hfaultstat = h.hfaultstat;
    }

-- ---- the masks

abbrev pub KeptBasepri : Chip → Masks → Type 0
KeptBasepri c k = kept_byte c.bits k.basepri ≡ k.basepri

pub special_kept : (c : Chip) (which v : ℕ) (negative thread : Bool) (k : Masks) → KeptBasepri c k → KeptBasepri c (special_written c which v negative thread k)
unfolding special_written faultmask_written basepri_raised control_written
special_kept c which v negative thread k e =
    by_cases (KeptBasepri c) (eqb which 0) (λ _. e)
    (λ _. by_cases (KeptBasepri c) (eqb which 1) (λ _. by_cases (KeptBasepri c) (bit_at 0 v && negative) (λ _. e) (λ _. e))
    (λ _. by_cases (KeptBasepri c) (eqb which 2) (λ _. kept_byte_twice c.bits v)
    (λ _. by_cases (KeptBasepri c) (eqb which 3)
    (λ _. by_cases (KeptBasepri c) (not (eqb (kept_byte c.bits v) 0) && (ltb (kept_byte c.bits v) k.basepri || eqb k.basepri 0)) (λ _. kept_byte_twice c.bits v) (λ _. e))
    (λ _. e))))

-- what ARMv6-M lacks stays 0: its special registers are PRIMASK and CONTROL, without bit 0
special_bare : (c : Chip) (which v : ℕ) (negative thread : Bool) (k : Masks) → T (is_armv6m c) → (T (lacks_special c which) → ⊥) → BareMasks k → BareMasks (special_written c which v negative thread k)
unfolding special_written control_written
special_bare c which v negative thread k t has b =
    by_cases BareMasks (eqb which 0) (λ _. record { faultmask = b.faultmask; basepri = b.basepri; npriv = b.npriv })
    (λ _. by_cases BareMasks (eqb which 1) (λ e. absurd (lacking 1 e tt))
    (λ _. by_cases BareMasks (eqb which 2) (λ e. absurd (lacking 2 e tt))
    (λ _. by_cases BareMasks (eqb which 3) (λ e. absurd (lacking 3 e tt))
    (λ _. record { faultmask = b.faultmask; basepri = b.basepri; npriv = rw (true_is (is_armv6m c) t) }))))
  where
    lacking : (i : ℕ) → T (eqb which i) → T (is_in i (1 ∷ 2 ∷ 3 ∷ [])) → ⊥
    lacking i e l =
        has (join (is_armv6m c) (is_in which (1 ∷ 2 ∷ 3 ∷ [])) t (subst (λ (x : ℕ). T (is_in x (1 ∷ 2 ∷ 3 ∷ []))) (sym (eqb→eq which i e)) l))

-- ---- the calls

module _ {c : Chip} {m : Model} (h : Sound c m) where
  abbrev Leaves : Answer → Type 0
  Leaves a = Quiet c m a.next

  counted_sound : (line : ℕ) (high : Bool) → Counts c (counted line high m)
  unfolding counted
  counted_sound line high = by_cases (Counts c) (loses_rise (16 + line) high m) (λ _. counts_more c m.lost line h.lost) (λ _. h.lost)

  levelled_quiet : (n : ℕ) (high : Bool) → T (is_line c n) → Quiet c m (levelled n high m)
  unfolding levelled
  levelled_quiet n high t =
      by_cases (Quiet c m) (high && not (on m.level n))
      (λ _. put_level (pend_quiet (stay h) n (line_stands c n Exception t)) (flags_set c Line m.level n true (λ _. t) h.level))
      (λ _. put_level (stay h) (flags_set c Line m.level n high (λ _. t) h.level))

  pub line_quiet : (line level : ℕ) → Quiet c m (line_call c m line level).next
  unfolding line_call
  line_quiet line level =
      by_cases Leaves (leb c.lines line || ltb 1 level) (λ _. stay h)
      (λ t. let l = nleb→lt c.lines line (not_or_left (leb c.lines line) (ltb 1 level) t) in put_lost (levelled_quiet (16 + line) (eqb level 1) (is_line_lem c (16 + line) (omega arith) (omega arith))) (counted_sound line (eqb level 1)))

  pub lost_quiet : (line : ℕ) → Quiet c m (lost_call c m line).next
  unfolding lost_call
  lost_quiet line = by_cases Leaves (leb c.lines line) (λ _. stay h) (λ _. stay h)

  pub nmi_quiet : Quiet c m (nmi_call m).next
  nmi_quiet = pend_quiet (stay h) 2 tt

  -- one tick, or many
  ticked_quiet : (t : Ticked) → SoundTimer t.timer → Quiet c m (ticked_model t m)
  ticked_quiet t s = put_timer_lem (by_cases (Quiet c m) t.pends (λ _. pend_quiet (stay h) 15 tt) (λ _. stay h)) s

  pub tick_quiet : Quiet c m (tick_call m).next
  unfolding tick_call
  tick_quiet = ticked_quiet (tick_of m.core.timer) (tick_sound h.core.timer)

  pub skip_quiet : (n : ℕ) → Quiet c m (skip_call m n).next
  skip_quiet n = subst Leaves (sym (skip_timer m n)) (ticked_quiet (skip_of n m.core.timer) (skip_sound n h.core.timer))

  noted_quiet : (s : System) → SoundSystem c s → Quiet c m (with_system (noted c s m.core.system) m)
  unfolding noted
  noted_quiet s g =
      put_system_lem (stay h) (by_cases (SoundSystem c) (is_armv6m c) (λ _. h.core.system) (λ _. g))
      (λ t. rw (true_is (is_armv6m c) t) (h.core.bare t).system)

  raised_quiet : (n : ℕ) (s : System) → (T (enabled_at m n) → T (exists c n)) → SoundSystem c s → Quiet c m (raised c (execution m) m n s).next
  unfolding raised escalates
  raised_quiet n s e g =
      by_cases Leaves (not (enabled_at m n && lt_z (group_number m n) (execution m)))
      (λ _. pend_quiet (noted_quiet (forced s) (forced_sound g)) 3 tt)
      (λ t. pend_quiet (noted_quiet s g) n (e (both (enabled_at m n) (lt_z (group_number m n) (execution m)) (of_not_not (enabled_at m n && lt_z (group_number m n) (execution m)) t)).0))

  -- a configurable fault that is enabled exists
  enabled_exists : (n : ℕ) → T (on m.enabled n) → T (exists c n)
  enabled_exists n t = enable_exists c n (h.enabled.only n t)

  pub fault_quiet : (b address : ℕ) → Quiet c m (fault_call c m b address).next
  unfolding fault_at fault_exception all
  fault_quiet b address =
      by_cases (λ o. Leaves (fault_raised c (execution m) m o b address)) (is_in b (0 ∷ 1 ∷ [])) (λ t. raise 4 (enabled_exists 4) (in_all (inside faultstat_fields) b (0 ∷ 1 ∷ []) tt t))
      (λ _. by_cases (λ o. Leaves (fault_raised c (execution m) m o b address)) (is_in b (8 ∷ 9 ∷ [])) (λ t. raise 5 (enabled_exists 5) (in_all (inside faultstat_fields) b (8 ∷ 9 ∷ []) tt t))
      (λ _. by_cases (λ o. Leaves (fault_raised c (execution m) m o b address)) (is_in b (16 ∷ 17 ∷ 18 ∷ 19 ∷ 24 ∷ 25 ∷ [])) (λ t. raise 6 (enabled_exists 6) (in_all (inside faultstat_fields) b (16 ∷ 17 ∷ 18 ∷ 19 ∷ 24 ∷ 25 ∷ []) tt t))
      (λ _. stay h)))
    where
      raise : (n : ℕ) → (T (enabled_at m n) → T (exists c n)) → T (inside faultstat_fields b) → Leaves (fault_raised c (execution m) m (Some n) b address)
      raise n e t = by_cases Leaves (is_negative (execution m)) (λ _. stay h) (λ _. raised_quiet n (fault_status b address m.core.system) e (status_sound b address t h.core.system))

  pub svc_quiet : Quiet c m (svc_call c m).next
  unfolding svc_at
  svc_quiet = by_cases Leaves (is_negative (execution m)) (λ _. stay h) (λ _. raised_quiet 11 m.core.system (λ _. tt) h.core.system)

  pub special_quiet : (which v : ℕ) → Quiet c m (special_call c m which v).next
  unfolding special_at
  special_quiet which v =
      by_cases Leaves (ltb 4 which || lacks_special c which) (λ _. stay h)
      (λ has. by_cases Leaves (privileged m.core)
      (λ _. put_masks_lem (stay h) (special_kept c which v _ _ m.core.masks h.core.basepri)
      (λ t. special_bare c which v _ _ m.core.masks t (λ l. T_not (ltb 4 which || lacks_special c which) has (or_right (ltb 4 which) (lacks_special c which) l)) (h.core.bare t).masks))
      (λ _. stay h))
