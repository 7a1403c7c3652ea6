-- A change that leaves the nest alone keeps a model sound where the part that it changes stays sound. Most events are made of such changes.
use Prim.Native.Nat.{ℕ, ◌<◌}
use mathlib.Core.Path.{◌≡◌, refl, sym, ap, subst, ◌∙◌}
use mathlib.Core.List.{List}
use mathlib.Core.Bool.{Bool, true}
use lib.Dec.{T}
use Rattle.grouping.specs.Grouping.{kept_byte}
use Rattle.systick.specs.declared.Timer.{Timer}
use Rattle.systick.specs.Timer.{SoundTimer}
use Rattle.mpu.specs.declared.Mpu.{Mpu}
use Rattle.mpu.specs.Soundness.{SoundMpu}
use Rattle.mpu.specs.Unused.{is_unused}
use Rattle.rules.specs.declared.Chip.{Chip}
use Rattle.rules.specs.declared.Place.TheVariants.{Exception, Enable, Line}
use Rattle.rules.specs.declared.Core.{Core}
use Rattle.rules.specs.declared.Masks.{Masks}
use Rattle.rules.specs.declared.System.{System}
use Rattle.rules.specs.Chip.{is_armv6m, exists}
use Rattle.rules.specs.Model.{Model, down, stack, put_masks, put_depth, with_core, with_pending, with_enabled, with_level, with_priority, with_lost, with_group, with_masks, with_timer, with_guard, with_system}
use Rattle.rules.specs.Sound.{Flags, PriorityBytes, Nested, Places, Counts, SoundSystem, BareMasks, BareSystem, SoundCore, Sound}
use Rattle.rules.specs.Events.{pend}
use Rattle.demand3.proofs.Parts.{flags_set}

-- t is what m may become with its nest as it was
pub record Quiet (c : Chip) (m t : Model) : Type 0 where
  pub sound : Sound c t
  pub kept : stack t ≡ stack m

pub stay : {c : Chip} {m : Model} → Sound c m → Quiet c m m
stay h = record { sound = h; kept = refl }

-- other masks and another depth, the rest as it was
pub kept_core : {c : Chip} {k : Core} {x : Masks} {d : ℕ} → SoundCore c k → kept_byte c.bits x.basepri ≡ x.basepri → (T (is_armv6m c) → BareMasks x) → SoundCore c (put_masks x (put_depth d k))
kept_core h b z =
    record { group = h.group; basepri = b; timer = h.timer; guard = h.guard; system = h.system; bare = λ t. let y = h.bare t in record { group = y.group; masks = z t; guard = y.guard; system = y.system } }

module _ {c : Chip} {m t : Model} (q : Quiet c m t) where
  pub put_pending : {x : List Bool} → Flags c Exception x → Quiet c m (with_pending x t)
  put_pending f =
      let h = q.sound in
      record { sound = record { pending = f; active = h.active; enabled = h.enabled; level = h.level; priority = h.priority; places = h.places; nested = h.nested; lost = h.lost; core = h.core }; kept = q.kept }

  pub put_enabled : {x : List Bool} → Flags c Enable x → Quiet c m (with_enabled x t)
  put_enabled f =
      let h = q.sound in
      record { sound = record { pending = h.pending; active = h.active; enabled = f; level = h.level; priority = h.priority; places = h.places; nested = h.nested; lost = h.lost; core = h.core }; kept = q.kept }

  pub put_level : {x : List Bool} → Flags c Line x → Quiet c m (with_level x t)
  put_level f =
      let h = q.sound in
      record { sound = record { pending = h.pending; active = h.active; enabled = h.enabled; level = f; priority = h.priority; places = h.places; nested = h.nested; lost = h.lost; core = h.core }; kept = q.kept }

  pub put_priority : {x : List ℕ} → PriorityBytes c x → Quiet c m (with_priority x t)
  put_priority f =
      let h = q.sound in
      record { sound = record { pending = h.pending; active = h.active; enabled = h.enabled; level = h.level; priority = f; places = h.places; nested = h.nested; lost = h.lost; core = h.core }; kept = q.kept }

  pub put_lost : {x : List ℕ} → Counts c x → Quiet c m (with_lost x t)
  put_lost f =
      let h = q.sound in
      record { sound = record { pending = h.pending; active = h.active; enabled = h.enabled; level = h.level; priority = h.priority; places = h.places; nested = h.nested; lost = f; core = h.core }; kept = q.kept }

  pub put_core : {x : Core} → SoundCore c x → x.depth ≡ t.core.depth → Quiet c m (with_core x t)
  put_core {x} f e =
      let h = q.sound in
      record { sound = record { pending = h.pending; active = h.active; enabled = h.enabled; level = h.level; priority = h.priority; places = subst (Places c t.nest) (sym e) h.places; nested = subst (λ d. Nested t.active (down t.nest d)) (sym e) h.nested; lost = h.lost; core = f }; kept = ap (down t.nest) e ∙ q.kept }

  pub put_group_lem : {x : ℕ} → x < 8 → (T (is_armv6m c) → x ≡ 0) → Quiet c m (with_group x t)
  put_group_lem f z =
      let h = q.sound.core in
      put_core (record { group = f; basepri = h.basepri; timer = h.timer; guard = h.guard; system = h.system; bare = λ t. let y = h.bare t in record { group = z t; masks = y.masks; guard = y.guard; system = y.system } }) refl

  pub put_masks_lem : {x : Masks} → kept_byte c.bits x.basepri ≡ x.basepri → (T (is_armv6m c) → BareMasks x) → Quiet c m (with_masks x t)
  put_masks_lem f z = put_core (kept_core q.sound.core f z) refl

  pub put_timer_lem : {x : Timer} → SoundTimer x → Quiet c m (with_timer x t)
  put_timer_lem f = let h = q.sound.core in put_core (record { group = h.group; basepri = h.basepri; timer = f; guard = h.guard; system = h.system; bare = h.bare }) refl

  pub put_guard_lem : {x : Mpu} → SoundMpu c.guard x → (T (is_armv6m c) → T (is_unused x)) → Quiet c m (with_guard x t)
  put_guard_lem f z =
      let h = q.sound.core in
      put_core (record { group = h.group; basepri = h.basepri; timer = h.timer; guard = f; system = h.system; bare = λ t. let y = h.bare t in record { group = y.group; masks = y.masks; guard = z t; system = y.system } }) refl

  pub put_system_lem : {x : System} → SoundSystem c x → (T (is_armv6m c) → BareSystem x) → Quiet c m (with_system x t)
  put_system_lem f z =
      let h = q.sound.core in
      put_core (record { group = h.group; basepri = h.basepri; timer = h.timer; guard = h.guard; system = f; bare = λ t. let y = h.bare t in record { group = y.group; masks = y.masks; guard = y.guard; system = z t } }) refl

  pub pend_quiet : (n : ℕ) → T (exists c n) → Quiet c m (pend n t)
  pend_quiet n e = put_pending (flags_set c Exception t.pending n true (λ _. e) q.sound.pending)
