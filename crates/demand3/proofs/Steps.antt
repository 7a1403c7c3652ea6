-- What one call does to a sound model: it stays sound, the record moves as the nest does, and the group numbers stay rising if the call is steady.
use Prim.Native.Nat.{ℕ, zero, suc, ◌%◌, ◌<◌}
use mathlib.Core.Path.{◌≡◌, refl, sym, subst, ◌∙◌}
use mathlib.Core.List.Memᴰ
use mathlib.Core.Bool.{false, not}
use native.Mathlib.Omega.{arith}
use lib.Dec.{ltb, leb, eqb}
use Rattle.bits.specs.Words.{kept}
use Rattle.std.specs.Prelude.{Option, Some, None}
use Rattle.bools.specs.Tests.{is_true, true_is, by_cases}
use Rattle.priority.specs.Order.{Rising}
use Rattle.script.specs.Event.{access_number}
use Rattle.script.specs.declared.Event.{Event}
use Rattle.script.specs.declared.Event.TheVariants as event
use Rattle.systick.specs.Laws as timer
use Rattle.mpu.specs.Laws as mpu
use Rattle.mpu.specs.Unused.{fresh_unused}
use Rattle.rules.specs.declared.Chip.{Chip}
use Rattle.rules.specs.declared.Place.TheVariants.{Exception, Enable, Line}
use Rattle.rules.specs.Chip.{is_armv6m, fits, flag_count}
use Rattle.rules.specs.Model.{Model, Answer, stack, fresh_cfgctrl, fresh}
use Rattle.rules.specs.Priorities.{group_number}
use Rattle.rules.specs.SystemBlock.{kept_vtable, kept_cfgctrl}
use Rattle.rules.specs.Sound.{Sound}
use Rattle.rules.specs.Nesting.{chosen, enter, entry_at, entry_call, link_fits, returned, return_call}
use Rattle.rules.specs.Access.{fits_access, access_at, access_by, access_call}
use Rattle.rules.specs.Step.{act_of, admitted, step_of}
use Rattle.demand3.specs.Demand3.{moved, SamePriorities}
use Rattle.demand3.proofs.Parts.{get_d_fresh, flags_fresh, bytes_fresh, kept_byte_zero, places_fresh, counts_fresh, rising_drop}
use Rattle.demand3.proofs.Check.{guard_passes}
use Rattle.demand3.proofs.Quiet.{Quiet, stay}
use Rattle.demand3.proofs.Events.{line_quiet, lost_quiet, nmi_quiet, tick_quiet, skip_quiet, fault_quiet, svc_quiet, special_quiet}
use Rattle.demand3.proofs.Registers.{read_call_quiet, write_call_quiet}
use Rattle.rules.proofs.Laws.{link_deep}
use Rattle.demand3.proofs.Nesting.{chosen_able, stack_entered, sound_entered, rising_entered, Popped, returned_popped}

pub record Step (c : Chip) (m : Model) (e : Event) (a : Answer) : Type 0 where
  pub sound : Sound c a.next
  pub recorded : moved e a (stack m) ≡ stack a.next
  pub rising : (0 < m.core.depth → SamePriorities m a.next) → Rising (group_number m) (stack m) → Rising (group_number a.next) (stack a.next)

still : (m t : Model) → stack t ≡ stack m → (0 < m.core.depth → SamePriorities m t) → Rising (group_number m) (stack m) → Rising (group_number t) (stack t)
still m t e steady r = go m.core.depth refl
  where
    go : (d : ℕ) → m.core.depth ≡ d → Rising (group_number t) (stack t)
    go zero q = rw (e, q) tt
    go (suc d) q = let h = steady (omega arith) in rw (e, h.priority, h.group) r

-- the event is neither an entry nor a return: `moved` leaves the record alone, by computation
quiet : {c : Chip} {m : Model} (e : Event) {a : Answer} → moved e a (stack m) ≡ stack m → Quiet c m a.next → Step c m e a
quiet {m = m} e {a = a} k q = record { sound = q.sound; recorded = k ∙ sym q.kept; rising = still m a.next q.kept }

module _ {c : Chip} {m : Model} (h : Sound c m) where
  access_quiet : (k w a : ℕ) → Quiet c m (access_call c m k w a).next
  unfolding access_at access_by
  access_quiet k w a =
      by_cases (λ (x : Answer). Quiet c m x.next) (is_armv6m c) (λ _. stay h)
      (λ _. by_cases (λ (x : Answer). Quiet c m x.next) (ltb 2 k) (λ _. stay h)
      (λ _. by_cases (λ (x : Answer). Quiet c m x.next) (not (fits_access k w)) (λ _. stay h)
      (λ _. by_cases (λ (x : Answer). Quiet c m x.next) (not (eqb (a % w) 0)) (λ _. stay h) (λ _. stay h))))

  enter_ok : (o : Option ℕ) → chosen m ≡ o → Step c m event.Entry (enter m o)
  enter_ok None e = quiet event.Entry refl (stay h)
  enter_ok (Some n) e =
      let a = chosen_able h n e in
      record { sound = sound_entered h n a.pends a.below; recorded = sym (stack_entered h n a.pends a.below); rising = λ _ r. rising_entered h n a.pends a.below r }

  entry_ok : Step c m event.Entry (entry_call m)
  unfolding entry_at
  entry_ok = enter_ok (chosen m) refl

  return_ok : (v : ℕ) → Step c m (event.Return v) (return_call m v)
  unfolding return_call returned
  return_ok v =
      by_cases (Step c m (event.Return v)) (link_fits m.core.depth v)
      (λ t. let p = returned_popped h v (link_deep m.core.depth v t) in
      record { sound = p.sound; recorded = sym p.stacked; rising = λ _ r. lowered p r })
      (λ _. quiet (event.Return v) refl (stay h))
    where
      lowered : Popped h (returned v m) → Rising (group_number m) (stack m) → Rising (group_number (returned v m)) (stack (returned v m))
      lowered p r = rw (p.stacked, p.same.priority, p.same.group) (rising_drop (group_number m) (stack m) r)

  pub act_ok : (e : Event) → Step c m e (act_of c m e)
  act_ok (event.Read w a) = quiet (event.Read w a) refl (read_call_quiet h w a)
  act_ok (event.Write w a v) = quiet (event.Write w a v) refl (write_call_quiet h w a v)
  act_ok (event.Line line level) = quiet (event.Line line level) refl (line_quiet h line level)
  act_ok event.Nmi = quiet event.Nmi refl (nmi_quiet h)
  act_ok event.Tick = quiet event.Tick refl (tick_quiet h)
  act_ok (event.Fault b a) = quiet (event.Fault b a) refl (fault_quiet h b a)
  act_ok event.Svc = quiet event.Svc refl (svc_quiet h)
  act_ok (event.Special which v) = quiet (event.Special which v) refl (special_quiet h which v)
  act_ok event.Entry = entry_ok
  act_ok (event.Return v) = return_ok v
  act_ok (event.Access kind w a) = quiet (event.Access kind w a) refl (access_quiet (access_number kind) w a)
  act_ok (event.Lost line) = quiet (event.Lost line) refl (lost_quiet h line)
  act_ok (event.Skip n) = quiet (event.Skip n) refl (skip_quiet h n)

  pub act_sound : (e : Event) → Sound c (act_of c m e).next
  act_sound e = (act_ok e).sound

  -- on every chip: where it does not fit, nothing moves
  pub step_keeps : (e : Event) → Sound c (step_of c m e).next
  unfolding admitted
  step_keeps e =
      by_cases (λ (a : Answer). Sound c a.next) (fits c)
      (λ _. subst (λ (a : Answer). Sound c a.next) (sym (guard_passes h (act_of c m e))) (act_sound e))
      (λ _. h)

fresh_vtable : (c : Chip) → kept_vtable c 0 ≡ 0
fresh_vtable c = by_cases (λ (l : ℕ). kept 29 l 0 ≡ 0) (leb (flag_count c) 128) (λ _. refl) (λ _. refl)

fresh_cfgctrl_kept : (c : Chip) → kept_cfgctrl (fresh_cfgctrl c) ≡ fresh_cfgctrl c
fresh_cfgctrl_kept c = by_cases (λ (x : ℕ). kept_cfgctrl x ≡ x) (is_armv6m c) {x = 0x208} {y = 0x200} (λ _. refl) (λ _. refl)

pub sound_fresh : (c : Chip) → Sound c (fresh c)
unfolding fresh
sound_fresh c =
    record {
      pending = flags_fresh c Exception;
      active = flags_fresh c Exception;
      enabled = flags_fresh c Enable;
      level = flags_fresh c Line;
      priority = bytes_fresh c;
      places = places_fresh c;
      nested = record { distinct = tt; shown = λ n m. absurd (Memᴰ.not-nil m); stacked = λ n t. absurd (rw (get_d_fresh (flag_count c) n false) at t) };
      lost = counts_fresh c;
      core = record {
        group = omega arith;
        basepri = kept_byte_zero c.bits;
        timer = timer.fresh_sound;
        guard = mpu.fresh_sound c.guard;
        system = record { vtable = fresh_vtable c; sysctrl = refl; cfgctrl = fresh_cfgctrl_kept c; faultstat = refl; hfaultstat = refl };
        bare = λ t. record {
          group = refl;
          masks = record { faultmask = refl; basepri = refl; npriv = refl };
          guard = is_true fresh_unused;
          system = record { vtable = refl; cfgctrl = rw (true_is (is_armv6m c) t); faultstat = refl; hfaultstat = refl; mmaddr = refl; faultaddr = refl };
        };
      };
    }
