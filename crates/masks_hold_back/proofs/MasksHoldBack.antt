-- An entry looks at the masks only to choose, and at a lower execution priority the choice is the same or nothing (`lower_limit`, by `first_decides`).
use Prim.Native.Nat.{ℕ, ◌≤◌}
use mathlib.Core.Path.{◌≡◌, refl, sym, subst}
use mathlib.Core.Logic.{◌≢◌, ◌⊎◌, inl, inr}
use mathlib.Core.Bool.{Bool, not, ◌&&◌, ◌||◌}
use native.Mathlib.Nat.{le_refl}
use native.Mathlib.Omega.{arith}
use lib.Dec.{T, ltb, eqb, ltb→lt, eqb→eq, T_not}
use lib.Signed.{◌≤ℤ◌, ≤ℤ_refl}
use Rattle.bits.specs.Words.{bit_at}
use Rattle.bools.specs.Tests.{same, both, either, by_cases}
use Rattle.grouping.specs.Grouping.{kept_byte}
use Rattle.std.specs.Prelude.{Option, Some, None}
use Rattle.priority.specs.Laws.{more_masks}
use Rattle.priority.proofs.First.{lower_limit}
use Rattle.script.specs.declared.Event.{Event}
use Rattle.script.specs.declared.Event.TheVariants.{Special, Entry}
use Rattle.rules.specs.declared.Chip.{Chip}
use Rattle.rules.specs.declared.Masks.{Masks}
use Rattle.rules.specs.Chip.{chip55, fits}
use Rattle.rules.specs.Model.{Model, Answer, with_masks}
use Rattle.rules.specs.Priorities.{execution, is_negative, privileged}
use Rattle.rules.specs.Events.{with_primask, with_basepri, faultmask_written, basepri_raised, special_written, lacks_special, special_at, special_call}
use Rattle.rules.specs.Sound.{Sound}
use Rattle.rules.specs.Nesting.{entered, enter, entry_at, entry_call}
use Rattle.rules.specs.Step.{act_of, step_of}
use Rattle.rules.specs.Table.{after_on}
use Rattle.demand3.proofs.Check.{step_sound}
use Rattle.demand3.proofs.Steps.{step_keeps, sound_fresh}
use Rattle.demand3.proofs.Reached.{reached_sound, calls_sound}
use Rattle.masks_hold_back.specs.Cases.{line0}
use Rattle.masks_hold_back.specs.MasksHoldBack.{masks, masked_as, Lowered, HeldBack, Added, Raises, primask, faultmask, basepri_max_lem, MasksHoldBack, E13}
use Rattle.masks_hold_back.proofs.Cases.{cases_hold}

-- ---- the entries

-- of what is chosen in m and in m with other masks
entries : (m t : Model) (f g : Option ℕ) → (g ≡ f) ⊎ (g ≡ None) → HeldBack m (masked_as t m) (enter m f) (enter (masked_as t m) g)
unfolding entered
entries m t None g (inl e) = rw e (record { entered = inr refl; refused = λ _. (refl, refl) })
entries m t (Some n) g (inl e) = rw e (record { entered = inl (refl, refl); refused = λ ne. absurd (ne refl) })
entries m t None g (inr e) = rw e (record { entered = inr refl; refused = λ _. (refl, refl) })
entries m t (Some n) g (inr e) = rw e (record { entered = inr refl; refused = λ ne. absurd (ne refl) })

held_back_lem : (m t : Model) → Lowered m t → HeldBack m t (entry_call m) (entry_call t)
unfolding entry_at
held_back_lem m t h =
    subst (λ (x : Model). HeldBack m x (entry_call m) (entry_at (execution t) x)) (sym h.same)
    (entries m t _ _ (lower_limit m.core.group m.priority m.pending m.enabled h.lower))

-- ---- the masks

added : (m t : Model) → t ≡ masked_as t m → Added (masks m) (masks t) → Lowered m t
unfolding execution
added m t e h =
    record {
      same = e;
      lower = subst (λ (x : Model). execution x ≤ℤ execution m) (sym e)
          (more_masks m.core.group m.priority m.active (masks m).basepri (masks t).basepri (masks m).primask (masks t).primask (masks m).faultmask (masks t).faultmask h.primask h.faultmask h.basepri);
    }

-- ---- a write that can only add

-- CONTROL as it was, and the three masks added to
record Adds (k l : Masks) : Type 0 where
  npriv : l.npriv ≡ k.npriv
  spsel : l.spsel ≡ k.spsel
  more : Added k l

adds_none : (k : Masks) → Adds k k
adds_none k =
    record { npriv = refl; spsel = refl; more = record { primask = λ t. t; faultmask = λ t. t; basepri = λ ne. (ne, le_refl k.basepri) } }

adds_basepri : (k : Masks) (b : ℕ) → T (not (eqb b 0) && (ltb b k.basepri || eqb k.basepri 0)) → Adds k (with_basepri b k)
adds_basepri k b t =
    let u = both (not (eqb b 0)) (ltb b k.basepri || eqb k.basepri 0) t in
    record {
      npriv = refl;
      spsel = refl;
      more = record { primask = λ p. p; faultmask = λ p. p; basepri = λ ne. (λ z. T_not (eqb b 0) u.0 (same b 0 z), lesser ne (either (ltb b k.basepri) (eqb k.basepri 0) u.1)) };
    }
  where
    lesser : k.basepri ≢ 0 → T (ltb b k.basepri) ⊎ T (eqb k.basepri 0) → b ≤ k.basepri
    lesser ne (inl l) = let x = ltb→lt b k.basepri l in omega arith
    lesser ne (inr e) = absurd (ne (eqb→eq k.basepri 0 e))

basepri_adds : (k : Masks) (b : ℕ) → Adds k (basepri_raised b k)
unfolding basepri_raised
basepri_adds k b = by_cases (Adds k) (not (eqb b 0) && (ltb b k.basepri || eqb k.basepri 0)) (λ t. adds_basepri k b t) (λ _. adds_none k)

primask_adds : (k : Masks) {b : Bool} → T b → Adds k (with_primask b k)
primask_adds k t =
    record { npriv = refl; spsel = refl; more = record { primask = λ _. t; faultmask = λ p. p; basepri = (adds_none k).more.basepri } }

faultmask_adds : (k : Masks) (b negative : Bool) → T b → Adds k (faultmask_written b negative k)
unfolding faultmask_written
faultmask_adds k b negative t =
    by_cases (Adds k) (b && negative) (λ _. adds_none k)
    (λ _. record { npriv = refl; spsel = refl; more = record { primask = λ p. p; faultmask = λ _. t; basepri = (adds_none k).more.basepri } })

adds_lowered : (m : Model) (l : Masks) → Adds (masks m) l → Lowered m (with_masks l m)
adds_lowered m l h =
    added m (with_masks l m)
    (λ i. with_masks (record { primask = l.primask; faultmask = l.faultmask; basepri = l.basepri; npriv = h.npriv i; spsel = h.spsel i }) m)
    h.more

stays : (m : Model) → Lowered m m
stays m = record { same = refl; lower = ≤ℤ_refl (execution m) }

special_lowered : (c : Chip) (m : Model) (which v : ℕ) → ((negative thread : Bool) → Adds (masks m) (special_written c which v negative thread (masks m))) → Lowered m (special_call c m which v).next
unfolding special_at
special_lowered c m which v h =
    by_cases (λ (a : Answer). Lowered m a.next) (ltb 4 which || lacks_special c which) (λ _. stays m)
    (λ _. by_cases (λ (a : Answer). Lowered m a.next) (privileged m.core)
    (λ _. adds_lowered m _ (h (is_negative (execution m)) (eqb m.core.depth 0)))
    (λ _. stays m))

act_lowered : (c : Chip) (m : Model) (e : Event) → Raises e → Lowered m (act_of c m e).next
unfolding special_written
act_lowered c m e (primask v t) = special_lowered c m 0 v (λ negative thread. primask_adds (masks m) t)
act_lowered c m e (faultmask v t) = special_lowered c m 1 v (λ negative thread. faultmask_adds (masks m) (bit_at 0 v) negative t)
act_lowered c m e (basepri_max_lem v) = special_lowered c m 3 v (λ negative thread. basepri_adds (masks m) (kept_byte c.bits v))

-- ---- the claim

module _ (c : Chip) (f : T (fits c)) where
  sound : (m t : Model) → Sound c m → Sound c t → Lowered m t → HeldBack m t (step_of c m Entry) (step_of c t Entry)
  sound m t h g l = rw (step_sound f h Entry, step_sound f g Entry) (held_back_lem m t l)

  raised : (m : Model) → Sound c m → (e : Event) → Raises e → Lowered m (step_of c m e).next
  raised m h e r = subst (λ (a : Answer). Lowered m a.next) (sym (step_sound f h e)) (act_lowered c m e r)

  pub masks_hold_back : MasksHoldBack c
  masks_hold_back =
      record {
        reached = λ es fs. sound (after_on c es) (after_on c fs) (reached_sound c es) (reached_sound c fs);
        calls = λ es fs rs qs m t k j. sound m t (calls_sound k (sound_fresh c)) (calls_sound j (sound_fresh c));
        sound = sound;
        added = added;
        raised = raised;
        starts_nothing = λ es e r. let h = reached_sound c es in sound (after_on c es) _ h (step_keeps h e) (raised (after_on c es) h e r);
      }

pub e13 : E13
e13 =
    record { every = masks_hold_back; met = raised chip55 tt (after_on chip55 line0) (reached_sound chip55 line0) (Special 0 1) (primask 1 tt); examples = cases_hold }
