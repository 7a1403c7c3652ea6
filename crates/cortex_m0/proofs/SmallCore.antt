-- In a sound state the fields that the profile lacks are 0: with them each rule computes to what the request says.
use Prim.Native.Nat.{ℕ, zero, suc, ◌*◌, ◌/◌, ◌%◌, ◌^◌, ◌<◌}
use mathlib.Core.Path.{◌≡◌, refl, sym, ap, subst, ◌∙◌}
use mathlib.Core.List.{List, [], ◌∷◌}
use mathlib.Core.Bool.{Bool, true, false, ◌||◌}
use native.Mathlib.Omega.{arith}
use lib.ListN.{get_or}
use lib.Dec.{T, eqb, T_not}
use lib.IntN.{ℤ, pos, negsuc}
use borrow.Author.Tests.{ne_eqb}
use Rattle.bools.specs.Tests.{false_is, is_false, of_or, by_cases}
use Rattle.bits.specs.Words.{field, bit_at}
use Rattle.grouping.specs.Grouping.{kept_byte, grouped}
use Rattle.flag_words.specs.Flags.{on}
use Rattle.std.specs.Prelude.{Option, Some, None}
use Rattle.script.specs.declared.AccessKind.{AccessKind}
use Rattle.script.specs.declared.Event.TheVariants as event
use Rattle.rules.specs.declared.System.{System}
use Rattle.rules.specs.Chip.{chip_m0, is_in}
use Rattle.rules.specs.Laws.{all}
use Rattle.rules.proofs.Laws.{in_all}
use Rattle.rules.specs.Model.{Model, Answer, refuse, done, stack, top}
use Rattle.rules.specs.Priorities.{full, group_number, enabled_at, execution, is_negative, privileged}
use Rattle.rules.specs.Sound.{Sound}
use Rattle.rules.specs.Events.{pend, escalates, noted, raised, fault_exception, fault_status, fault_raised, fault_at}
use Rattle.rules.specs.Nesting.{chosen, enter, entry_at}
use Rattle.rules.specs.MapArmv6m.{armv6m_register}
use Rattle.rules.specs.Map.{width_refusal}
use Rattle.rules.specs.Reads.{shows_base, intctrl_value, system_value, value_of, after_read}
use Rattle.rules.specs.Registers.{access_refusal, lane_of, read_call}
use Rattle.rules.specs.Access.{access_by}
use Rattle.rules.specs.Step.{admitted, guarded, step_of}
use Rattle.demand3.proofs.Check.{step_sound}
use Rattle.demand3.proofs.Nesting.{top_below}
use Rattle.demand3.proofs.Demand3.{demand3}
use Rattle.demand3.proofs.Bounds.{bounded_m0}
use Rattle.cortex_m0.specs.SmallCore.{listed, ed04, E10}
use Rattle.cortex_m0.proofs.Cases.{cases_hold}

-- ---- priority bytes

-- two kept bits have no low bit to clear
no_group : (b : ℕ) → kept_byte 2 b ≡ b → grouped 0 (pos b) ≡ pos b
no_group b k = ap pos (omega (arith, k))

-- ---- the bits of a fault

abbrev manage : ℕ → Bool
manage b = is_in b (0 ∷ 1 ∷ [])

abbrev bus : ℕ → Bool
bus b = is_in b (8 ∷ 9 ∷ [])

abbrev usage : ℕ → Bool
usage b = is_in b (16 ∷ 17 ∷ 18 ∷ 19 ∷ 24 ∷ 25 ∷ [])

-- a listed bit names 4, 5 or 6
named : (P : Option ℕ → Type 0) (b : ℕ) → T (is_in b listed) → P (Some 4) → P (Some 5) → P (Some 6) → P (fault_exception b)
unfolding fault_exception all
named P b t four five six =
    by_cases P (manage b) (λ _. four)
    (λ n1. by_cases P (bus b) (λ _. five)
    (λ n2. by_cases P (usage b) (λ _. six)
    (λ n3. absurd (T_not (usage b) n3 (of_or (bus b) (usage b) (of_or (manage b) (bus b || usage b) (in_all (λ n. manage n || (bus n || usage n)) b listed tt t) (T_not (manage b) n1)) (T_not (bus b) n2))))))

-- and no other bit names one
unlisted_none : (b : ℕ) → is_in b listed ≡ false → fault_exception b ≡ None
unfolding fault_exception all
unlisted_none b q =
    by_cases (λ (o : Option ℕ). o ≡ None) (manage b) (λ i. absurd (is_false q (in_all (λ n. is_in n listed) b (0 ∷ 1 ∷ []) tt i)))
    (λ _. by_cases (λ (o : Option ℕ). o ≡ None) (bus b) (λ i. absurd (is_false q (in_all (λ n. is_in n listed) b (8 ∷ 9 ∷ []) tt i)))
    (λ _. by_cases (λ (o : Option ℕ). o ≡ None) (usage b) (λ i. absurd (is_false q (in_all (λ n. is_in n listed) b (16 ∷ 17 ∷ 18 ∷ 19 ∷ 24 ∷ 25 ∷ []) tt i)))
    (λ _. refl)))

-- ---- what ED04 reads

in_5_0 : (pending : List Bool) (topmost : ℕ) → topmost < 64 → field 5 0 (intctrl_value pending false topmost) ≡ topmost
unfolding intctrl_value
in_5_0 pending topmost l = omega arith

not_11 : (pending : List Bool) (topmost : ℕ) → topmost < 64 → bit_at 11 (intctrl_value pending false topmost) ≡ false
unfolding intctrl_value
not_11 pending topmost l = ne_eqb (intctrl_value pending false topmost / 2 ^ 11 % 2) 1 (λ (e : intctrl_value pending false topmost / 2 ^ 11 % 2 ≡ 1). omega (arith, e))

module _ (m : Model) (h : Sound chip_m0 m) where
  group_is_full : (n : ℕ) → group_number m n ≡ full m n
  group_is_full n =
      rw (h.core.bare tt).group
      (by_cases (λ (x : ℤ). grouped 0 x ≡ x) (eqb n 2) {x = negsuc 1} (λ _. refl)
      (λ _. by_cases (λ (x : ℤ). grouped 0 x ≡ x) (eqb n 3) {x = negsuc 0} {y = pos (get_or m.priority n 0)} (λ _. refl)
      (λ _. no_group (get_or m.priority n 0) (h.priority.each n))))

  -- ---- faults

  raised_hard : (n : ℕ) (s : System) → enabled_at m n ≡ false → raised chip_m0 (execution m) m n s ≡ done 3 (pend 3 m)
  unfolding raised escalates noted
  raised_hard n s q = rw q

  -- the fault of a bit that names exception n, which is not enabled
  hard : (n b a : ℕ) → enabled_at m n ≡ false → is_negative (execution m) ≡ false → fault_raised chip_m0 (execution m) m (Some n) b a ≡ done 3 (pend 3 m)
  hard n b a q free = rw free (raised_hard n (fault_status b a m.core.system) q)

  fault : (b a : ℕ) → T (is_in b listed) → is_negative (execution m) ≡ false → step_of chip_m0 m (event.Fault b a) ≡ done 3 (pend 3 m)
  unfolding fault_at
  fault b a t free =
      step_sound tt h (event.Fault b a)
      ∙ named (λ o. fault_raised chip_m0 (execution m) m o b a ≡ done 3 (pend 3 m)) b t
      (hard 4 b a (false_is (on m.enabled 4) (h.enabled.only 4)) free)
      (hard 5 b a (false_is (on m.enabled 5) (h.enabled.only 5)) free)
      (hard 6 b a (false_is (on m.enabled 6) (h.enabled.only 6)) free)

  locked : (b a : ℕ) → T (is_in b listed) → is_negative (execution m) ≡ true → step_of chip_m0 m (event.Fault b a) ≡ refuse 10 m
  unfolding fault_at
  locked b a t low = step_sound tt h (event.Fault b a) ∙ named (λ o. fault_raised chip_m0 (execution m) m o b a ≡ refuse 10 m) b t (rw low) (rw low) (rw low)

  -- ---- entry

  entered_at : (o : Option ℕ) → (enter m o).refusal ≡ 0 → (enter m o).vector ≡ 4 * (enter m o).value
  entered_at None q = absurd (let z : ⊥ = omega (arith, q) in z)
  entered_at (Some n) q = rw (h.core.bare tt).system.vtable (omega arith)

  vectors : (step_of chip_m0 m event.Entry).refusal ≡ 0 → (step_of chip_m0 m event.Entry).vector ≡ 4 * (step_of chip_m0 m event.Entry).value
  unfolding entry_at
  vectors = subst (λ (a : Answer). a.refusal ≡ 0 → a.vector ≡ 4 * a.value) (sym (step_sound tt h event.Entry)) (entered_at (chosen m))

  -- ---- ED04

  always : privileged m.core ≡ true
  always = rw (h.core.bare tt).masks.npriv

  top_small : top (stack m) < 64
  top_small = go m.core.depth refl
    where
      go : (d : ℕ) → m.core.depth ≡ d → top (stack m) < 64
      go zero e = rw e (omega arith)
      go (suc d) e = let l = top_below h (omega arith) in omega arith

  read_ed04 : step_of chip_m0 m (event.Read 4 0xE000ED04) ≡ done (ed04 m) m
  unfolding read_call access_refusal width_refusal armv6m_register value_of system_value shows_base after_read lane_of
  read_ed04 = step_sound tt h (event.Read 4 0xE000ED04) ∙ rw always

  access : (kind : AccessKind) (w a : ℕ) → step_of chip_m0 m (event.Access kind w a) ≡ refuse 19 m
  unfolding access_by
  access kind w a = step_sound tt h (event.Access kind w a)

pub e10 : E10
unfolding fault_at admitted guarded
e10 =
    record {
      sound = λ m h. record {
        fault = fault m h;
        locked = locked m h;
        unlisted = λ b a q. step_sound tt h (event.Fault b a) ∙ ap (λ (o : Option ℕ). fault_raised chip_m0 (execution m) m o b a) (unlisted_none b q);
        privilege = always m h;
        grouping = group_is_full m h;
        four = rw (h.core.bare tt).group;
        vectors = vectors m h;
        read_ed04 = read_ed04 m h;
        topmost = in_5_0 m.pending (top (stack m)) (top_small m h);
        bit_11 = not_11 m.pending (top (stack m)) (top_small m h);
        access = access m h;
      };
      unsound = λ m q e. rw q;
      demand3 = demand3 chip_m0 tt;
      bounds = bounded_m0;
      examples = cases_hold;
    }
