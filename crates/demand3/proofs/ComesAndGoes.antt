-- Return clears the places that entry set, and they were clear before; FAULTMASK is set only where NMI was entered, and NMI leaves it.
use Prim.Native.Nat.{ℕ, zero, suc}
use mathlib.Core.Path.{◌≡◌, refl, sym, ap, subst, ◌∙◌}
use mathlib.Core.List.{List}
use mathlib.Core.Bool.{Bool, true, false, cond, ◌&&◌}
use native.Mathlib.Nat.{le_refl}
use native.Mathlib.Omega.{arith}
use lib.ListN.{get_or, set}
use lib.Seq.{set-set, set-get_or, get_or-set_same}
use lib.Dec.{T, ltb, eqb}
use lib.IntN.{negsuc}
use lib.Signed.{◌<ℤ◌, <ℤ-≤ℤ_trans}
use borrow.Author.Tests.{lt-ltb, ne_eqb}
use Rattle.bools.specs.Tests.{false_is, and_needed, by_cases}
use Rattle.flag_words.specs.Flags.{on}
use Rattle.grouping.specs.Grouping.{grouped, group_priority}
use Rattle.std.specs.Prelude.{Option, Some, None}
use Rattle.priority.specs.Laws.{execution_least, by_faultmask}
use Rattle.script.specs.declared.Event.{Event}
use Rattle.script.specs.declared.Event.TheVariants.{Entry, Return}
use Rattle.rules.specs.declared.Chip.{Chip}
use Rattle.rules.specs.Chip.{fits}
use Rattle.rules.specs.Model.{Model, Answer, done, stack, top}
use Rattle.rules.specs.Priorities.{group_number, execution}
use Rattle.rules.specs.Sound.{Sound}
use Rattle.rules.specs.Nesting.{chosen, link_of, entered, enter, entry_at, link_fits, returned_masks, repended, returned, return_call}
use Rattle.rules.specs.Step.{admitted, step_of}
use Rattle.demand3.specs.Demand3.{call}
use Rattle.demand3.specs.ComesAndGoes.{came_and_went, ComesAndGoes}
use Rattle.demand3.proofs.Check.{step_sound}
use Rattle.demand3.proofs.Parts.{down_set}
use Rattle.demand3.proofs.Nesting.{idle, room, chosen_able, sound_entered}

-- a place that was clear, set and cleared
cleared {ℓ} : {A : Type ℓ} (l : List A) (i : ℕ) (x clear : A) → get_or l i clear ≡ clear → set (set l i x) i clear ≡ l
cleared l i x clear e = set-set l i x clear ∙ ap (set l i) (sym e) ∙ set-get_or l i clear

-- ---- the link value that an entry answers, where d are nested

abbrev link : ℕ → Bool → ℕ
link d spsel = cond (ltb 0 d) 0xFFFFFFF1 (cond spsel 0xFFFFFFFD 0xFFFFFFF9)

link_fits_lem : (d : ℕ) (spsel : Bool) → link_fits (suc d) (link d spsel) ≡ true
unfolding link_fits
link_fits_lem zero true = refl
link_fits_lem zero false = refl
link_fits_lem (suc d) spsel = simp (lt-ltb 0 (suc d) (omega arith), lt-ltb 1 (suc (suc d)) (omega arith))

-- CONTROL bit 1 by it
spsel_back : (d : ℕ) (spsel : Bool) → cond (eqb (link d spsel) 0xFFFFFFF1) false (eqb (link d spsel) 0xFFFFFFFD) ≡ eqb d 0 && spsel
spsel_back zero true = refl
spsel_back zero false = refl
spsel_back (suc d) spsel = simp (lt-ltb 0 (suc d) (omega arith), ne_eqb (suc d) 0 (omega arith))

-- ---- "Fixed priorities: NMI -2, HardFault -1": only NMI is below -1

only_nmi : (p : ℕ) (bytes : List ℕ) (n : ℕ) → group_priority p bytes n <ℤ negsuc 0 → T (eqb n 2)
only_nmi p bytes n =
    by_cases (λ z. grouped p z <ℤ negsuc 0 → T (eqb n 2)) (eqb n 2) (λ t _. t)
    (λ _. by_cases (λ z. grouped p z <ℤ negsuc 0 → T (eqb n 2)) (eqb n 3) (λ _ l. absurd l.lt) (λ _ l. absurd l.lt))

-- ---- n entered and left

module _ {c : Chip} {m : Model} (h : Sound c m) (n : ℕ) (pends : T (on m.pending n)) (below : group_number m n <ℤ execution m) where
  faultmask_back : eqb n 2 && m.core.masks.faultmask ≡ m.core.masks.faultmask
  unfolding execution
  faultmask_back =
      and_needed (eqb n 2) m.core.masks.faultmask
      (λ t. only_nmi m.core.group m.priority n
      (<ℤ-≤ℤ_trans below
      ((execution_least m.core.group m.priority m.active m.core.masks.basepri m.core.masks.primask m.core.masks.faultmask).most (negsuc 0) (by_faultmask t refl))))

  top_entered : get_or (set m.nest m.core.depth n) m.core.depth 0 ≡ n
  top_entered = get_or-set_same m.nest m.core.depth n 0 (let l = h.places.size in let r = room h n pends below in omega arith)

  nest_back : set (set m.nest m.core.depth n) m.core.depth 0 ≡ m.nest
  nest_back = cleared m.nest m.core.depth n 0 (h.places.unused m.core.depth (le_refl m.core.depth))

  active_back : set (set m.active n true) n false ≡ m.active
  active_back = cleared m.active n true false (false_is (on m.active n) (idle h n pends below))

  returned_back : (high : Bool) → on m.level n ≡ high → returned (link_of m.core) (entered n m) ≡ came_and_went n m
  unfolding entered returned repended returned_masks
  returned_back true e =
      simp (top_entered, e, set-set m.pending n false true, nest_back, active_back, faultmask_back, spsel_back m.core.depth m.core.masks.spsel)
  returned_back false e =
      simp (top_entered, e, nest_back, active_back, faultmask_back, spsel_back m.core.depth m.core.masks.spsel)

  return_back : return_call (entered n m) (link_of m.core) ≡ done (top (stack m)) (came_and_went n m)
  unfolding return_call entered
  return_back =
      rw (link_fits_lem m.core.depth m.core.masks.spsel, down_set m.nest m.core.depth n m.core.depth (le_refl m.core.depth))
      (ap (done (top (stack m))) (returned_back (on m.level n) refl))

-- ---- what entry answers, and the return on what it left

came : {c : Chip} {m : Model} → T (fits c) → Sound c m → (o : Option ℕ) → chosen m ≡ o → (enter m o).refusal ≡ 0
    → step_of c (enter m o).next (Return (enter m o).link) ≡ done (top (stack m)) (came_and_went (enter m o).value m)
came f h None e accepted = absurd (omega arith)
came {m = m} f h (Some n) e accepted =
    let a = chosen_able h n e in
    step_sound f (sound_entered h n a.pends a.below) (Return (link_of m.core)) ∙ return_back h n a.pends a.below

-- what is accepted is on a chip that fits
accepted_fits : (c : Chip) (m : Model) (e : Event) → (step_of c m e).refusal ≡ 0 → T (fits c)
unfolding admitted
accepted_fits c m e = by_cases (λ (a : Answer). a.refusal ≡ 0 → T (fits c)) (fits c) (λ f _. f) (λ _ q. let z : ⊥ = omega arith in absurd z)

pub comes_and_goes : (c : Chip) → ComesAndGoes c
unfolding entry_at execution
comes_and_goes c m t a b h (call p (call q _)) accepted =
    record { back = back; priority = ap (λ (x : Answer). execution x.next) back }
  where
    f : T (fits c)
    f = accepted_fits c m Entry (subst (λ (x : Answer). x.refusal ≡ 0) p accepted)

    back : b ≡ done (top (stack m)) (came_and_went a.value m)
    back =
        q
        ∙ subst (λ (x : Answer). x.refusal ≡ 0 → step_of c x.next (Return x.link) ≡ done (top (stack m)) (came_and_went x.value m))
        (sym (p ∙ step_sound f h Entry)) (came f h (chosen m) refl) accepted
