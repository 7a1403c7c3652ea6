-- Entry nests one that is below the execution priority, so not active and not nested yet; return takes the top off. Both keep the model sound.
use Prim.Native.Nat.{ℕ, zero, suc, pred, ◌<◌}
use mathlib.Core.Path.{◌≡◌, refl, sym, subst}
use mathlib.Core.Logic.{◌⊎◌, inl, inr}
use mathlib.Core.List.Memᴰ
use mathlib.Core.List.{◌∷◌, Memᴰ}
use mathlib.Core.Bool.{true, false}
use native.Mathlib.Omega.{arith}
use lib.ListN.{get_or, set}
use lib.Dec.{T, eqb}
use lib.Signed.{◌≤ℤ◌, ◌<ℤ◌, <ℤ-≤ℤ_trans, clash_ℤ}
use Rattle.flag_words.specs.Flags.{on}
use Rattle.std.specs.Prelude.{Some}
use Rattle.grouping.specs.Grouping.{kept_byte}
use Rattle.priority.specs.Priority.{execution_nested}
use Rattle.bools.specs.Tests.{and_false_of, by_cases}
use Rattle.priority.specs.Order.{Rising}
use Rattle.priority.specs.Laws.{Eligible, pending_best, execution_active, nested_execution}
use Rattle.rules.specs.declared.Chip.{Chip}
use Rattle.rules.specs.declared.Place.TheVariants.{Exception}
use Rattle.rules.specs.declared.Masks.{Masks}
use Rattle.rules.specs.Chip.{is_armv6m, flag_count, exception_count, exists}
use Rattle.rules.specs.Model.{Model, down, stack, top, with_active, with_nest, with_depth, with_masks}
use Rattle.rules.specs.Priorities.{group_number, execution}
use Rattle.rules.specs.Sound.{Nested, BareMasks, Sound}
use Rattle.rules.specs.Events.{pend}
use Rattle.rules.specs.Nesting.{chosen, entered, returned_masks, repended, returned}
use Rattle.demand3.specs.Demand3.{drop_top, SamePriorities}
use Rattle.rules.proofs.Laws.{line_stands}
use Rattle.demand3.proofs.Exceptions.{stands_below, few_exceptions}
use Rattle.demand3.proofs.Parts.{flags_set, down_length, down_push, down_top, down_pop, down_place, place_down, places_push, places_pop, nested_push, nested_pop}
use Rattle.demand3.proofs.Check.{depth_fits}
use Rattle.demand3.proofs.Quiet.{stay, pend_quiet, kept_core}

module _ {c : Chip} {m : Model} (h : Sound c m) where
  pub execution_below : (n : ℕ) → T (on m.active n) → execution m ≤ℤ group_number m n
  unfolding execution
  execution_below n t = execution_active m.core.group m.priority m.active m.core.masks.basepri m.core.masks.primask m.core.masks.faultmask n t

  -- the nest gives the execution priority
  pub execution_nest : execution_nested m.core.group m.priority m.nest m.core.depth m.core.masks.basepri m.core.masks.primask m.core.masks.faultmask ≡ execution m
  unfolding execution
  execution_nest =
      nested_execution m.core.group m.priority m.active m.nest m.core.depth m.core.masks.basepri m.core.masks.primask m.core.masks.faultmask
      (λ n t. down_place m.nest m.core.depth n (h.nested.stacked n t))
      (λ i l. h.nested.shown (get_or m.nest i 0) (place_down m.nest m.core.depth i l))

  -- ---- entry of n

  module _ (n : ℕ) (pends : T (on m.pending n)) (below : group_number m n <ℤ execution m) where
    pending_exists : T (exists c n)
    pending_exists = h.pending.only n pends

    pub idle : T (on m.active n) → ⊥
    idle t = clash_ℤ below (execution_below n t)

    pushed : Nested (set m.active n true) (n ∷ stack m)
    pushed =
        let l = stands_below c n Exception pending_exists in
        let e = h.active.size in
        nested_push m.active (stack m) n (omega arith) idle h.nested

    pub room : m.core.depth < exception_count c
    room =
        let f = few_exceptions c (n ∷ stack m) pushed.distinct member in
        let l = down_length m.nest m.core.depth in
        omega arith
      where
        split : (k : ℕ) → (k ≡ n) ⊎ Memᴰ k (stack m) → T (exists c k)
        split k (inl e) = subst (λ (j : ℕ). T (exists c j)) (sym e) pending_exists
        split k (inr i) = h.active.only k (h.nested.shown k i)

        member : (k : ℕ) → Memᴰ k (n ∷ stack m) → T (exists c k)
        member k i = split k (Memᴰ.cases_cons i)

    pub stack_entered : stack (entered n m) ≡ n ∷ stack m
    unfolding entered
    stack_entered = down_push m.nest m.core.depth n (let l = h.places.size in let r = room in omega arith)

    pub sound_entered : Sound c (entered n m)
    unfolding entered
    sound_entered =
        record {
          pending = flags_set c Exception m.pending n _ (λ _. pending_exists) h.pending;
          active = flags_set c Exception m.active n true (λ _. pending_exists) h.active;
          enabled = h.enabled;
          level = h.level;
          priority = h.priority;
          places = places_push c m.nest m.core.depth h.places n;
          nested = rw stack_entered pushed;
          lost = h.lost;
          core = kept_core h.core h.core.basepri (λ t. let b = (h.core.bare t).masks in record { faultmask = b.faultmask; basepri = b.basepri; npriv = b.npriv });
        }

    pub rising_entered : Rising (group_number m) (stack m) → Rising (group_number (entered n m)) (stack (entered n m))
    unfolding entered
    rising_entered r = subst (Rising (group_number m)) (sym stack_entered) (λ k i. <ℤ-≤ℤ_trans below (execution_below k (h.nested.shown k i)), r)

  -- ---- the one chosen

  pub chosen_able : (n : ℕ) → chosen m ≡ Some n → Eligible m.core.group m.priority m.pending m.enabled (execution m) n
  chosen_able n e = (pending_best m.core.group m.priority m.pending m.enabled (execution m) n e).able

  -- what the code needs to store it
  pub chosen_below : (n : ℕ) → chosen m ≡ Some n → (n < flag_count c) × (m.core.depth < exception_count c)
  chosen_below n e =
      let a = chosen_able n e in
      (stands_below c n Exception (pending_exists n a.pends a.below), room n a.pends a.below)

  -- ---- return

  pub top_active : 0 < m.core.depth → T (on m.active (top (stack m)))
  top_active l =
      h.nested.shown (top (stack m))
      (subst (Memᴰ (top (stack m))) (sym (down_top m.nest m.core.depth l)) (Memᴰ.head refl))

  pub top_below : 0 < m.core.depth → top (stack m) < flag_count c
  top_below l = stands_below c (top (stack m)) Exception (h.active.only (top (stack m)) (top_active l))

  -- m with its top taken off
  pub record Popped (t : Model) : Type 0 where
    pub sound : Sound c t
    pub stacked : stack t ≡ drop_top (stack m)
    pub same : SamePriorities m t

  popped : (k : Masks) (t : Model) → 0 < m.core.depth → kept_byte c.bits k.basepri ≡ k.basepri → (T (is_armv6m c) → BareMasks k) → Sound c t → SamePriorities m t
      → Popped (with_masks k (with_depth (pred m.core.depth) (with_nest (set m.nest (pred m.core.depth) 0) (with_active (set m.active (top (stack m)) false) t))))
  popped k t l b z s same =
      record {
        sound =
            record {
              pending = s.pending;
              active = flags_set c Exception m.active (top (stack m)) false (λ f. absurd f) h.active;
              enabled = s.enabled;
              level = s.level;
              priority = s.priority;
              places = places_pop c m.nest m.core.depth h.places l (depth_fits h);
              nested = subst (Nested (set m.active (top (stack m)) false)) (sym (down_pop m.nest m.core.depth)) rest;
              lost = s.lost;
              core = kept_core s.core b z;
            };
        stacked = down_pop m.nest m.core.depth;
        same = record { priority = same.priority; group = same.group };
      }
    where
      rest : Nested (set m.active (top (stack m)) false) (drop_top (stack m))
      rest = go m.core.depth l h.nested
        where
          go : (d : ℕ) → 0 < d → Nested m.active (down m.nest d) → Nested (set m.active (top (down m.nest d)) false) (drop_top (down m.nest d))
          go zero p q = absurd (omega arith)
          go (suc d) p q = nested_pop m.active (get_or m.nest d 0) (down m.nest d) q

  pub returned_popped : (v : ℕ) → 0 < m.core.depth → Popped (returned v m)
  unfolding returned repended returned_masks
  returned_popped v l =
      by_cases (λ t. Popped (with_masks (returned_masks (top (stack m)) v m.core.masks) (with_depth (pred m.core.depth) (with_nest (set m.nest (pred m.core.depth) 0) (with_active (set m.active (top (stack m)) false) t)))))
      (on m.level (top (stack m)))
      (λ t. popped (returned_masks (top (stack m)) v m.core.masks) (pend (top (stack m)) m) l h.core.basepri after (pend_quiet (stay h) (top (stack m)) (line_stands c (top (stack m)) Exception (h.level.only (top (stack m)) t))).sound (record { priority = refl; group = refl }))
      (λ _. popped (returned_masks (top (stack m)) v m.core.masks) m l h.core.basepri after h (record { priority = refl; group = refl }))
    where
      -- FAULTMASK is clear, whether the return clears it or not
      after : T (is_armv6m c) → BareMasks (returned_masks (top (stack m)) v m.core.masks)
      after t = let b = (h.core.bare t).masks in record { faultmask = and_false_of (eqb (top (stack m)) 2) m.core.masks.faultmask b.faultmask; basepri = b.basepri; npriv = b.npriv }
