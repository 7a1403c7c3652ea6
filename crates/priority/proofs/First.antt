-- The choice of "Entry" in two steps: the first of all pending, enabled exceptions, whatever the execution priority, and then whether that one's
-- group number is below it. No other needs to be asked: the others come after the first, so their group numbers are no lower.
use Rattle.std.specs.Prelude.{ℕ, ◌<◌, ◌≡◌, refl, ◌⊎◌, List, Bool, true, false, length, T, eqb, ℤ, ◌≤ℤ◌, Option, Some, None}
use Rattle.std.proofs.Common.{sym, subst, inl, inr, eqb→eq}
use Rattle.std.specs.Int.Signed.{lt_z, lt_z_yes, lt_z_no, ≤ℤ_refl, <ℤ-≤ℤ_trans, clash_ℤ}
use Rattle.grouping.specs.Grouping.{grouped, full_priority, group_priority}
use Rattle.grouping.specs.Laws.{grouped_rises}
use Rattle.bools.specs.Tests.{is_true, is_false, same, both, join, by_cases}
use Rattle.priority.specs.Priority.{eligible, best_pending}
use Rattle.priority.specs.Order.{<ℤ-≤ℤ}
use Rattle.priority.specs.Laws.{Ahead, IsBest, Finds, best_finds, finds_unique, pending_finds}
use Rattle.priority.specs.First.{is_ready, first_ready, if_below}

-- ---- the two steps find what the search among the eligible ones finds

-- one that comes after another has no lower group number
ahead_rises : (p : ℕ) (bytes : List ℕ) (n m : ℕ) → Ahead (full_priority bytes) n m → group_priority p bytes n ≤ℤ group_priority p bytes m
ahead_rises p bytes n m (inl l) = grouped_rises p (full_priority bytes n) (full_priority bytes m) (<ℤ-≤ℤ l)
ahead_rises p bytes n m (inr e) = subst (λ z. group_priority p bytes n ≤ℤ grouped p z) (sym e.0) (≤ℤ_refl (group_priority p bytes n))

module _ (p : ℕ) (bytes : List ℕ) (pending enabled : List Bool) (limit : ℤ) where
  abbrev Finding : Option ℕ → Type 0
  Finding = Finds (eligible p bytes pending enabled limit) (full_priority bytes) (length pending)

  abbrev First : ℕ → Type 0
  First = IsBest (is_ready pending enabled) (full_priority bytes) (length pending)

  ready_of : (m : ℕ) → T (eligible p bytes pending enabled limit m) → T (is_ready pending enabled m) × T (lt_z (group_priority p bytes m) limit)
  ready_of m = both (is_ready pending enabled m) (lt_z (group_priority p bytes m) limit)

  -- the first, where it is eligible
  taken : (n : ℕ) → First n → T (lt_z (group_priority p bytes n) limit) → Finding (Some n)
  taken n h t =
      record { below = h.below; passes = join (is_ready pending enabled n) (lt_z (group_priority p bytes n) limit) h.passes t; first = λ m l e. h.first m l (ready_of m e).0 }

  -- the first's group number is no higher than that of any other
  no_higher : (n : ℕ) → First n → (m : ℕ) → m < length pending → T (is_ready pending enabled m) → group_priority p bytes n ≤ℤ group_priority p bytes m
  no_higher n h m l r = go (eqb m n) refl
    where
      go : (b : Bool) → eqb m n ≡ b → group_priority p bytes n ≤ℤ group_priority p bytes m
      go true e = subst (λ (k : ℕ). group_priority p bytes k ≤ℤ group_priority p bytes m) (eqb→eq m n (is_true e)) (≤ℤ_refl (group_priority p bytes m))
      go false e = ahead_rises p bytes n m (h.first m l r (λ q. is_false e (same m n q)))

  held : (n : ℕ) → First n → limit ≤ℤ group_priority p bytes n → Finding None
  held n h l m b e = let r = ready_of m e in clash_ℤ (<ℤ-≤ℤ_trans (lt_z_yes r.1) l) (no_higher n h m b r.0)

  decided : (f : Option ℕ) → Finds (is_ready pending enabled) (full_priority bytes) (length pending) f → Finding (if_below p bytes limit f)
  decided None h = λ m l e. h m l (ready_of m e).0
  decided (Some n) h = by_cases Finding (lt_z (group_priority p bytes n) limit) (λ t. taken n h t) (λ t. held n h (lt_z_no t))

  -- the one entered is the first if its group number is below the execution priority, nothing otherwise
  pub first_decides : best_pending p bytes pending enabled limit ≡ if_below p bytes limit (first_ready bytes pending enabled)
  unfolding first_ready
  first_decides =
      finds_unique (eligible p bytes pending enabled limit) (full_priority bytes) (length pending) _ _ (pending_finds p bytes pending enabled limit)
      (decided (first_ready bytes pending enabled) (best_finds (is_ready pending enabled) (full_priority bytes) (length pending)))

-- ---- at a lower limit the same one is found, or nothing

below_lower : (p : ℕ) (bytes : List ℕ) {low high : ℤ} → low ≤ℤ high → (f : Option ℕ) → (if_below p bytes low f ≡ if_below p bytes high f) ⊎ (if_below p bytes low f ≡ None)
below_lower p bytes l None = inl refl
below_lower p bytes {low} {high} l (Some n) =
    by_cases (λ (f : Option ℕ). (f ≡ if_below p bytes high (Some n)) ⊎ (f ≡ None)) (lt_z (group_priority p bytes n) low)
    (λ t. inl (by_cases (λ (f : Option ℕ). Some n ≡ f) (lt_z (group_priority p bytes n) high) (λ _. refl) (λ u. absurd (clash_ℤ {a = group_priority p bytes n} {b = high} (<ℤ-≤ℤ_trans (lt_z_yes t) l) (lt_z_no u)))))
    (λ _. inr refl)

pub lower_limit : (p : ℕ) (bytes : List ℕ) (pending enabled : List Bool) {low high : ℤ} → low ≤ℤ high → (best_pending p bytes pending enabled low ≡ best_pending p bytes pending enabled high) ⊎ (best_pending p bytes pending enabled low ≡ None)
lower_limit p bytes pending enabled {low} {high} l =
    rw (first_decides p bytes pending enabled low, first_decides p bytes pending enabled high) (below_lower p bytes l (first_ready bytes pending enabled))
