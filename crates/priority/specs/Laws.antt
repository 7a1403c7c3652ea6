-- The execution priority is the least of what document 01 lists: one of those numbers, and at most each; the nest gives the same number. Of the eligible ones `best` answers the first by full priority, then number.
use Prim.Native.Nat.{ℕ, zero, suc, ◌≤◌, ◌<◌}
use Rattle.std.specs.Prelude.{◌≡◌, refl, ◌≢◌, ◌⊎◌, ◌↔◌, List, Bool, false, not, ◌&&◌, length, eqb, ℤ, pos, negsuc, ◌≤ℤ◌, ◌<ℤ◌, Option, Some, None}
use Rattle.std.proofs.Math.Path.{sym, ap, subst}
use Rattle.std.proofs.Common.{◌∙◌, eqb→eq, le→leb}
use Rattle.std.proofs.Math.Logic.{inl, inr}
use Rattle.std.proofs.Math.Bool.{true}
use Rattle.std.proofs.Math.Nat.{le_refl, not-suc-le-zero}
use native.Mathlib.Omega.{arith}
use Rattle.std.proofs.Math.ListN.{get_or}
use Rattle.std.proofs.Math.Dec.{T, eqb_refl, T_not, not_T}
use Rattle.std.specs.Int.Signed.{lt_z, le_z_yes, lt_z_yes, lt_z_no, ≤ℤ_refl, <ℤ-≤ℤ_trans, <ℤ_irrefl}
use Rattle.grouping.specs.Grouping.{group_of, grouped, full_priority, group_priority}
use Rattle.grouping.specs.Laws.{group_rises}
use Rattle.priority.specs.Priority.{under, masked, least_active, execution_priority, least_nested, execution_nested, is_enabled, eligible, better, best, best_pending}
use Rattle.bools.specs.Tests.{is_true, is_false, both, join, by_cases}
use Rattle.bools.specs.Every.{below_suc}
use Rattle.priority.specs.Order.{flag_below, ≤ℤ-trans, <ℤ-≤ℤ, <ℤ-or-≡, Least, least_unique, least_same, With, least_under}

-- no group number is below -2
pub group_lowest : (p : ℕ) (bytes : List ℕ) (n : ℕ) → negsuc 1 ≤ℤ group_priority p bytes n
group_lowest p bytes n =
    by_cases (λ z. negsuc 1 ≤ℤ grouped p z) (eqb n 2) (λ _. le_z_yes tt)
    (λ _. by_cases (λ z. negsuc 1 ≤ℤ grouped p z) (eqb n 3) (λ _. le_z_yes tt) (λ _. le_z_yes tt))

-- ---- the least of 256 and the group numbers of some exceptions

module _ (p : ℕ) (bytes : List ℕ) where
  data Among (Such : ℕ → Type 0) (z : ℤ) : Type 0 where
    none : z ≡ pos 256 → Among Such z
    some : (n : ℕ) → Such n → z ≡ group_priority p bytes n → Among Such z

  -- one more, where `on` holds
  among_under : {Few Such : ℕ → Type 0} (on : Bool) (m : ℕ) (b : ℤ) → (T on → Such m) → ((n : ℕ) → Few n → Such n) → ((n : ℕ) → Such n → (T on × (n ≡ m)) ⊎ Few n) → Least (Among Few) b → Least (Among Such) (under on (group_priority p bytes m) b)
  among_under {Few} {Such} on m b new old split h = least_same _ to from (least_under (Among Few) on (group_priority p bytes m) b h)
    where
      to : (z : ℤ) → (T on × (z ≡ group_priority p bytes m)) ⊎ Among Few z → Among Such z
      to z (inl q) = some m (new q.0) q.1
      to z (inr (none e)) = none e
      to z (inr (some n f e)) = some n (old n f) e

      from : (z : ℤ) → Among Such z → (T on × (z ≡ group_priority p bytes m)) ⊎ Among Few z
      from z (none e) = inr (none e)
      from z (some n s e) = go (split n s)
        where
          go : (T on × (n ≡ m)) ⊎ Few n → (T on × (z ≡ group_priority p bytes m)) ⊎ Among Few z
          go (inl q) = inl (q.0, e ∙ ap (group_priority p bytes) q.1)
          go (inr f) = inr (some n f e)

  among_none : {Such : ℕ → Type 0} → ((n : ℕ) → Such n → ⊥) → Least (Among Such) (pos 256)
  among_none {Such} empty = record { one = none refl; most = each }
    where
      each : (z : ℤ) → Among Such z → pos 256 ≤ℤ z
      each z (none e) = subst (λ y. pos 256 ≤ℤ y) (sym e) (≤ℤ_refl (pos 256))
      each z (some n s e) = absurd (empty n s)

  abbrev ActiveBelow : List Bool → ℕ → ℕ → Type 0
  ActiveBelow active k n = (n < k) × T (get_or active n false)

  active_least : (active : List Bool) (k : ℕ) → Least (Among (ActiveBelow active k)) (least_active p bytes active k)
  unfolding least_active
  active_least active zero = among_none (λ n s. not-suc-le-zero s.0)
  active_least active (suc k) =
      among_under (get_or active k false) k (least_active p bytes active k)
      (λ t. (le_refl (suc k), t))
      (λ n s. (let l = s.0 in omega arith, s.1))
      (λ n s. below_suc n k s.0 (λ e. inl (subst (λ m. T (get_or active m false)) e s.1, e)) (λ l. inr (l, s.1)))
      (active_least active k)

  abbrev pub NestedBelow : List ℕ → ℕ → ℕ → Type 0
  NestedBelow nest k n = (i : ℕ) × (i < k) × (get_or nest i 0 ≡ n)

  nested_least : (nest : List ℕ) (k : ℕ) → Least (Among (NestedBelow nest k)) (least_nested p bytes nest k)
  unfolding least_nested
  nested_least nest zero = among_none (λ n s. not-suc-le-zero s.1)
  nested_least nest (suc k) =
      among_under true (get_or nest k 0) (least_nested p bytes nest k)
      (λ t. (k, le_refl (suc k), refl))
      (λ n s. (s.0, let l = s.1 in omega arith, s.2))
      (λ n s. below_suc s.0 k s.1 (λ e. inl (tt, sym s.2 ∙ ap (λ (i : ℕ). get_or nest i 0) e)) (λ l. inr (s.0, l, s.2)))
      (nested_least nest k)

  -- where the first `depth` of the nest are the active ones, the nest gives the execution priority
  pub nested_execution : (active : List Bool) (nest : List ℕ) (depth basepri : ℕ) (primask faultmask : Bool)
      → ((n : ℕ) → T (get_or active n false) → NestedBelow nest depth n)
      → ((i : ℕ) → i < depth → T (get_or active (get_or nest i 0) false))
      → execution_nested p bytes nest depth basepri primask faultmask ≡ execution_priority p bytes active basepri primask faultmask
  unfolding execution_nested execution_priority
  nested_execution active nest depth basepri primask faultmask stacked shown =
      ap (masked p basepri primask faultmask) (least_unique (least_same _ to from (nested_least nest depth)) (active_least active (length active)))
    where
      flagged : (n : ℕ) → NestedBelow nest depth n → T (get_or active n false)
      flagged n s = subst (λ m. T (get_or active m false)) s.2 (shown s.0 s.1)

      to : (z : ℤ) → Among (NestedBelow nest depth) z → Among (ActiveBelow active (length active)) z
      to z (none e) = none e
      to z (some n s e) = some n (flag_below active n (flagged n s), flagged n s) e

      from : (z : ℤ) → Among (ActiveBelow active (length active)) z → Among (NestedBelow nest depth) z
      from z (none e) = none e
      from z (some n s e) = some n (stacked n s.1) e

  -- ---- the execution priority

  module _ (active : List Bool) (basepri : ℕ) (primask faultmask : Bool) where
    -- "the least of: 256; the group numbers of all active exceptions; the group number of BASEPRI if BASEPRI is not 0; 0 if PRIMASK; -1 if FAULTMASK"
    pub data Listed (z : ℤ) : Type 0 where
      idle : z ≡ pos 256 → Listed z
      running : (n : ℕ) → T (get_or active n false) → z ≡ group_priority p bytes n → Listed z
      by_basepri : basepri ≢ 0 → z ≡ pos (group_of p basepri) → Listed z
      by_primask : T primask → z ≡ pos 0 → Listed z
      by_faultmask : T faultmask → z ≡ negsuc 0 → Listed z

    pub execution_least : Least Listed (execution_priority p bytes active basepri primask faultmask)
    unfolding execution_priority
    execution_least =
        least_same _ to from
        (least_under _ faultmask (negsuc 0) _
        (least_under _ primask (pos 0) _
        (least_under _ (not (eqb basepri 0)) (pos (group_of p basepri)) _
        (active_least active (length active)))))
      where
        nonzero : T (not (eqb basepri 0)) → basepri ≢ 0
        nonzero t e = T_not (eqb basepri 0) t (rw e tt)

        to : (z : ℤ) → With faultmask (negsuc 0) (With primask (pos 0) (With (not (eqb basepri 0)) (pos (group_of p basepri)) (Among (ActiveBelow active (length active))))) z → Listed z
        to z (inl q) = by_faultmask q.0 q.1
        to z (inr (inl q)) = by_primask q.0 q.1
        to z (inr (inr (inl q))) = by_basepri (nonzero q.0) q.1
        to z (inr (inr (inr (none e)))) = idle e
        to z (inr (inr (inr (some n s e)))) = running n s.1 e

        from : (z : ℤ) → Listed z → With faultmask (negsuc 0) (With primask (pos 0) (With (not (eqb basepri 0)) (pos (group_of p basepri)) (Among (ActiveBelow active (length active))))) z
        from z (idle e) = inr (inr (inr (none e)))
        from z (running n t e) = inr (inr (inr (some n (flag_below active n t, t) e)))
        from z (by_basepri ne e) = inr (inr (inl (not_T (eqb basepri 0) (λ t. ne (eqb→eq basepri 0 t)), e)))
        from z (by_primask t e) = inr (inl (t, e))
        from z (by_faultmask t e) = inl (t, e)

    pub execution_active : (n : ℕ) → T (get_or active n false) → execution_priority p bytes active basepri primask faultmask ≤ℤ group_priority p bytes n
    execution_active n t = execution_least.most (group_priority p bytes n) (running n t refl)

    pub execution_most : execution_priority p bytes active basepri primask faultmask ≤ℤ pos 256
    execution_most = execution_least.most (pos 256) (idle refl)

    pub execution_lowest : negsuc 1 ≤ℤ execution_priority p bytes active basepri primask faultmask
    execution_lowest = go execution_least.one
      where
        go : {z : ℤ} → Listed z → negsuc 1 ≤ℤ z
        go (idle e) = rw e (le_z_yes tt)
        go (running n t e) = rw e (group_lowest p bytes n)
        go (by_basepri ne e) = rw e (le_z_yes tt)
        go (by_primask t e) = rw e (le_z_yes tt)
        go (by_faultmask t e) = rw e (le_z_yes tt)

  -- PRIMASK and FAULTMASK set where they were, and BASEPRI, where it was not 0, neither 0 nor greater: the execution priority is no greater
  pub more_masks : (active : List Bool) (basepri basepri' : ℕ) (primask primask' faultmask faultmask' : Bool) → (T primask → T primask') → (T faultmask → T faultmask') → (basepri ≢ 0 → (basepri' ≢ 0) × (basepri' ≤ basepri)) → execution_priority p bytes active basepri' primask' faultmask' ≤ℤ execution_priority p bytes active basepri primask faultmask
  more_masks active basepri basepri' primask primask' faultmask faultmask' pm fm bp = go (execution_least active basepri primask faultmask).one
    where
      most : (z : ℤ) → Listed active basepri' primask' faultmask' z → execution_priority p bytes active basepri' primask' faultmask' ≤ℤ z
      most = (execution_least active basepri' primask' faultmask').most

      go : {z : ℤ} → Listed active basepri primask faultmask z → execution_priority p bytes active basepri' primask' faultmask' ≤ℤ z
      go {z} (idle e) = most z (idle e)
      go {z} (running n t e) = most z (running n t e)
      go (by_basepri ne e) =
          let l = bp ne in
          rw e (≤ℤ-trans (most (pos (group_of p basepri')) (by_basepri l.0 refl)) (le_z_yes (le→leb (group_of p basepri') (group_of p basepri) (group_rises p basepri' basepri l.1))))
      go {z} (by_primask t e) = most z (by_primask (pm t) e)
      go {z} (by_faultmask t e) = most z (by_faultmask (fm t) e)

-- ---- the search for the best

-- n comes before m: "of least full priority, then least number"
abbrev pub Ahead : (ℕ → ℤ) → ℕ → ℕ → Type 0
Ahead key n m = (key n <ℤ key m) ⊎ ((key m ≡ key n) × (n < m))

-- n is the best of the numbers below k that pass the test
pub record IsBest (test : ℕ → Bool) (key : ℕ → ℤ) (k n : ℕ) : Type 0 where
  pub below : n < k
  pub passes : T (test n)
  pub first : (m : ℕ) → m < k → T (test m) → m ≢ n → Ahead key n m

abbrev pub Finds : (ℕ → Bool) → (ℕ → ℤ) → ℕ → Option ℕ → Type 0
Finds test key k None = (m : ℕ) → m < k → T (test m) → ⊥
Finds test key k (Some n) = IsBest test key k n

module _ (test : ℕ → Bool) (key : ℕ → ℤ) where
  step_none : (k : ℕ) (t : Bool) → test k ≡ t → Finds test key k None → Finds test key (suc k) (better t key k None)
  step_none k true e h = record { below = le_refl (suc k); passes = is_true e; first = λ m l p ne. below_suc m k l (λ q. absurd (ne q)) (λ l'. absurd (h m l' p)) }
  step_none k false e h = λ m l p. below_suc m k l (λ q. is_false e (subst (λ x. T (test x)) q p)) (λ l'. h m l' p)

  keep_old : (k n : ℕ) → IsBest test key k n → (T (test k) → key n ≤ℤ key k) → IsBest test key (suc k) n
  keep_old k n h o =
      record { below = let l = h.below in omega arith; passes = h.passes; first = λ m l p ne. below_suc m k l (λ q. later m q p) (λ l'. h.first m l' p ne) }
    where
      split : (m : ℕ) → m ≡ k → (key n <ℤ key k) ⊎ (key k ≡ key n) → Ahead key n m
      split m q (inl l) = inl (subst (λ x. key n <ℤ key x) (sym q) l)
      split m q (inr e) = inr (ap key q ∙ e, let l = h.below in omega arith)

      later : (m : ℕ) → m ≡ k → T (test m) → Ahead key n m
      later m q p = split m q (<ℤ-or-≡ (o (subst (λ x. T (test x)) q p)))

  take_new : (k n : ℕ) → IsBest test key k n → T (test k) → key k <ℤ key n → IsBest test key (suc k) k
  take_new k n h p l =
      record { below = le_refl (suc k); passes = p; first = λ m b q ne. below_suc m k b (λ e. absurd (ne e)) (λ b'. inl (older m b' q)) }
    where
      through : (m : ℕ) → Ahead key n m → key k <ℤ key m
      through m (inl g) = <ℤ-≤ℤ_trans l (<ℤ-≤ℤ g)
      through m (inr e) = subst (λ z. key k <ℤ z) (sym e.0) l

      older : (m : ℕ) → m < k → T (test m) → key k <ℤ key m
      older m b q = pick (eqb m n) refl
        where
          pick : (t : Bool) → eqb m n ≡ t → key k <ℤ key m
          pick true e = subst (λ x. key k <ℤ key x) (sym (eqb→eq m n (is_true e))) l
          pick false e = through m (h.first m b q (λ e'. is_false e (subst (λ x. T (eqb m x)) e' (eqb_refl m))))

  step_some : (k n : ℕ) (t : Bool) → test k ≡ t → IsBest test key k n → Finds test key (suc k) (better t key k (Some n))
  step_some k n false e h = keep_old k n h (λ p. absurd (is_false e p))
  step_some k n true e h = by_cases (λ o. Finds test key (suc k) o) (lt_z (key k) (key n)) (λ l. take_new k n h (is_true e) (lt_z_yes l)) (λ l. keep_old k n h (λ p. lt_z_no l))

  step_best : (k : ℕ) (o : Option ℕ) → Finds test key k o → Finds test key (suc k) (better (test k) key k o)
  step_best k None h = step_none k (test k) refl h
  step_best k (Some n) h = step_some k n (test k) refl h

  pub best_finds : (k : ℕ) → Finds test key k (best test key k)
  unfolding best
  best_finds zero = λ m l p. absurd (not-suc-le-zero l)
  best_finds (suc k) = step_best k (best test key k) (best_finds k)

-- another search with such an outcome finds the same
pub finds_unique : (test : ℕ → Bool) (key : ℕ → ℤ) (k : ℕ) (o p : Option ℕ) → Finds test key k o → Finds test key k p → o ≡ p
finds_unique test key k None None h g = refl
finds_unique test key k None (Some m) h g = absurd (h m g.below g.passes)
finds_unique test key k (Some n) None h g = absurd (g n h.below h.passes)
finds_unique test key k (Some n) (Some m) h g = ap Some (go (eqb n m) refl)
  where
    clash : Ahead key n m → Ahead key m n → n ≡ m
    clash (inl a) (inl b) = absurd (<ℤ_irrefl (<ℤ-≤ℤ_trans a (<ℤ-≤ℤ b)))
    clash (inl a) (inr b) = absurd (<ℤ_irrefl (subst (λ z. z <ℤ key m) b.0 a))
    clash (inr a) (inl b) = absurd (<ℤ_irrefl (subst (λ z. z <ℤ key n) a.0 b))
    clash (inr a) (inr b) = omega arith

    go : (t : Bool) → eqb n m ≡ t → n ≡ m
    go true e = eqb→eq n m (is_true e)
    go false e =
        let ne : n ≢ m = λ q. is_false e (subst (λ x. T (eqb n x)) q (eqb_refl n)) in
        clash (h.first m g.below g.passes (λ q. ne (sym q))) (g.first n h.below h.passes ne)

-- ---- the one to enter

module _ (p : ℕ) (bytes : List ℕ) (pending enabled : List Bool) (limit : ℤ) where
  pub record Eligible (n : ℕ) : Type 0 where
    pub pends : T (get_or pending n false)
    pub enables : T (is_enabled enabled n)
    pub below : group_priority p bytes n <ℤ limit

  pub eligible_parts : (n : ℕ) → T (eligible p bytes pending enabled limit n) → Eligible n
  eligible_parts n t =
      let u = both (get_or pending n false && is_enabled enabled n) (lt_z (group_priority p bytes n) limit) t in
      let v = both (get_or pending n false) (is_enabled enabled n) u.0 in
      record { pends = v.0; enables = v.1; below = lt_z_yes u.1 }

  pub eligible_whole : (n : ℕ) → Eligible n → T (eligible p bytes pending enabled limit n)
  eligible_whole n h =
      join (get_or pending n false && is_enabled enabled n) (lt_z (group_priority p bytes n) limit)
      (join (get_or pending n false) (is_enabled enabled n) h.pends h.enables) h.below.lt

  -- the best of all eligible ones
  pub record Best (n : ℕ) : Type 0 where
    pub able : Eligible n
    pub first : (m : ℕ) → Eligible m → m ≢ n → Ahead (full_priority bytes) n m

  pub pending_finds : Finds (eligible p bytes pending enabled limit) (full_priority bytes) (length pending) (best_pending p bytes pending enabled limit)
  unfolding best_pending
  pending_finds = best_finds (eligible p bytes pending enabled limit) (full_priority bytes) (length pending)

  pub pending_best : (n : ℕ) → best_pending p bytes pending enabled limit ≡ Some n → Best n
  pending_best n e =
      let h : IsBest (eligible p bytes pending enabled limit) (full_priority bytes) (length pending) n = subst (Finds (eligible p bytes pending enabled limit) (full_priority bytes) (length pending)) e pending_finds in
      record { able = eligible_parts n h.passes; first = λ m a. h.first m (flag_below pending m a.pends) (eligible_whole m a) }

  -- nothing is answered exactly when nothing is eligible
  pub pending_nothing : (best_pending p bytes pending enabled limit ≡ None) ↔ ((n : ℕ) → Eligible n → ⊥)
  pending_nothing = (to, from (best_pending p bytes pending enabled limit) pending_finds)
    where
      to : best_pending p bytes pending enabled limit ≡ None → (n : ℕ) → Eligible n → ⊥
      to e n a = subst (Finds (eligible p bytes pending enabled limit) (full_priority bytes) (length pending)) e pending_finds n (flag_below pending n a.pends) (eligible_whole n a)

      from : (o : Option ℕ) → Finds (eligible p bytes pending enabled limit) (full_priority bytes) (length pending) o → ((n : ℕ) → Eligible n → ⊥) → o ≡ None
      from None h empty = refl
      from (Some n) h empty = absurd (empty n (eligible_parts n h.passes))
