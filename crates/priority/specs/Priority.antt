-- Document 01, "Priorities" and the choice of "Entry": the execution priority and the one to enter, over any number of exceptions.
use Rattle.std.specs.Prelude.{ℕ, zero, suc, List, Bool, false, not, cond, ◌&&◌, ◌||◌, length, get_or, eqb, ℤ, pos, negsuc, Option, Some, None}
use Rattle.std.specs.Int.Signed.{lt_z}
use Rattle.grouping.specs.Grouping.{group_of, full_priority, group_priority}

-- ---- the execution priority

abbrev pub lesser : ℤ → ℤ → ℤ
lesser a b = cond (lt_z a b) a b

-- the lesser of b and, where `on` holds, a
abbrev pub under : Bool → ℤ → ℤ → ℤ
under on a b = cond on (lesser a b) b

-- "the least of: 256; the group numbers of all active exceptions", of those below k
unfoldable pub least_active : ℕ → List ℕ → List Bool → ℕ → ℤ
least_active p bytes active zero = pos 256
least_active p bytes active (suc k) = under (get_or active k false) (group_priority p bytes k) (least_active p bytes active k)

-- "the group number of BASEPRI if BASEPRI is not 0; 0 if PRIMASK; -1 if FAULTMASK"
abbrev pub masked : ℕ → ℕ → Bool → Bool → ℤ → ℤ
masked p basepri primask faultmask least =
    under faultmask (negsuc 0) (under primask (pos 0) (under (not (eqb basepri 0)) (pos (group_of p basepri)) least))

unfoldable pub execution_priority : ℕ → List ℕ → List Bool → ℕ → Bool → Bool → ℤ
execution_priority p bytes active basepri primask faultmask =
    masked p basepri primask faultmask (least_active p bytes active (length active))

-- The same over the nest, the numbers of the active exceptions: `nested-execution` says when the two agree.

-- the least of 256 and the group numbers of the first k of the nest
unfoldable pub least_nested : ℕ → List ℕ → List ℕ → ℕ → ℤ
least_nested p bytes nest zero = pos 256
least_nested p bytes nest (suc k) = lesser (group_priority p bytes (get_or nest k 0)) (least_nested p bytes nest k)

unfoldable pub execution_nested : ℕ → List ℕ → List ℕ → ℕ → ℕ → Bool → Bool → ℤ
execution_nested p bytes nest depth basepri primask faultmask =
    masked p basepri primask faultmask (least_nested p bytes nest depth)

-- ---- the one to enter

-- "Always enabled: 2, 3, 11, 14, 15"
abbrev pub always_enabled : ℕ → Bool
always_enabled n = eqb n 2 || eqb n 3 || eqb n 11 || eqb n 14 || eqb n 15

abbrev pub is_enabled : List Bool → ℕ → Bool
is_enabled enabled n = always_enabled n || get_or enabled n false

-- "the pending and enabled exceptions whose group number is below the execution priority" (the limit)
abbrev pub eligible : ℕ → List ℕ → List Bool → List Bool → ℤ → ℕ → Bool
eligible p bytes pending enabled limit n =
    get_or pending n false && is_enabled enabled n && lt_z (group_priority p bytes n) limit

-- the better of the one found so far and n, which comes after it and counts where `able` holds
abbrev pub better : Bool → (ℕ → ℤ) → ℕ → Option ℕ → Option ℕ
better able key n None = cond able (Some n) None
better able key n (Some m) = cond (able && lt_z (key n) (key m)) (Some n) (Some m)

-- "the one of least full priority (fixed, or the kept byte), then least number": of the numbers below k that pass the test, one of least key, and of these the least
unfoldable pub best : (ℕ → Bool) → (ℕ → ℤ) → ℕ → Option ℕ
best test key zero = None
best test key (suc k) = better (test k) key k (best test key k)

unfoldable pub best_pending : ℕ → List ℕ → List Bool → List Bool → ℤ → Option ℕ
best_pending p bytes pending enabled limit =
    best (eligible p bytes pending enabled limit) (full_priority bytes) (length pending)
