-- A number taken off on the left is added on the right.
use Prim.Native.Nat.{ℕ, ◌+◌, ◌-◌, ◌≤◌}
use mathlib.Core.Path.{◌≡◌, refl}
use mathlib.Core.Bool.{Bool, true, false}
use native.Mathlib.Omega.{arith}
use lib.Dec.{ltb}
use borrow.Author.Tests.{ltb-true, ltb-false, lt-ltb, le-ltb}

-- n - k < m is n < k + m
pub ltb_sub : (k n m : ℕ) → k ≤ n → ltb (n - k) m ≡ ltb n (k + m)
ltb_sub k n m h = cases (ltb n (k + m)) refl
  where
    cases : (b : Bool) → ltb n (k + m) ≡ b → ltb (n - k) m ≡ b
    cases true e = lt-ltb (n - k) m (omega (arith, ltb-true n (k + m) e))
    cases false e = le-ltb (n - k) m (omega (arith, ltb-false n (k + m) e))
