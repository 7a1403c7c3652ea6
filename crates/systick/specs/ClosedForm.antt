-- What so many ticks leave, worked out from the current value, the reload value and the count, "without stepping through them". SkipLaws has the
-- equation with the single ticks.
use Rattle.std.specs.Prelude.{ℕ, suc, ◌-◌, ◌%◌, Bool, cond, ◌&&◌, ◌||◌, eqb, ltb}
use Rattle.systick.specs.declared.Timer.{Timer}
use Rattle.systick.specs.declared.Ticked.{Ticked}
use Rattle.systick.specs.Timer.{enabled, tickint, with_current, steady}

-- The current value k ticks after it was 0. One tick reloads it and each of `reload` more takes 1 off, so it is 0 again every reload + 1 ticks.
-- "A reload value of 0 stops at zero."
unfoldable pub from_zero : ℕ → ℕ → ℕ
from_zero reload k = cond (eqb (k % suc reload) 0) 0 (suc reload - k % suc reload)

-- whether ticks that bring the current value down to 0 and go on for k more fall to 0
unfoldable pub falls_in : ℕ → ℕ → ℕ → Bool
falls_in current reload k = ltb 0 current || (ltb 0 reload && ltb reload k)

-- ticks that leave a current value, and fell to 0 or not
abbrev pub leaving : Bool → ℕ → Timer → Ticked
leaving fell current t = record { timer = with_current current (fell || t.count) t; fell = fell; pends = fell && tickint t }

unfoldable pub skipped : ℕ → Timer → Ticked
skipped n t =
    cond (enabled t)
    (cond (ltb n t.current) (steady (with_current (t.current - n) t.count t))
    (leaving (falls_in t.current t.reload (n - t.current)) (from_zero t.reload (n - t.current)) t))
    (steady t)
