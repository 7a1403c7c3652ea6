-- Past the end a byte is lost; the top of a nest.
use Prim.Native.Nat.{ℕ, zero, suc, ◌-◌, ◌≤◌}
use mathlib.Core.Path.{◌≡◌, refl}
use mathlib.Core.List.{List}
use mathlib.Core.Bool.{Bool, true, false, cond}
use native.Mathlib.Omega.{arith}
use lib.ListN.{length, get_or}
use lib.Seq.{set_out}
use Rattle.rules.specs.declared.Chip.{Chip}
use Rattle.rules.specs.Chip.{has_byte}
use Rattle.rules.specs.Model.{down, top}
use Rattle.rules.specs.Writes.{with_byte}

cond_same : {A : Type 0} (b : Bool) (x y : A) → x ≡ y → cond b x y ≡ y
cond_same true x y e = e
cond_same false x y e = refl

-- a byte written past the end is lost
pub with_byte_past : (c : Chip) (n b : ℕ) (l : List ℕ) → length l ≤ n → with_byte c n b l ≡ l
unfolding with_byte
with_byte_past c n b l h = cond_same (has_byte c n) _ l (set_out l n _ h)

-- the newest of a nest of depth d
pub top_down : (l : List ℕ) (d : ℕ) → (d ≡ 0 → ⊥) → top (down l d) ≡ get_or l (d - 1) 0
top_down l zero h = absurd (h refl)
top_down l (suc d) h = let e : suc d - 1 ≡ d = omega arith in rw e
