-- The claim of a chip with three kept bits, or of the Cortex-M0, with its number of exceptions and its L computed.
use Prim.Native.Nat.{ℕ, ◌+◌, ◌-◌, ◌^◌, ◌≤◌, min}
use mathlib.Core.Path.{◌≡◌, refl, subst}
use mathlib.Core.List.{List, []}
use native.Mathlib.Omega.{arith}
use lib.ListN.{length}
use lib.Dec.{T}
use Rattle.script.specs.declared.Event.{Event}
use Rattle.rules.specs.declared.Chip.{Chip}
use Rattle.rules.specs.Chip.{chip55, chip240, chip_m0, fits, exception_count}
use Rattle.rules.specs.Model.{Model, Answer, fresh}
use Rattle.demand3.specs.Demand3.{Calls, ledger, Steady}
use Rattle.demand3.specs.Bounds.{Bounded, Bounded55, Bounded240, BoundedM0}
use Rattle.demand3.proofs.Demand3.{calls}

module _ (c : Chip) (f : T (fits c)) (three : c.bits ≡ 3) where
  by_levels : {es : List Event} {rs : List Answer} {t : Model} → Calls c (fresh c) es rs t → (j : ℕ) → Steady (fresh c) rs → min 3 (7 - t.core.group) ≡ j → length (ledger [] es rs) ≤ 2 ^ j + 2
  by_levels {es} {rs} {t} k j steady e = rw (three, e) at ((calls c f es rs t k).few steady)

  bounded : (bare : ℕ) → exception_count c ≡ bare → Bounded c bare
  bounded bare count es rs t k =
      record {
        most = subst (λ (n : ℕ). length (ledger [] es rs) ≤ n) count (calls c f es rs t k).most;
        up_to4 = λ u h. by_levels k 3 u (omega arith);
        at5 = λ u h. by_levels k 2 u (omega arith);
        at6 = λ u h. by_levels k 1 u (omega arith);
        at7 = λ u h. by_levels k 0 u (omega arith);
      }

pub bounded_55 : Bounded55
bounded_55 = bounded chip55 tt refl 63 refl

pub bounded_240 : Bounded240
bounded_240 = bounded chip240 tt refl 248 refl

-- "no grouping": p is 0 in a sound state, so L is 2 ^ min 2 7
pub bounded_m0 : BoundedM0
bounded_m0 es rs t k =
    let a = calls chip_m0 tt es rs t k in
    record { most = a.most; few = λ u. rw (a.sound.core.bare tt).group at (a.few u) }
