-- A line's level is no count.
use mathlib.Core.Path.{◌≡◌, refl}
use mathlib.Core.Bool.{Bool, true, false, not, cond, ◌&&◌}
use Prim.Native.Nat.{ℕ}
use mathlib.Core.List.{List}
use lib.ListN.{set}
use Rattle.flag_words.specs.Flags.{on}
use Rattle.rules.specs.Model.{Model, with_level, with_lost}
use Rattle.rules.specs.Events.{pend, levelled}

pub levelled_lost : (n : ℕ) (high : Bool) (lost : List ℕ) (m : Model) → levelled n high (with_lost lost m) ≡ with_lost lost (levelled n high m)
unfolding levelled
levelled_lost n high lost m = go (high && not (on m.level n))
  where
    go : (b : Bool) → cond b (with_level (set m.level n true) (pend n (with_lost lost m))) (with_level (set m.level n high) (with_lost lost m)) ≡ with_lost lost (cond b (with_level (set m.level n true) (pend n m)) (with_level (set m.level n high) m))
    go true = refl
    go false = refl
