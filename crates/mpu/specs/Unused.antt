-- Document 02, E10, "no MPU": the words of a guard that the chip does not have are 0, as in a fresh one.
use Rattle.std.specs.Prelude.{ℕ, ◌≡◌, refl, List, Bool, true, ◌&&◌, get_or, eqb}
use Rattle.bools.specs.Every.{every}
use Rattle.mpu.specs.declared.Mpu.{Mpu}
use Rattle.mpu.specs.Registers.{fresh_mpu}

unfoldable pub zero_at : List ℕ → ℕ → Bool
zero_at words n = eqb (get_or words n 0) 0

unfoldable pub is_unused : Mpu → Bool
is_unused g =
    eqb g.control 0
    && eqb g.region 0
    && every (zero_at g.bases) 8
    && every (zero_at g.attributes) 8
    && eqb g.mair0 0
    && eqb g.mair1 0

pub fresh_unused : is_unused fresh_mpu ≡ true
unfolding is_unused zero_at every fresh_mpu
fresh_unused = refl
