-- No special register has a number above 4.
use Prim.Native.Nat.{ℕ}
use mathlib.Core.Path.{◌≡◌, refl}
use mathlib.Core.Bool.{false}
use lib.Dec.{ltb}
use Rattle.special.specs.declared.SpecialRegister.{SpecialRegister}
use Rattle.special.specs.declared.SpecialRegister.TheVariants as special
use Rattle.special.specs.Registers.{register_number}

pub register_low : (r : SpecialRegister) (which : ℕ) → register_number r ≡ which → ltb 4 which ≡ false
register_low r which e = rw (← e) (low r)
  where
    low : (r : SpecialRegister) → ltb 4 (register_number r) ≡ false
    low special.Primask = refl
    low special.Faultmask = refl
    low special.Basepri = refl
    low special.BasepriMax = refl
    low special.Control = refl
