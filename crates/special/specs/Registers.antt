-- The numbers of the special registers: "0 PRIMASK, 1 FAULTMASK, 2 BASEPRI, 3 BASEPRI_MAX, 4 CONTROL".
use Rattle.std.specs.Prelude.{ℕ}
use Rattle.special.specs.declared.SpecialRegister.{SpecialRegister}
use Rattle.special.specs.declared.SpecialRegister.TheVariants as special

abbrev pub register_number : SpecialRegister → ℕ
register_number special.Primask = 0
register_number special.Faultmask = 1
register_number special.Basepri = 2
register_number special.BasepriMax = 3
register_number special.Control = 4
