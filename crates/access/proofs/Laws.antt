-- What a kind's answer says of its test.
use mathlib.Core.Path.{◌≡◌, refl}
use mathlib.Core.Bool.{Bool, true, false, cond}
use Rattle.std.specs.Prelude.{Ok, Err}
use Rattle.refusals.specs.declared.Refusal.{Refusal}
use Rattle.refusals.specs.declared.Refusal.TheVariants.{OutOfRange}
use Rattle.verdicts.specs.declared.Access.{Access}

pub of_err : (b : Bool) (p : Access) (r : Refusal) → cond b (Err OutOfRange) (Ok p) ≡ Err r → (b ≡ true) × (r ≡ OutOfRange)
of_err true p r e = (refl, cc)
of_err false p r e = absurd cc

pub of_ok : (b : Bool) (p q : Access) → cond b (Err OutOfRange) (Ok p) ≡ Ok q → (b ≡ false) × (q ≡ p)
of_ok true p q e = absurd cc
of_ok false p q e = (refl, cc)
