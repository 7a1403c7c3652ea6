-- A minus sign and then the magnitude, or the magnitude alone.
use native.Mathlib.Omega.{arith}
use mir.Facts.{to_z-of_z}
use Rattle.decimal.specs.Decimal.{minus}
use Rattle.decimal.specs.Written.{puts_append, puts_one}
use Rattle.decimal.proofs.Signs.{signed_below, signed_above}
use Rattle.decimal.proofs.put_signed.Goals as goal

pub returns-then-z-lt0-clause-puts : goal.returns-then-z-lt0-clause-puts
returns-then-z-lt0-clause-puts c = let f = to_z-of_z c.ranges.z in rw (signed_below c.args.z (simp f at c.if-z-lt0.true), ← simp f at c.magnitude.ensures)
    (puts_append (omega arith) (puts_one c.args.at minus c.args.out.now (omega arith)) c.put_decimal.ensures.puts)

pub returns-clause-puts : goal.returns-clause-puts
returns-clause-puts c = let f = to_z-of_z c.ranges.z in rw (signed_above c.args.z (simp f at c.if-z-lt0.false), ← simp f at c.magnitude-2.ensures) c.put_decimal-2.ensures.puts
