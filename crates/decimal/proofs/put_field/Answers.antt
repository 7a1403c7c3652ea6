-- The decimal, and then the byte after it.
use native.Mathlib.Omega.{arith}
use Rattle.decimal.specs.Decimal.{space}
use Rattle.decimal.specs.Written.{puts_append, puts_one}
use Rattle.decimal.proofs.put_field.Goals as goal

pub returns-clause-puts : goal.returns-clause-puts
returns-clause-puts c = puts_append (omega arith) c.put_decimal-end.ensures.puts (puts_one c.put_decimal-end.result space c.put_decimal-end.new.out (omega arith))
