-- Each part is written where the part before it ends, so that together they are the line.
use Prim.Native.Nat.{◌≤◌}
use native.Mathlib.Omega.{arith}
use lib.ListN.{length}
use Rattle.decimal.specs.Decimal.{broken_text, newline}
use Rattle.decimal.specs.Written.{puts_append, puts_one}
use Rattle.decimal.proofs.put_broken.Goals as goal

pub returns-clause-puts : goal.returns-clause-puts
unfolding broken_text
returns-clause-puts c = let h : c.args.at ≤ length c.args.out.now = omega arith in puts_append h
    (puts_append h (puts_append h (puts_append h c.put_text-a.ensures c.put_decimal-b.ensures.puts) c.put_text-c.ensures) c.put_decimal-d.ensures.puts)
    (puts_one c.put_decimal-d.result newline c.put_decimal-d.new.out (omega arith))
