-- Each part is written where the part before it ends, so that together they are the line.
use Prim.Native.Nat.{◌≤◌}
use native.Mathlib.Omega.{arith}
use lib.ListN.{length}
use mir.Facts.{to_z-of_z}
use Rattle.decimal.specs.Decimal.{line_text, newline}
use Rattle.decimal.specs.Written.{puts_append, puts_one}
use Rattle.decimal.proofs.put_line.Goals as goal

pub returns-clause-puts : goal.returns-clause-puts
unfolding line_text
returns-clause-puts c = let h : c.args.at ≤ length c.args.out.now = omega arith in
    let fields = puts_append h (puts_append h (puts_append h c.put_field-a.ensures.puts c.put_field-b.ensures.puts) c.put_field-c.ensures.puts) c.put_field-d.ensures.puts in puts_append h
    (puts_append h fields (simp (to_z-of_z c.ranges.priority) at c.put_signed-end.ensures.puts))
    (puts_one c.put_signed-end.result newline c.put_signed-end.new.out (omega arith))
