-- The count falls with each group, and the definition has the same two cases.
use Prim.Native.Nat.{◌-◌, ◌/◌}
use mathlib.Core.Path.{ap}
use native.Mathlib.Omega.{arith}
use lib.ListN.{length}
use Rattle.numbers.specs.Number.{groups}
use Rattle.numbers.specs.NumberLaws.{groups_short, groups_long, groups_size}
use Rattle.numbers.proofs.+size.Goals as goal

pub returns-then-left-eq0 : goal.returns-then-left-eq0
unfolding groups
returns-then-left-eq0 t c = simp c.if-left-eq0.true

pub returns-then-n-lt128 : goal.returns-then-n-lt128
returns-then-n-lt128 t c = simp (groups_short c.args.left c.args.n (omega arith) c.if-n-lt128.true)

pub overflow_add-result : goal.overflow_add-result
overflow_add-result t c = omega (arith, groups_size (c.args.left - 1) (c.args.n / 128))

pub returns : goal.returns
returns t c = omega (arith, ap length (groups_long c.args.left c.args.n (omega arith) c.if-n-lt128.false))
