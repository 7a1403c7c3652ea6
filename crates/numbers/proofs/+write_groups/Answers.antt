-- The count falls; the first group is stored here and the rest by the recursion, as `sets` does from an offset on.
use mathlib.Core.Path.{ap, ◌∙◌}
use native.Mathlib.Numerals.{add-one}
use native.Mathlib.Omega.{arith}
use lib.ListN.{length, length-set}
use Rattle.numbers.specs.Number.{groups}
use Rattle.numbers.specs.NumberLaws.{groups_short, groups_long}
use Rattle.numbers.proofs.+write_groups.Goals as goal

pub returns-then-left-eq0 : goal.returns-then-left-eq0
unfolding groups
returns-then-left-eq0 t c = simp c.if-left-eq0.true

pub bounds-out-at : goal.bounds-out-at
bounds-out-at t c = omega (arith, ap length (groups_short c.args.left c.args.n (omega arith) c.if-n-lt128.true))

pub returns-then-n-lt128 : goal.returns-then-n-lt128
returns-then-n-lt128 t c = simp (groups_short c.args.left c.args.n (omega arith) c.if-n-lt128.true)

pub bounds-out-at-2 : goal.bounds-out-at-2
bounds-out-at-2 t c = omega (arith, ap length (groups_long c.args.left c.args.n (omega arith) c.if-n-lt128.false))

pub write_groups-requires : goal.write_groups-requires
write_groups-requires t c = (omega arith, simp length-set (omega (arith, ap length (groups_long c.args.left c.args.n (omega arith) c.if-n-lt128.false))))

pub returns : goal.returns
returns t c = c.write_groups.ensures ∙ simp (groups_long c.args.left c.args.n (omega arith) c.if-n-lt128.false, add-one)
