-- A first group below 128 is the whole number.
use mathlib.Core.Path.{ap}
use native.Mathlib.Omega.{arith}
use lib.ListN.{get_or}
use borrow.Author.Tests.{lt-ltb}
use Rattle.numbers.specs.Answers.{number_answer}
use Rattle.numbers.specs.Number.{number_at}
use Rattle.numbers.specs.NumberLaws.{groups_at_step}
use Rattle.numbers.proofs.read_number.Goals as goal

pub returns-then-first-lt128-clause-value : goal.returns-then-first-lt128-clause-value
unfolding number_at
returns-then-first-lt128-clause-value c = (rw (groups_at_step c.args.bytes.now c.args.at 5 (omega arith))
    (simp (lt-ltb _ _ c.if-at-bytes.true, lt-ltb (get_or c.args.bytes.now c.args.at 0) 128 (omega arith))))

pub returns-then-first-lt128-clause-numbers : goal.returns-then-first-lt128-clause-numbers
returns-then-first-lt128-clause-numbers c = ap number_answer (returns-then-first-lt128-clause-value c)
