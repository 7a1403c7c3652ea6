-- The invariant: what is left to write is the decimal of `rest`, which ends at `last`.
use Prim.Native.Nat.{◌+◌, ◌≤◌}
use mathlib.Core.Path.{◌≡◌}
use lib.ListN.{length}
use Rattle.decimal.specs.Decimal.{digits}
use Rattle.decimal.specs.Written.{written}
use Rattle.decimal.proofs.put_decimal.Given as goal

abbrev pub invariant-loop-rest : goal.invariant-loop-rest
invariant-loop-rest l = (l.rest ≤ l.n) × ((l.last + 1 ≡ l.at + length (digits l.rest)) × ((length l.out ≡ length l.initial.out) × (written l.at (digits l.rest) l.out ≡ written l.at (digits l.n) l.initial.out)))

abbrev pub decreases-loop-rest : goal.decreases-loop-rest
decreases-loop-rest l = l.rest
