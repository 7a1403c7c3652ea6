-- A number that is there takes its groups; another takes none.
use mathlib.Core.Bool.{Bool}
use mathlib.Core.Path.{ap, ◌∙◌}
use native.Mathlib.Omega.{arith}
use lib.ListN.{length}
use Rattle.numbers.specs.Number.{number_bytes}
use Rattle.script.specs.Steps.{bytes_if}
use Rattle.script.proofs.writing.put_if.Goals as goal

pub write_groups-requires : goal.write_groups-requires
unfolding bytes_if number_bytes
write_groups-requires c = omega (arith, ap (λ (w : Bool). length (bytes_if w c.args.n)) c.if-there.true)

pub overflow_add-result : goal.overflow_add-result
unfolding bytes_if number_bytes
overflow_add-result c = omega (arith, ap (λ (b : Bool). length (bytes_if b c.args.n)) c.if-there.true)

pub returns-then-there-clause-value : goal.returns-then-there-clause-value
unfolding bytes_if number_bytes
returns-then-there-clause-value c = simp (c.if-there.true, c.size.ensures)

pub returns-then-there-clause-out_after : goal.returns-then-there-clause-out_after
unfolding bytes_if number_bytes
returns-then-there-clause-out_after c = c.write_groups.ensures ∙ simp c.if-there.true

pub returns-clause-value : goal.returns-clause-value
unfolding bytes_if
returns-clause-value c = simp c.if-there.false (omega arith)

pub returns-clause-out_after : goal.returns-clause-out_after
unfolding bytes_if
returns-clause-out_after c = simp c.if-there.false
