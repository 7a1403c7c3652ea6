-- A number that is there takes its groups; another takes none.
use mathlib.Core.Path.{◌∙◌}
use Rattle.numbers.specs.Number.{number_bytes}
use Rattle.script.specs.Steps.{bytes_if}
use Rattle.script.proofs.writing.size_if.Goals as goal

pub returns-then-there : goal.returns-then-there
unfolding bytes_if number_bytes
returns-then-there c = c.size.ensures ∙ simp c.if-there.true

pub returns : goal.returns
unfolding bytes_if
returns c = simp c.if-there.false
