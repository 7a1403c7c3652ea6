-- By the definition's own test.
use mathlib.Core.Path.{◌∙◌, sym}
use Rattle.rules.specs.Writes.{with_byte}
use Rattle.nvic.proofs.bytes.put_byte.Goals as goal

pub returns-then-has_byte : goal.returns-then-has_byte
unfolding with_byte
returns-then-has_byte c = c.store.ensures ∙ simp (c.kept_byte.ensures, sym c.has_byte.ensures ∙ c.if-has_byte.true)

pub returns-else-has_byte : goal.returns-else-has_byte
unfolding with_byte
returns-else-has_byte c = simp (sym c.has_byte.ensures ∙ c.if-has_byte.false)
