-- By the definition's own tests.
use mathlib.Core.Path.{◌∙◌}
use Rattle.rules.specs.Writes.{set_or_clear}
use Rattle.control.proofs.set_or_clear.Goals as goal

pub returns-then-clears : goal.returns-then-clears
unfolding set_or_clear
returns-then-clears c = c.store.ensures ∙ simp c.if-clears.true

pub returns-then-sets : goal.returns-then-sets
unfolding set_or_clear
returns-then-sets c = c.store-then-sets.ensures ∙ simp (c.if-clears.false, c.if-sets.true)

pub returns-else-sets : goal.returns-else-sets
unfolding set_or_clear
returns-else-sets c = simp (c.if-clears.false, c.if-sets.false)
