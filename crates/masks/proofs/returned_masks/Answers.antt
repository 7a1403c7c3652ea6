-- By the definition's own tests.
use borrow.Author.Tests.{eq-eqb, ne_eqb}
use Rattle.rules.specs.Nesting.{returned_masks}
use Rattle.masks.proofs.returned_masks.Goals as goal

pub returns-then-v-eq4294967281 : goal.returns-then-v-eq4294967281
unfolding returned_masks
returns-then-v-eq4294967281 c = simp (c.both.ensures, eq-eqb _ _ c.if-v-eq4294967281.true)

pub returns : goal.returns
unfolding returned_masks
returns c = simp (c.both.ensures, ne_eqb _ _ c.if-v-eq4294967281.false)
