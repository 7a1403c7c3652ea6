-- A fetch has one width, any other access the three.
use mathlib.Core.Path.{◌∙◌}
use borrow.Author.Tests.{eq-eqb, ne_eqb}
use Rattle.rules.specs.Access.{fits_access}
use Rattle.access.proofs.fits_access.Goals as goal

pub returns-then-kind-eq2 : goal.returns-then-kind-eq2
unfolding fits_access
returns-then-kind-eq2 c = simp (eq-eqb _ _ c.if-kind-eq2.true)

pub returns : goal.returns
unfolding fits_access
returns c = c.is_width.ensures ∙ simp (ne_eqb _ _ c.if-kind-eq2.false)
