-- By the definition's own tests.
use mathlib.Core.Path.{◌∙◌}
use borrow.Author.Tests.{eq-eqb, le-ltb, lt-ltb, ne_eqb}
use Rattle.rules.specs.Events.{basepri_raised}
use Rattle.masks.proofs.basepri_raised.Goals as goal

pub returns-then-b-eq0 : goal.returns-then-b-eq0
unfolding basepri_raised
returns-then-b-eq0 c = simp (eq-eqb _ _ c.if-b-eq0.true)

pub returns-then-b-masks : goal.returns-then-b-masks
unfolding basepri_raised
returns-then-b-masks c = c.with_basepri.ensures ∙ simp (ne_eqb _ _ c.if-b-eq0.false, lt-ltb _ _ c.if-b-masks.true)

pub returns-then-masks-eq0 : goal.returns-then-masks-eq0
unfolding basepri_raised
returns-then-masks-eq0 c = c.with_basepri-then-masks-eq0.ensures ∙ simp (ne_eqb _ _ c.if-b-eq0.false, le-ltb _ _ c.if-b-masks.false, eq-eqb _ _ c.if-masks-eq0.true)

pub returns : goal.returns
unfolding basepri_raised
returns c = simp (ne_eqb _ _ c.if-b-eq0.false, le-ltb _ _ c.if-b-masks.false, ne_eqb _ _ c.if-masks-eq0.false)
