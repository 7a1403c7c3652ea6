-- By cases of the number.
use mathlib.Core.Path.{◌∙◌}
use borrow.Author.Tests.{ne_eqb}
use Rattle.rules.specs.Events.{special_written}
use Rattle.masks.proofs.special_written.Goals as goal

pub returns-in-0 : goal.returns-in-0
unfolding special_written
returns-in-0 c = c.with_primask.ensures ∙ simp (c.test_bit.ensures, c.in-0.is)

pub returns-in-1 : goal.returns-in-1
unfolding special_written
returns-in-1 c = c.faultmask_written.ensures ∙ simp (c.test_bit-in-1.ensures, c.in-1.is)

pub returns-in-2 : goal.returns-in-2
unfolding special_written
returns-in-2 c = c.with_basepri.ensures ∙ simp (c.kept_byte.ensures, c.in-2.is)

pub returns-in-3 : goal.returns-in-3
unfolding special_written
returns-in-3 c = c.basepri_raised.ensures ∙ simp (c.kept_byte-in-3.ensures, c.in-3.is)

pub returns-in_default : goal.returns-in_default
unfolding special_written
returns-in_default c =
    c.control_written.ensures
    ∙ simp (ne_eqb _ _ c.in_default.in_default-own.rest.1, ne_eqb _ _ c.in_default.in_default-own.rest.0.1, ne_eqb _ _ c.in_default.in_default-own.rest.0.0.1, ne_eqb _ _ c.in_default.in_default-own.rest.0.0.0.1)
