-- By the definition's own tests.
use Rattle.frame.specs.Frame.{window_fits}
use borrow.Author.Tests.{le-leb, lt-leb, eq-eqb, ne_eqb}
use Rattle.frame.proofs.window_fits.Goals as goal

pub returns-then-len-gt65536 : goal.returns-then-len-gt65536
unfolding window_fits
returns-then-len-gt65536 c = simp (lt-leb _ _ c.if-len-gt65536.true)

pub returns-then-base-ne0 : goal.returns-then-base-ne0
unfolding window_fits
returns-then-base-ne0 c = simp (le-leb _ _ c.if-len-gt65536.false, ne_eqb _ _ c.if-base-ne0.true)

pub returns : goal.returns
unfolding window_fits
returns c = simp (le-leb _ _ c.if-len-gt65536.false, eq-eqb _ _ c.if-base-ne0.false)
