-- An ended course is handed back, a chip that does not fit and then a script that is too long are told first, and the test of the state is the one that
-- lets the loop act.
use mathlib.Core.Path.{refl, sym, ◌∙◌}
use native.Mathlib.Omega.{arith}
use Rattle.bools.specs.Tests.{is_true}
use Rattle.pieces.proofs.Promise.{ran_with, ran_ended, ran_unadmitted, ran_long, ran_refused}
use Rattle.running.proofs.run_some.Goals as goal

pub returns-then-course-clause-ran : goal.returns-then-course-clause-ran
returns-then-course-clause-ran c = ran_with c.args.state.now.core (rw c.unmoved.ensures (ran_ended c.if-course.true refl))

pub returns-then-not-fits-clause-ran : goal.returns-then-not-fits-clause-ran
returns-then-not-fits-clause-ran c =
    ran_with c.args.state.now.core (ran_unadmitted refl c.if-course.false (sym c.fits.ensures ∙ c.if-not-fits.true) c.unadmitted.ensures)

pub returns-then-script-gt-LONGEST-clause-ran : goal.returns-then-script-gt-LONGEST-clause-ran
returns-then-script-gt-LONGEST-clause-ran c =
    ran_with c.args.state.now.core (ran_long refl c.if-course.false (is_true (sym c.fits.ensures ∙ c.if-not-fits.false)) (omega (arith, c.if-script-gt-LONGEST.true)) c.run_long.ensures)

pub returns-then-is_usable-clause-ran : goal.returns-then-is_usable-clause-ran
returns-then-is_usable-clause-ran c = ran_with c.args.state.now.core c.run_events.ensures.ran

pub returns-clause-ran : goal.returns-clause-ran
returns-clause-ran c =
    ran_with c.args.state.now.core (rw c.refused.ensures (ran_refused c.if-course.false (is_true (sym c.fits.ensures ∙ c.if-not-fits.false)) (omega (arith, c.if-script-gt-LONGEST.false)) (sym c.is_usable.ensures ∙ c.if-is_usable.false) refl))
