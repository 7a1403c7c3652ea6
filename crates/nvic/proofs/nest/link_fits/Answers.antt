-- Each link value by computation; any other differs from all three.
use mathlib.Core.Path.{◌∙◌, ap, sym}
use mathlib.Core.Bool.{or-false}
use borrow.Author.Tests.{ne_eqb}
use Rattle.rules.specs.Nesting.{link_fits}
use Rattle.nvic.proofs.nest.link_fits.Goals as goal

pub returns-in-4294967281 : goal.returns-in-4294967281
unfolding link_fits
returns-in-4294967281 c = sym (ap (link_fits c.args.depth) c.in-4294967281.is ∙ or-false _)

pub returns-in-4294967289 : goal.returns-in-4294967289
unfolding link_fits
returns-in-4294967289 c = sym (ap (link_fits c.args.depth) c.in-4294967289.is)

pub returns-in-4294967293 : goal.returns-in-4294967293
unfolding link_fits
returns-in-4294967293 c = sym (ap (link_fits c.args.depth) c.in-4294967293.is)

pub returns-in_default : goal.returns-in_default
unfolding link_fits
returns-in_default c =
    simp (ne_eqb _ _ c.in_default.in_default-own.rest.1, ne_eqb _ _ c.in_default.in_default-own.rest.0.1, ne_eqb _ _ c.in_default.in_default-own.rest.0.0.1)
