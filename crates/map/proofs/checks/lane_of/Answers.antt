-- A word whole, or its byte.
use mathlib.Core.Path.{◌∙◌}
use borrow.Author.Tests.{eq-eqb, ne_eqb}
use Rattle.rules.specs.Registers.{lane_of}
use Rattle.map.proofs.checks.lane_of.Goals as goal

pub returns-then-w-eq4 : goal.returns-then-w-eq4
unfolding lane_of
returns-then-w-eq4 c = simp (eq-eqb _ _ c.if-w-eq4.true)

pub returns : goal.returns
unfolding lane_of
returns c = c.wide.ensures.0 ∙ c.byte_of.ensures ∙ simp (ne_eqb _ _ c.if-w-eq4.false)
