-- 19 without a guard; else by the guard that the chip has.
use mathlib.Core.Path.{◌∙◌, sym}
use mir.Facts.{to_z-of_z}
use Rattle.rules.specs.Access.{access_by}
use Rattle.access.proofs.access_by.Goals as goal

pub returns-then-is_armv6m : goal.returns-then-is_armv6m
unfolding access_by
returns-then-is_armv6m c = λ m. simp (sym c.is_armv6m.ensures ∙ c.if-is_armv6m.true)

pub returns : goal.returns
unfolding access_by
returns c = λ m. c.access.ensures m ∙ simp (to_z-of_z c.ranges.limit, sym c.is_armv6m.ensures ∙ c.if-is_armv6m.false)
