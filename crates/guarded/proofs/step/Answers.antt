-- The tests of refusals 17 and 16 decide between the event and its refusal; a sound state meets what an event asks.
use mathlib.Core.Path.{ap, sym, ◌∙◌}
use native.Mathlib.Omega.{arith}
use mir.Facts.{to_z-of_z}
use borrow.Author.Rules.{rules}
use Rattle.rules.specs.Priorities.{execution}
use Rattle.demand3.proofs.Check.{depth_fits}
use Rattle.demand3.proofs.Nesting.{execution_nest}
use Rattle.guarded.proofs.Laws.{tested, misfit, refuses, passes}
use mir.Syntax.{w32}
use Rattle.guarded.proofs.step.Goals as goal

pub returns-then-not-fits-clause-answer : goal.returns-then-not-fits-clause-answer
returns-then-not-fits-clause-answer c = misfit _ _ _ (sym c.fits.ensures ∙ c.if-not-fits.true)

pub returns-then-not-is_sound-clause-answer : goal.returns-then-not-is_sound-clause-answer
returns-then-not-is_sound-clause-answer c =
    let q = rw c.shown-shown.ensures at c.is_sound.ensures in
    refuses _ _ _ (sym c.fits.ensures ∙ c.if-not-fits.false) (sym q ∙ c.if-not-is_sound.true)

pub execution-limit-requires : goal.execution-limit-requires
execution-limit-requires c =
    let s = tested _ _ (sym c.is_sound.ensures ∙ c.if-not-is_sound.false) in
    let d = depth_fits s in
    let l = s.places.size in
    omega arith

pub act-requires : goal.act-requires
act-requires c =
    let s = tested _ _ (sym c.is_sound.ensures ∙ c.if-not-is_sound.false) in
    record {
      lines = c.requires.lines;
      sound = rw c.shown-shown.ensures at s;
      priority = to_z-of_z {w = w32} (search rules) ∙ c.execution-limit.ensures ∙ execution_nest s ∙ ap execution c.shown-shown.ensures;
    }

pub returns-clause-answer : goal.returns-clause-answer
returns-clause-answer c =
    let q = rw c.shown-shown.ensures at c.is_sound.ensures in
    c.act.ensures.answer ∙ passes _ _ _ (sym c.fits.ensures ∙ c.if-not-fits.false) (sym q ∙ c.if-not-is_sound.false)
