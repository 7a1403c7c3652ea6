-- The number, its vector and the link value; each part as the definition says.
use native.Mathlib.Numerals.{add-one}
use Rattle.rules.specs.Nesting.{entered}
use Rattle.entry.proofs.enter.Goals as goal

pub returns-clause-answer : goal.returns-clause-answer
unfolding entered
returns-clause-answer c = simp (c.with_spsel-state.ensures, c.store-3.ensures, c.store-2.ensures, c.store.ensures, c.link_of.ensures, add-one)
