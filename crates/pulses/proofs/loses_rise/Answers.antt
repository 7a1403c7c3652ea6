-- By the definition's own tests.
use mathlib.Core.Path.{sym, ◌∙◌}
use mathlib.Core.Bool.{not, ◌&&◌}
use Rattle.bools.specs.Tests.{and_true, and_false_of}
use Rattle.flag_words.specs.Flags.{on}
use Rattle.rules.specs.Events.{loses_rise}
use Rattle.pulses.proofs.loses_rise.Goals as goal

pub returns-then-flag_at : goal.returns-then-flag_at
unfolding loses_rise
returns-then-flag_at c = simp (c.flag_at-then-flag_at.ensures, c.if-high.true, sym c.flag_at.ensures ∙ c.if-flag_at.true) (sym (and_true _))

pub returns-else-flag_at : goal.returns-else-flag_at
unfolding loses_rise
returns-else-flag_at c =
    sym (and_false_of (c.args.high && not (on c.args.state.now.level.now c.args.n)) _ (sym c.flag_at.ensures ∙ c.if-flag_at.false))

pub returns-else-high : goal.returns-else-high
unfolding loses_rise
returns-else-high c = simp c.if-high.false
