-- Past the end a store changes nothing.
use mathlib.Core.Path.{sym}
use lib.Seq.{set_out}
use Rattle.rules.specs.Events.{one_more}
use Rattle.pulses.proofs.one_more.Goals as goal

pub returns-then-line-lost : goal.returns-then-line-lost
unfolding one_more
returns-then-line-lost c = simp c.raised.ensures

pub returns-else-line-lost : goal.returns-else-line-lost
unfolding one_more
returns-else-line-lost c = sym (set_out c.args.lost.now _ _ c.if-line-lost.false)
