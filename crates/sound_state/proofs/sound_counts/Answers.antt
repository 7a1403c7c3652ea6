-- Each count fits a `u16`.
use Rattle.std.proofs.Common.{sym, arith}
use Rattle.rules.proofs.Laws.{counts_held}
use Rattle.sound_state.proofs.sound_counts.Goals as goal

pub returns : goal.returns
returns c = sym (counts_held c.args.lost.now c.args.chip.lines (λ i. omega (arith, c.type_inv.lost i)))
