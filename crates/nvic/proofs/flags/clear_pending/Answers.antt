-- The pending flags alone change.
use Rattle.nvic.proofs.flags.clear_pending.Goals as goal

pub returns-clause-clears : goal.returns-clause-clears
returns-clause-clears c = simp (c.clear_flags.ensures, c.clearable-cleared.ensures)
