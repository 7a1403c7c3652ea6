-- Each part as the definition says; making a line pending again touches nothing else.
use mathlib.Core.Path.{sym}
use Rattle.rules.specs.Lent.{view}
use Rattle.returning.proofs.Laws.{sub_one, returned_parts}
use Rattle.returning.proofs.leave.Goals as goal

pub returns-clause-left : goal.returns-clause-left
returns-clause-left c =
    simp (c.returned_masks-state.ensures, c.store-2.ensures, c.store.ensures, c.repend.ensures, c.is_high-high.ensures, c.newest-top.ensures, sub_one) (sym (returned_parts c.args.value (view c.args.state.now)))
