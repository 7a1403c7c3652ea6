-- The loop knows which of the regions passed covers the address (`Known`), and ends at a second one.
use lib.ListN.{length}
use Rattle.editions.specs.Pmsav8.{covers_at, tally}
use Rattle.editions.proofs.Laws.{Known}
use Rattle.editions.proofs.pmsav8.covers_allow.Given as goal

abbrev pub invariant-loop-rbar : goal.invariant-loop-rbar
invariant-loop-rbar l = Known l.rbars (tally (covers_at l.rbars l.rlars l.request.address) (length l.yielded)) l.found
