-- Each event's line is written before the next is read (`Going`), until no line has room or no event can be read.
use Prim.Native.Nat.{◌-◌}
use mathlib.Core.Path.{◌≡◌}
use lib.ListN.{length}
use Rattle.rules.specs.Lent.{SameLoan, view}
use Rattle.rules.specs.Priorities.{execution}
use Rattle.pieces.proofs.Loop.{Going}
use Rattle.running.proofs.run_events.Given as goal

abbrev pub invariant-loop-out : goal.invariant-loop-out
invariant-loop-out l =
    Going l.chip l.script (view l.initial.state) l.initial.at l.initial.events l.initial.out (view l.state) l.at l.events l.wrote l.out
    × ((l.limit ≡ execution (view l.state)) × SameLoan l.initial.state l.state)

abbrev pub decreases-loop-out : goal.decreases-loop-out
decreases-loop-out l = length l.script - l.at
