-- Each byte passed is the same in both.
use Rattle.vectors.specs.Agree.{Agree}
use Rattle.vectors.proofs.agreeing.Given as goal

abbrev pub invariant-loop-i : goal.invariant-loop-i
invariant-loop-i l = Agree l.want l.at l.text l.i
