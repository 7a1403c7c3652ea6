-- The rules' answer has the numbers of its outcome, beside the state that the call leaves.
use Rattle.std.specs.Prelude.{◌≡◌, refl, Result, Ok, Err}
use Rattle.refusals.specs.declared.Refusal.{Refusal}
use Rattle.rules.specs.declared.Accepted.{Accepted}
use Rattle.rules.specs.Lent.{answer}
use Rattle.rules.specs.Model.{Model, Answer}
use Rattle.parts.specs.declared.Numbers.{Numbers}
use Rattle.parts.specs.Numbers.{numbers}

abbrev pub beside : Numbers → Model → Answer
beside n m = record { refusal = n.refusal; value = n.value; vector = n.vector; link = n.link; next = m }

pub answered : (o : Result Accepted Refusal) (m : Model) → answer o m ≡ beside (numbers o) m
answered (Ok a) m = refl
answered (Err r) m = refl
