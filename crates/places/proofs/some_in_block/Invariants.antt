-- The block: after k of its places `found` says whether something stands at one of them.
use Rattle.std.proofs.Common.{ℕ, Bool, ◌≡◌, ◌+◌}
use Rattle.places.specs.Places.{some_past, AnswersBelow}
use Rattle.places.proofs.some_in_block.Given as goal

abbrev pub invariant-loop-k : goal.invariant-loop-k
invariant-loop-k g l = (holds : ℕ → Bool) → AnswersBelow (goal.F-post g l.stands) holds (l.from + 64) → l.found ≡ some_past holds l.from l.k
