-- Block by block, and the last block by itself: together they are the places past n.
use Rattle.std.proofs.Common.{ℕ, Bool, ◌≡◌, ◌-◌, ◌≤◌}
use Rattle.places.specs.Places.{some_past, AnswersBelow}
use Rattle.places.proofs.some_past.Given as goal

abbrev pub invariant-loop-from : goal.invariant-loop-from
invariant-loop-from g l = (l.n ≤ l.from) × (l.from ≤ l.size) × ((holds : ℕ → Bool) → AnswersBelow (goal.F-post g l.stands) holds l.size → l.found ≡ some_past holds l.n (l.from - l.n))

abbrev pub decreases-loop-from : goal.decreases-loop-from
decreases-loop-from g l = l.size - l.from
