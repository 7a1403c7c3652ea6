-- The code's own steps: an event as a kind and three numbers, of which the kind says how many are there. What the public functions
-- promise does not mention them.
use Rattle.std.specs.Prelude.{ℕ, List, [], ◌∷◌, Option, Some, Bool, cond, take}
use Rattle.script.specs.declared.writing.Spelled.{Spelled}
use Rattle.script.specs.Event.{arity}
use Rattle.numbers.specs.Number.{number_at, number_bytes}

-- the number at `at`, or 0 and no byte read if it is not there
unfoldable pub number_if : List ℕ → ℕ → Bool → Option (ℕ × ℕ)
number_if bytes at there = cond there (number_at bytes at) (Some (0, at))

-- the bytes of a number, none if it is not there
unfoldable pub bytes_if : Bool → ℕ → List ℕ
bytes_if there n = cond there (number_bytes n) []

unfoldable pub numbers_of : Spelled → List ℕ
numbers_of n = n.0 ∷ take (arity n.0) (n.1 ∷ (n.2 ∷ (n.3 ∷ [])))
