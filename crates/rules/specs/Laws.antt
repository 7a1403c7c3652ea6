-- Laws of these definitions that the code of every chip and the third demand both use.
use Rattle.std.specs.Prelude.{ℕ, Bool, true, ◌&&◌}
use mathlib.Core.List.{List, [], ◌∷◌}

unfoldable pub all : (ℕ → Bool) → List ℕ → Bool
all p [] = true
all p (x ∷ xs) = p x && all p xs
