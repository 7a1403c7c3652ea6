-- The whole text that a script makes, as bytes (document 01, "Scripts"). It is made of `answers_of`, of which demand 3 speaks.
use Rattle.std.specs.Prelude.{ℕ, ◌≡◌, List, false}
use Rattle.decimal.specs.Decimal.{broken_text}
use Rattle.rules.specs.declared.Chip.{Chip}
use Rattle.rules.specs.Chip.{fits}
use Rattle.text.specs.Text.{admitted_text, text_of}

-- for every script, the empty one and one that is too long included
pub misfit_text : (c : Chip) → fits c ≡ false → (bytes : List ℕ) → text_of c bytes ≡ broken_text 17 0
unfolding text_of admitted_text
misfit_text c q bytes = rw q
