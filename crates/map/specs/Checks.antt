-- What a check of an access answers, as the rules count it: 0 where the access is let through.
use Rattle.std.specs.Prelude.{ℕ, Result, Ok, Err}
use Rattle.refusals.specs.declared.Refusal.{Refusal}
use Rattle.refusals.specs.Refusals.{number_of}

abbrev pub refusal_number : Result (Unit {0}) Refusal → ℕ
refusal_number (Ok u) = 0
refusal_number (Err r) = number_of r
