-- An answer in document 01's numbers, for what prints or hands out a reply.
use Rattle.std.specs.Prelude.{ℕ, Result, Ok, Err}
use Rattle.refusals.specs.declared.Refusal.{Refusal}
use Rattle.refusals.specs.Refusals.{number_of}
use Rattle.rules.specs.declared.Accepted.{Accepted}
use Rattle.parts.specs.declared.Numbers.{Numbers}

-- what a call answers that answers a value alone
abbrev pub accepted : ℕ → Accepted
accepted v = record { value = v; vector = 0; link = 0 }

-- "A refusal returns its number with every other field 0 and changes nothing."
abbrev pub numbers : Result Accepted Refusal → Numbers
numbers (Ok a) = record { refusal = 0; value = a.value; vector = a.vector; link = a.link }
numbers (Err r) = record { refusal = number_of r; value = 0; vector = 0; link = 0 }
