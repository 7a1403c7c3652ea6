-- Document 01: "If an answer is an enum, a definition gives this paper's number and values for each of its cases. The promises use that
-- definition."
use Rattle.std.specs.Prelude.{ℕ, Option, Some, None}
use Rattle.numbers.specs.Number.{number_refusal}

-- a number of a script: the refusal or 0, the number, and the offset after it; "A refusal returns its number with every other field 0"
pub record NumberAnswer : Type 0 where
  pub refusal : ℕ
  pub value : ℕ
  pub next : ℕ

abbrev pub number_answer : Option (ℕ × ℕ) → NumberAnswer
number_answer (Some (n, next)) = record { refusal = 0; value = n; next = next }
number_answer None = record { refusal = number_refusal None; value = 0; next = 0 }
