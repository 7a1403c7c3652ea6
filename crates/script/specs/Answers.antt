-- Document 01: "If an answer is an enum, a definition gives this paper's number and values for each of its cases. The promises use that
-- definition." For each: the refusal or 0, and the values, "on a refusal" 0.
use Rattle.std.specs.Prelude.{ℕ, List, [], Result, Ok, Err}
use Rattle.refusals.specs.declared.Refusal.{Refusal}
use Rattle.refusals.specs.Refusals.{number_of}
use Rattle.script.specs.declared.Event.{Event}
use Rattle.script.specs.Event.{kind_of, arguments_of}

-- an event read: its kind, its arguments, and the offset after it
pub record ReadAnswer : Type 0 where
  pub refusal : ℕ
  pub kind : ℕ
  pub arguments : List ℕ
  pub next : ℕ

abbrev pub read_answer : Result (Event × ℕ) Refusal → ReadAnswer
read_answer (Ok (e, next)) = record { refusal = 0; kind = kind_of e; arguments = arguments_of e; next = next }
read_answer (Err r) = record { refusal = number_of r; kind = 0; arguments = []; next = 0 }

-- an event written: "answers the next offset"
pub record WrittenAnswer : Type 0 where
  pub refusal : ℕ
  pub next : ℕ

abbrev pub written_answer : Result ℕ Refusal → WrittenAnswer
written_answer (Ok next) = record { refusal = 0; next = next }
written_answer (Err r) = record { refusal = number_of r; next = 0 }
