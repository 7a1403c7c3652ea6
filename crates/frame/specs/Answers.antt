-- Document 01: "If an answer is an enum, a definition gives this paper's number and values for each of its cases. The promises use that
-- definition." For each: the refusal or 0, and the values, "on a refusal" 0.
use Rattle.std.specs.Prelude.{ℕ, Result, Ok, Err}
use Rattle.refusals.specs.declared.Refusal.{Refusal}
use Rattle.refusals.specs.Refusals.{number_of}
use Rattle.frame.specs.declared.Words.{Words}
use Rattle.frame.specs.declared.Unstacked.{Unstacked}
use Rattle.frame.specs.Frame.{no_words}

-- a frame stacked: its address
pub record StackAnswer : Type 0 where
  pub refusal : ℕ
  pub frame : ℕ

abbrev pub stack_answer : Result ℕ Refusal → StackAnswer
stack_answer (Ok frame) = record { refusal = 0; frame = frame }
stack_answer (Err r) = record { refusal = number_of r; frame = 0 }

-- a frame unstacked: the restored SP and the words as stored
pub record UnstackAnswer : Type 0 where
  pub refusal : ℕ
  pub sp : ℕ
  pub words : Words

abbrev pub unstack_answer : Result Unstacked Refusal → UnstackAnswer
unstack_answer (Ok u) = record { refusal = 0; sp = u.sp; words = u.words }
unstack_answer (Err r) = record { refusal = number_of r; sp = 0; words = no_words }
