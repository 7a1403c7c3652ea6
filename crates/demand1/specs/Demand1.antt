-- The user's first demand: "A refusal carries its number from document 01, is given in exactly the cases stated there, and leaves the
-- model and every lent byte unchanged." Its proof is `proofs/Demand1.antt`.
use Rattle.std.specs.Prelude.{ℕ, ◌≡◌, ◌⊎◌, ◌↔◌, List, [], ◌∷◌, Bool, true, false, cond, length, T}
use Rattle.script.specs.declared.Event.{Event}
use Rattle.script.specs.declared.Event.TheVariants as event
use Rattle.script.specs.Answers.{ReadAnswer, read_answer, WrittenAnswer, written_answer}
use Rattle.script.specs.Reading.{read_event}
use Rattle.script.specs.Writing.{write_event, bytes_after}
use Rattle.frame.specs.declared.Words.{Words}
use Rattle.frame.specs.Answers.{StackAnswer, stack_answer, UnstackAnswer, unstack_answer}
use Rattle.frame.specs.Frame.{stacked, stacked_window, unstacked, no_words}
use Rattle.rules.specs.declared.Chip.{Chip}
use Rattle.rules.specs.Chip.{is_armv6m, is_in, fits}
use Rattle.rules.specs.Model.{Model, Answer, refuse}
use Rattle.rules.specs.Sound.{is_sound}
use Rattle.rules.specs.Step.{step_of}

-- ---- events

-- the refusals of each kind of event, "in order 16, 12, 6, 1, 2, 3, 4, 5, 7, 10, 8, 9, 11", after 17 and 16
abbrev pub own_refusals : Chip → Event → List ℕ
-- "1: width not 1, 2 or 4", "2: address no multiple of the width", "3: register access unprivileged, but for a word write to SWTRIG with
-- CFGCTRL bit 1 set", "4: the aligned word holding this address is no register", "5: width not allowed there"
own_refusals c (event.Read w a) = 1 ∷ 2 ∷ 3 ∷ 4 ∷ 5 ∷ []
own_refusals c (event.Write w a v) = 1 ∷ 2 ∷ 3 ∷ 4 ∷ 5 ∷ []
-- "6: line above 54, level above 1"
own_refusals c (event.Line line level) = 6 ∷ []
own_refusals c event.Nmi = []
own_refusals c event.Tick = []
-- "7: not a listed fault bit", "10: locked: fault or SVC at -1 or lower"
own_refusals c (event.Fault b a) = 7 ∷ 10 ∷ []
own_refusals c event.Svc = 10 ∷ []
-- "6: .. special above 4"; document 02, E10: "6 for special registers 1, 2 and 3"
own_refusals c (event.Special which v) = 6 ∷ []
-- "8: nothing to enter"
own_refusals c event.Entry = 8 ∷ []
-- "9: return value not among the three, or wrong for the nest"
own_refusals c (event.Return v) = 9 ∷ []
-- "6: .. access kind above 2", "1: width not 1, 2 or 4; a fetch not 2", "2: address no multiple of the width"; document 02, E10:
-- "access events are refused by 19, before all others but 16"
own_refusals c (event.Access kind w a) = cond (is_armv6m c) (19 ∷ []) (6 ∷ 1 ∷ 2 ∷ [])
-- document 02, E1: "6 for a line above 54, as for event 3"
own_refusals c (event.Lost line) = 6 ∷ []
-- E5: "Refusals: none new."
own_refusals c (event.Skip n) = []

-- "16: state not sound", of every kind; document 02, E7: "17, a chip setup with w outside 3 to 8, checked before all others"
abbrev pub refusals : Chip → Event → List ℕ
refusals c e = 17 ∷ 16 ∷ own_refusals c e

-- "A refusal returns its number with every other field 0 and changes nothing."
pub record Refused (c : Chip) (e : Event) (m : Model) (a : Answer) : Type 0 where
  pub number : T (is_in a.refusal (refusals c e))
  pub nothing : a ≡ refuse a.refusal m

-- ---- the claim, for every chip

pub record Demand1 (c : Chip) : Type 0 where
  -- "A refusal carries its number from document 01 .. and leaves the model .. unchanged."
  pub events : (m : Model) (e : Event) → ((step_of c m e).refusal ≡ 0) ⊎ Refused c e m (step_of c m e)
  -- "17, a chip setup with w outside 3 to 8, checked before all others, 15 and 16 too": in exactly that case, whatever the state is
  pub misfit : (m : Model) (e : Event) → ((step_of c m e).refusal ≡ 17) ↔ (fits c ≡ false)
  -- "16: state not sound": in exactly that case, on a chip that fits
  pub unsound : (m : Model) (e : Event) → ((step_of c m e).refusal ≡ 16) ↔ ((fits c ≡ true) × (is_sound c m ≡ false))

-- ---- ".. and every lent byte unchanged": scripts and frames

-- "13: script number cut short .., too large or not shortest", "14: unknown kind", "15: script over 65,536 bytes"; reading changes no byte
pub record ReadRefused (a : ReadAnswer) : Type 0 where
  pub number : T (is_in a.refusal (15 ∷ 13 ∷ 14 ∷ []))
  pub nothing : a ≡ record { refusal = a.refusal; kind = 0; arguments = []; next = 0 }

-- "15: .. written event ending past its slice or 65,536"
pub record WriteRefused (out left : List ℕ) (a : WrittenAnswer) : Type 0 where
  pub nothing : a ≡ record { refusal = 15; next = 0 }
  pub bytes : left ≡ out

-- "12: window over 65,536 bytes, base no multiple of 4, or end past 2^32", "11: SP no multiple of 4, or frame below 0 or not wholly in the window"
pub record StackRefused (window left : List ℕ) (a : StackAnswer) : Type 0 where
  pub number : T (is_in a.refusal (12 ∷ 11 ∷ []))
  pub nothing : a ≡ record { refusal = a.refusal; frame = 0 }
  pub bytes : left ≡ window

-- "11: .. or restored SP past 32 bits"; unstacking changes no byte
pub record UnstackRefused (a : UnstackAnswer) : Type 0 where
  pub number : T (is_in a.refusal (12 ∷ 11 ∷ []))
  pub nothing : a ≡ record { refusal = a.refusal; sp = 0; words = no_words }

pub record LentBytes : Type 0 where
  pub reading : (bytes : List ℕ) (at : ℕ) → ((read_answer (read_event bytes at)).refusal ≡ 0) ⊎ ReadRefused (read_answer (read_event bytes at))
  pub writing : (out : List ℕ) (at : ℕ) (e : Event) → ((written_answer (write_event out at e)).refusal ≡ 0) ⊎ WriteRefused out (bytes_after out at e) (written_answer (write_event out at e))
  pub stacking : (base sp : ℕ) (window : List ℕ) (words : Words) (align : Bool) → ((stack_answer (stacked base (length window) sp align)).refusal ≡ 0) ⊎ StackRefused window (stacked_window base window sp words align) (stack_answer (stacked base (length window) sp align))
  pub unstacking : (base sp : ℕ) (window : List ℕ) (align : Bool) → ((unstack_answer (unstacked base window sp align)).refusal ≡ 0) ⊎ UnstackRefused (unstack_answer (unstacked base window sp align))
