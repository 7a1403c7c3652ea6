-- What reads or writes lent bytes looks at its refusals first, and a refusal leaves the bytes.
use Prim.Native.Nat.{ℕ, ◌+◌}
use mathlib.Core.Path.{◌≡◌, refl}
use mathlib.Core.Logic.{◌⊎◌, inl, inr}
use mathlib.Core.List.{List, [], ◌∷◌}
use mathlib.Core.Bool.{Bool, true, false, not, cond}
use native.Mathlib.Omega.{arith}
use lib.ListN.{length, get_or}
use lib.Seq.{sets}
use lib.Dec.{T, ltb, eqb, eqb→eq}
use Rattle.bools.specs.Tests.{by_cases, either}
use Rattle.std.specs.Prelude.{Option, Some, None, Result, Ok, Err}
use Rattle.refusals.specs.declared.Refusal.{Refusal}
use Rattle.refusals.specs.declared.Refusal.TheVariants as refusal
use Rattle.refusals.specs.Refusals.{number_of}
use Rattle.numbers.specs.Number.{number_at}
use Rattle.script.specs.declared.Event.{Event}
use Rattle.script.specs.Event.{arity}
use Rattle.script.specs.Answers.{read_answer, written_answer}
use Rattle.script.specs.Reading.{Numbers, numbers, broken, numbers_at, event_of, with_arguments, with_kind, read_event}
use Rattle.script.specs.Writing.{event_bytes, fits, write_event, bytes_after}
use Rattle.frame.specs.declared.Words.{Words}
use Rattle.frame.specs.declared.Unstacked.{Unstacked}
use Rattle.frame.specs.Answers.{stack_answer, unstack_answer}
use Rattle.frame.specs.Frame.{window_fits, stack_fits, refusal_of, stacked, stacked_window, unstack_fits, unstacked}
use Rattle.frame.proofs.RoundTrip.{stack_refused}
use Rattle.rules.specs.Chip.{is_in}
use Rattle.demand1.specs.Demand1.{ReadRefused, WriteRefused, StackRefused, UnstackRefused, LentBytes}

-- ---- scripts

abbrev Read : Result (Event × ℕ) Refusal → Type 0
Read a = T (is_in (read_answer a).refusal (0 ∷ 15 ∷ 13 ∷ 14 ∷ []))

read_answer_lem : (a : Result (Event × ℕ) Refusal) → Read a → ((read_answer a).refusal ≡ 0) ⊎ ReadRefused (read_answer a)
read_answer_lem (Ok (e, next)) t = inl refl
read_answer_lem (Err r) t = go (either (eqb (number_of r) 0) (is_in (number_of r) (15 ∷ 13 ∷ 14 ∷ [])) t)
  where
    go : T (eqb (number_of r) 0) ⊎ T (is_in (number_of r) (15 ∷ 13 ∷ 14 ∷ [])) → (number_of r ≡ 0) ⊎ ReadRefused (read_answer (Err r))
    go (inl z) = inl (eqb→eq (number_of r) 0 z)
    go (inr u) = inr (record { number = u; nothing = refl })

event_read : (kind a b c next : ℕ) → Read (event_of kind a b c next)
unfolding event_of
event_read kind a b c next =
    by_cases Read (eqb kind 1) (λ _. tt)
    (λ _. by_cases Read (eqb kind 2) (λ _. tt)
    (λ _. by_cases Read (eqb kind 3) (λ _. tt)
    (λ _. by_cases Read (eqb kind 4) (λ _. tt)
    (λ _. by_cases Read (eqb kind 5) (λ _. tt)
    (λ _. by_cases Read (eqb kind 6) (λ _. tt)
    (λ _. by_cases Read (eqb kind 7) (λ _. tt)
    (λ _. by_cases Read (eqb kind 8) (λ _. tt)
    (λ _. by_cases Read (eqb kind 9) (λ _. tt)
    (λ _. by_cases Read (eqb kind 10) (λ _. tt)
    (λ _. by_cases Read (eqb kind 11) (λ _. tt)
    (λ _. by_cases Read (eqb kind 12) (λ _. tt)
    (λ _. by_cases Read (eqb kind 13) (λ _. tt) (λ _. tt)))))))))))))

arguments_read : (kind : ℕ) (ns : Numbers) → Read (with_arguments kind ns)
unfolding with_arguments
arguments_read kind (numbers ns next) = event_read kind (get_or ns 0 0) (get_or ns 1 0) (get_or ns 2 0) next
arguments_read kind broken = tt

kind_read : (bytes : List ℕ) (n : Option (ℕ × ℕ)) → Read (with_kind bytes n)
unfolding with_kind
kind_read bytes (Some (kind, next)) = arguments_read kind (numbers_at bytes next (arity kind))
kind_read bytes None = tt

reading : (bytes : List ℕ) (at : ℕ) → ((read_answer (read_event bytes at)).refusal ≡ 0) ⊎ ReadRefused (read_answer (read_event bytes at))
unfolding read_event
reading bytes at =
    read_answer_lem (read_event bytes at) (by_cases Read (ltb 65536 (length bytes)) (λ _. tt) (λ _. kind_read bytes (number_at bytes at)))

writing : (out : List ℕ) (at : ℕ) (e : Event) → ((written_answer (write_event out at e)).refusal ≡ 0) ⊎ WriteRefused out (bytes_after out at e) (written_answer (write_event out at e))
unfolding write_event bytes_after
writing out at e = go (fits out at e)
  where
    go : (b : Bool) → ((written_answer (cond b (Ok (at + length (event_bytes e))) (Err refusal.Length))).refusal ≡ 0) ⊎ WriteRefused out (cond b (sets out at (event_bytes e)) out) (written_answer (cond b (Ok (at + length (event_bytes e))) (Err refusal.Length)))
    go true = inl refl
    go false = inr (record { nothing = refl; bytes = refl })

-- ---- frames

no_window : (window frame : Bool) → T (not window) → refusal_of window frame ≡ 0 → ⊥
unfolding refusal_of
no_window true frame t e = absurd t
no_window false frame t e = omega arith

no_frame : (window frame : Bool) → T (not frame) → refusal_of window frame ≡ 0 → ⊥
unfolding refusal_of
no_frame true true t e = absurd t
no_frame true false t e = omega arith
no_frame false frame t e = omega arith

abbrev Stacks : List ℕ → List ℕ → Result ℕ Refusal → Type 0
Stacks window left a = ((stack_answer a).refusal ≡ 0) ⊎ StackRefused window left (stack_answer a)

stacking : (base sp : ℕ) (window : List ℕ) (words : Words) (align : Bool) → ((stack_answer (stacked base (length window) sp align)).refusal ≡ 0) ⊎ StackRefused window (stacked_window base window sp words align) (stack_answer (stacked base (length window) sp align))
unfolding stacked
stacking base sp window words align =
    let w = window_fits base (length window) in
    let f = stack_fits base (length window) sp align in
    by_cases (Stacks window (stacked_window base window sp words align)) w
    (λ _. by_cases (Stacks window (stacked_window base window sp words align)) f (λ _. inl refl)
    (λ no. inr (record { number = tt; nothing = refl; bytes = stack_refused base sp window words align (no_frame w f no) })))
    (λ no. inr (record { number = tt; nothing = refl; bytes = stack_refused base sp window words align (no_window w f no) }))

abbrev Unstacks : Result Unstacked Refusal → Type 0
Unstacks a = ((unstack_answer a).refusal ≡ 0) ⊎ UnstackRefused (unstack_answer a)

unstacking : (base sp : ℕ) (window : List ℕ) (align : Bool) → ((unstack_answer (unstacked base window sp align)).refusal ≡ 0) ⊎ UnstackRefused (unstack_answer (unstacked base window sp align))
unfolding unstacked
unstacking base sp window align =
    by_cases Unstacks (window_fits base (length window))
    (λ _. by_cases Unstacks (unstack_fits base (length window) sp) (λ _. inl refl) (λ _. inr (record { number = tt; nothing = refl })))
    (λ _. inr (record { number = tt; nothing = refl }))

pub lent_bytes : LentBytes
lent_bytes = record { reading = reading; writing = writing; stacking = stacking; unstacking = unstacking }
