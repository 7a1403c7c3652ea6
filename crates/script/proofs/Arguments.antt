-- Three arguments read one by one, each only if the kind has it, are the numbers that the definition reads in a row: an argument
-- that is not there is 0, which `with_arguments` takes it for.
use Prim.Native.Nat.{ℕ, zero, suc, ◌-◌}
use mathlib.Core.Path.{◌≡◌, refl, sym, ap, ◌∙◌}
use mathlib.Core.List.{List, [], ◌∷◌}
use Rattle.std.specs.Prelude.{Option, Some, None, Result, Err}
use Rattle.std.specs.Option.{ok_or}
use Rattle.std.proofs.lemmas.Option.{none-some}
use Rattle.std.proofs.NetLemmas.Options.{same_parts}
use native.Mathlib.Omega.{arith}
use lib.Dec.{ltb, leb-suc-suc}
use borrow.Author.Tests.{lt-ltb, le-ltb}
use Rattle.refusals.specs.declared.Refusal.{Refusal}
use Rattle.refusals.specs.declared.Refusal.TheVariants as refusal
use Rattle.numbers.specs.Number.{number_refusal}
use Rattle.script.specs.declared.Event.{Event}
use Rattle.script.specs.Answers.{read_answer}
use Rattle.script.specs.Event.{arity}
use Rattle.script.specs.EventLaws.{arity_few}
use Rattle.script.specs.Reading.{Numbers, numbers, broken, before, then, numbers_at, event_of, with_arguments, with_kind}
use Rattle.script.specs.Steps.{number_if}

-- what a `?` hands on where no number stands
pub no_number : {A : Type 0} (o : Option A) (r : Refusal) → Err r ≡ ok_or o refusal.Number → r ≡ refusal.Number
no_number None r e = cc
no_number (Some a) r e = let z : ◌≡◌ {A = ℕ} 0 1 = cc in let x : ⊥ = omega arith in absurd x

-- the refusal of a script's number is that of an event that it stands in, as its kind or among its arguments
pub kind_refused : (bytes : List ℕ) → (read_answer (with_kind bytes None)).refusal ≡ number_refusal None
unfolding with_kind
kind_refused bytes = refl

pub argument_refused : (kind : ℕ) → (read_answer (with_arguments kind broken)).refusal ≡ number_refusal None
unfolding with_arguments
argument_refused kind = refl

there_next : (i count : ℕ) → ltb (suc i) count ≡ ltb i (count - 1)
there_next i zero = le-ltb (suc i) 0 (omega arith) ∙ sym (le-ltb i 0 (omega arith))
there_next i (suc k) = let e : suc k - 1 ≡ k = omega arith in leb-suc-suc (suc i) k ∙ ap (ltb i) (sym e)

-- what is made of the numbers takes one that is not there for 0
abbrev Pads : (Numbers → Result (Event × ℕ) Refusal) → Type 0
Pads f = (at : ℕ) → f (numbers [] at) ≡ f (numbers (0 ∷ []) at)

one_found : (f : Numbers → Result (Event × ℕ) Refusal) → Pads f → (bytes : List ℕ) (at count n next : ℕ) → number_if bytes at (ltb 0 count) ≡ Some (n, next) → f (numbers_at bytes at count) ≡ f (before n (numbers_at bytes next (count - 1)))
unfolding number_if numbers_at before then
one_found f pads bytes at zero n next e =
    let d = same_parts 0 n at next e in
    rw (← d.0, ← d.1) (pads at)
one_found f pads bytes at (suc k) n next e =
    let d = simp (lt-ltb 0 (suc k) (omega arith)) at e in
    let s : suc k - 1 ≡ k = omega arith in
    simp (d, s)

one_bad : (bytes : List ℕ) (at count : ℕ) → number_if bytes at (ltb 0 count) ≡ None → numbers_at bytes at count ≡ broken
unfolding number_if numbers_at then
one_bad bytes at zero e = absurd (none-some _ (sym e))
one_bad bytes at (suc k) e = simp (simp (lt-ltb 0 (suc k) (omega arith)) at e)

module _ (bytes : List ℕ) (kind at count : ℕ) (k : count ≡ arity kind) where
  abbrev Answers : Result (Event × ℕ) Refusal → Type 0
  Answers r = r ≡ with_arguments kind (numbers_at bytes at (arity kind))

  pub first_bad : number_if bytes at (ltb 0 count) ≡ None → Answers (Err refusal.Number)
  unfolding with_arguments
  first_bad e = rw (← k) (sym (ap (with_arguments kind) (one_bad bytes at count e)))

  module _ (a after-a : ℕ) (ea : number_if bytes at (ltb 0 count) ≡ Some (a, after-a)) where
    one : with_arguments kind (numbers_at bytes at (arity kind)) ≡ with_arguments kind (before a (numbers_at bytes after-a (count - 1)))
    unfolding with_arguments before
    one = rw (← k) (one_found (with_arguments kind) (λ n. refl) bytes at count a after-a ea)

    pub second_bad : number_if bytes after-a (ltb 1 count) ≡ None → Answers (Err refusal.Number)
    unfolding with_arguments before
    second_bad e =
        sym (one ∙ ap (λ (ns : Numbers). with_arguments kind (before a ns)) (one_bad bytes after-a (count - 1) (rw (there_next 0 count) at e)))

    module _ (b after-b : ℕ) (eb : number_if bytes after-a (ltb 1 count) ≡ Some (b, after-b)) where
      two : with_arguments kind (before a (numbers_at bytes after-a (count - 1))) ≡ with_arguments kind (before a (before b (numbers_at bytes after-b (count - 1 - 1))))
      unfolding with_arguments before
      two = one_found (λ ns. with_arguments kind (before a ns)) (λ n. refl) bytes after-a (count - 1) b after-b (rw (there_next 0 count) at eb)

      pub third_bad : number_if bytes after-b (ltb 2 count) ≡ None → Answers (Err refusal.Number)
      unfolding with_arguments before
      third_bad e =
          sym (one ∙ two ∙ ap (λ (ns : Numbers). with_arguments kind (before a (before b ns))) (one_bad bytes after-b (count - 1 - 1) (rw (there_next 1 count, there_next 0 (count - 1)) at e)))

      pub all_found : (c after-c : ℕ) → number_if bytes after-b (ltb 2 count) ≡ Some (c, after-c) → Answers (event_of kind a b c after-c)
      unfolding with_arguments before numbers_at
      all_found c after-c e =
          let few = arity_few kind in
          let none : count - 1 - 1 - 1 ≡ 0 = omega arith in
          sym (one ∙ two ∙ one_found (λ ns. with_arguments kind (before a (before b ns))) (λ n. refl) bytes after-b (count - 1 - 1) c after-c (rw (there_next 1 count, there_next 0 (count - 1)) at e) ∙ rw none)
