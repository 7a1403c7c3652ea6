-- The bytes of an event are those of its kind and of three arguments, each of which is there or not.
use Prim.Native.Nat.{ℕ, zero, suc, ◌+◌, ◌≤◌, ◌<◌, min}
use mathlib.Core.Path.{◌≡◌, refl, ap, ◌∙◌}
use mathlib.Core.List.{List, [], ◌∷◌, ◌++◌, append-nil}
use mathlib.Core.Bool.{Bool, true, false}
use native.Mathlib.Omega.{arith}
use Rattle.std.specs.Prelude.{Ok, Err}
use lib.ListN.{length, set, take, length-append}
use lib.Seq.{sets}
use lib.Dec.{ltb}
use borrow.Author.Tests.{le-leb, lt-leb}
use Rattle.refusals.specs.declared.Refusal.TheVariants as refusal
use Rattle.script.specs.declared.Event.{Event}
use Rattle.script.specs.declared.writing.Spelled.{Spelled}
use Rattle.script.specs.Event.{kind_of, arguments_of, arity}
use Rattle.script.specs.EventLaws.{arity_few}
use Rattle.numbers.specs.Number.{number_bytes}
use Rattle.numbers.specs.NumberLaws.{groups_size}
use Rattle.script.specs.Steps.{bytes_if, numbers_of}
use Rattle.script.specs.Writing.{numbers_bytes, event_bytes, fits, write_event, bytes_after}

pub size_small : (there : Bool) (n size : ℕ) → size ≡ length (bytes_if there n) → size ≤ 5
unfolding bytes_if number_bytes
size_small true n size e = omega (arith, groups_size 5 n)
size_small false n size e = omega arith

pub sets_append : (l : List ℕ) (at : ℕ) (a b : List ℕ) → sets l at (a ++ b) ≡ sets (sets l at a) (at + length a) b
sets_append l at [] b = let e : at + 0 ≡ at = omega arith in rw e
sets_append l at (x ∷ a) b =
    let e : suc at + length a ≡ at + suc (length a) = omega arith in
    sets_append (set l at x) (suc at) a b ∙ ap (λ (i : ℕ). sets (sets (set l at x) (suc at) a) i b) e

abbrev Parts : ℕ → ℕ → ℕ → ℕ → ℕ → Type 0
Parts count kind a b c =
    numbers_bytes (kind ∷ take count (a ∷ (b ∷ (c ∷ []))))
    ≡ bytes_if true kind ++ (bytes_if (ltb 0 count) a ++ (bytes_if (ltb 1 count) b ++ bytes_if (ltb 2 count) c))

parts : (count kind a b c : ℕ) → count ≤ 3 → Parts count kind a b c
unfolding numbers_bytes bytes_if
parts zero kind a b c h = refl
parts (suc zero) kind a b c h = refl
parts (suc (suc zero)) kind a b c h = refl
parts (suc (suc (suc zero))) kind a b c h = simp append-nil
parts (suc (suc (suc (suc k)))) kind a b c h = let z : ⊥ = omega arith in absurd z

pub event_parts : (n : Spelled) (count : ℕ) → count ≡ arity n.0 → numbers_bytes (numbers_of n) ≡ bytes_if true n.0 ++ (bytes_if (ltb 0 count) n.1 ++ (bytes_if (ltb 1 count) n.2 ++ bytes_if (ltb 2 count) n.3))
unfolding numbers_of
event_parts n count k = rw (← k) (parts count n.0 n.1 n.2 n.3 (omega (arith, arity_few n.0)))

pub event_length : (n : Spelled) (count : ℕ) → count ≡ arity n.0 → length (numbers_bytes (numbers_of n)) ≡ length (bytes_if true n.0) + (length (bytes_if (ltb 0 count) n.1) + (length (bytes_if (ltb 1 count) n.2) + length (bytes_if (ltb 2 count) n.3)))
event_length n count k = ap length (event_parts n count k) ∙ simp length-append

pub event_small : (n : Spelled) → length (numbers_bytes (numbers_of n)) ≤ 20
event_small n =
    let count = arity n.0 in
    omega (
      arith,
      event_length n count refl,
      size_small true n.0 _ refl,
      size_small (ltb 0 count) n.1 _ refl,
      size_small (ltb 1 count) n.2 _ refl,
      size_small (ltb 2 count) n.3 _ refl,
    )

-- what is written and answered, by where the event ends

module _ (out : List ℕ) (at : ℕ) (e : Event) where
  pub too_long : min (length out) 65536 < at + length (event_bytes e) → (Err refusal.Length ≡ write_event out at e) × (out ≡ bytes_after out at e)
  unfolding write_event bytes_after fits
  too_long h = simp (lt-leb (at + length (event_bytes e)) (min (length out) 65536) h) (refl, refl)

  pub room : at + length (event_bytes e) ≤ min (length out) 65536 → (Ok (at + length (event_bytes e)) ≡ write_event out at e) × (sets out at (event_bytes e) ≡ bytes_after out at e)
  unfolding write_event bytes_after fits
  room h = simp (le-leb (at + length (event_bytes e)) (min (length out) 65536) h) (refl, refl)

-- the numbers that the code makes of an event have its bytes
pub same_bytes : (n : Spelled) (e : Event) → numbers_of n ≡ kind_of e ∷ arguments_of e → numbers_bytes (numbers_of n) ≡ event_bytes e
unfolding event_bytes
same_bytes n e q = ap numbers_bytes q
