-- One event read from a script (document 01, "Scripts" and refusals 13, 14 and 15).
use Rattle.std.specs.Prelude.{ℕ, zero, suc, List, [], ◌∷◌, Option, Some, None, Result, Ok, Err, cond, length, get_or, eqb, ltb}
use Rattle.refusals.specs.declared.Refusal.{Refusal}
use Rattle.refusals.specs.declared.Refusal.TheVariants as refusal
use Rattle.script.specs.declared.Event.{Event}
use Rattle.script.specs.declared.Event.TheVariants.{Read, Write, Line, Nmi, Tick, Fault, Svc, Special, Entry, Return, Access, Lost, Skip}
use Rattle.script.specs.Event.{access_kind, arity}
use Rattle.numbers.specs.Number.{number_at}

-- some numbers in a row and the offset after them, or one of them is refused by 13
pub data Numbers : Type 0 where
  numbers : List ℕ → ℕ → Numbers
  broken : Numbers

unfoldable pub before : ℕ → Numbers → Numbers
before n (numbers ns next) = numbers (n ∷ ns) next
before n broken = broken

unfoldable pub then : Option (ℕ × ℕ) → (ℕ → Numbers) → Numbers
then (Some (n, next)) rest = before n (rest next)
then None rest = broken

unfoldable pub numbers_at : List ℕ → ℕ → ℕ → Numbers
numbers_at bytes at zero = numbers [] at
numbers_at bytes at (suc count) = then (number_at bytes at) (λ next. numbers_at bytes next count)

-- the event of a kind with its arguments, of which it looks at as many as it has
unfoldable pub event_of : ℕ → ℕ → ℕ → ℕ → ℕ → Result (Event × ℕ) Refusal
event_of kind a b c next =
    cond (eqb kind 1) (Ok (Read a b, next))
    (cond (eqb kind 2) (Ok (Write a b c, next))
    (cond (eqb kind 3) (Ok (Line a b, next))
    (cond (eqb kind 4) (Ok (Nmi, next))
    (cond (eqb kind 5) (Ok (Tick, next))
    (cond (eqb kind 6) (Ok (Fault a b, next))
    (cond (eqb kind 7) (Ok (Svc, next))
    (cond (eqb kind 8) (Ok (Special a b, next))
    (cond (eqb kind 9) (Ok (Entry, next))
    (cond (eqb kind 10) (Ok (Return a, next))
    (cond (eqb kind 11) (Ok (Access (access_kind a) b c, next))
    (cond (eqb kind 12) (Ok (Lost a, next))
    (cond (eqb kind 13) (Ok (Skip a, next))
    (Err refusal.Kind)))))))))))))

unfoldable pub with_arguments : ℕ → Numbers → Result (Event × ℕ) Refusal
with_arguments kind (numbers ns next) = event_of kind (get_or ns 0 0) (get_or ns 1 0) (get_or ns 2 0) next
with_arguments kind broken = Err refusal.Number

unfoldable pub with_kind : List ℕ → Option (ℕ × ℕ) → Result (Event × ℕ) Refusal
with_kind bytes (Some (kind, next)) = with_arguments kind (numbers_at bytes next (arity kind))
with_kind bytes None = Err refusal.Number

-- "in a script 15 first, then kind before arguments"
unfoldable pub read_event : List ℕ → ℕ → Result (Event × ℕ) Refusal
read_event bytes at = cond (ltb 65536 (length bytes)) (Err refusal.Length) (with_kind bytes (number_at bytes at))
