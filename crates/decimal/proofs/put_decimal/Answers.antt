-- The invariant: what is left to write is the decimal of `rest`, which ends at `last`.
use Prim.Native.Nat.{ℕ, ◌+◌, ◌/◌, ◌%◌, ◌≤◌}
use mathlib.Core.Path.{◌≡◌, refl, sym, ap, ◌∙◌}
use mathlib.Core.List.{List, [], ◌∷◌}
use native.Mathlib.Omega.{arith}
use lib.ListN.{length, set, length-set, length-append}
use Rattle.decimal.specs.Decimal.{digit, digits}
use Rattle.decimal.specs.Laws.{digits_small, digits_step, digits_some, decimal_room_lem}
use Rattle.decimal.specs.Written.{written, written_one, written_last}
use Rattle.decimal.proofs.put_decimal.Goals as goal

ends : (at rest last : ℕ) → 10 ≤ rest → last + 1 ≡ at + length (digits rest) → last ≡ at + length (digits (rest / 10))
ends at rest last h e = omega (arith, ap length (digits_step rest h) ∙ length-append (digits (rest / 10)) (digit (rest % 10) ∷ []))

pub overflow_add-next : goal.overflow_add-next
overflow_add-next c = omega (arith, decimal_room_lem c.args.n c.ranges.n.fits)

pub overflow_sub-last : goal.overflow_sub-last
overflow_sub-last c = omega (arith, digits_some c.args.n)

pub loop-rest-init : goal.loop-rest-init
loop-rest-init c = (omega arith, (omega (arith, digits_some c.args.n), (refl, refl)))

pub bounds-out-last : goal.bounds-out-last
bounds-out-last c = omega (arith, decimal_room_lem c.loop-rest.rest (omega arith))

pub overflow_sub-last-in-loop-rest : goal.overflow_sub-last-in-loop-rest
overflow_sub-last-in-loop-rest c = omega (arith, ends _ _ _ c.loop-rest-test.true c.loop-rest.invariant.1.0, digits_some (c.loop-rest.rest / 10))

pub loop-rest-preserved : goal.loop-rest-preserved
loop-rest-preserved c =
    let e = ends c.args.at c.loop-rest.rest c.loop-rest.last c.loop-rest-test.true c.loop-rest.invariant.1.0 in
    let r = decimal_room_lem c.loop-rest.rest (omega arith) in (
      omega arith,
      (
        omega (arith, digits_some (c.loop-rest.rest / 10)),
        (
          length-set c.loop-rest.out _ _ ∙ c.loop-rest.invariant.1.1.0,
          ap (λ (i : ℕ). written c.args.at (digits (c.loop-rest.rest / 10)) (set c.loop-rest.out i (digit (c.loop-rest.rest % 10)))) e
              ∙ written_last c.args.at (digits (c.loop-rest.rest / 10)) (digit (c.loop-rest.rest % 10)) c.loop-rest.out (omega arith)
              ∙ ap (λ (x : List ℕ). written c.args.at x c.loop-rest.out) (sym (digits_step c.loop-rest.rest c.loop-rest-test.true))
              ∙ c.loop-rest.invariant.1.1.1,
        ),
      ),
    )

pub bounds-out-last-2 : goal.bounds-out-last-2
bounds-out-last-2 c = omega (arith, decimal_room_lem c.loop-rest.rest (omega arith))

pub returns-clause-puts : goal.returns-clause-puts
returns-clause-puts c = let d = digits_small c.loop-rest.rest c.loop-rest-test.false in
    let e : c.loop-rest.last ≡ c.args.at = omega (arith, ap length d) in
    let r = decimal_room_lem c.loop-rest.rest (omega arith) in record {
      next_is = ap (λ (n : ℕ). c.args.at + n) c.places.ensures;
      bytes =
          ap (λ (i : ℕ). set c.loop-rest.out i (digit c.loop-rest.rest)) e
          ∙ written_one c.args.at (digit c.loop-rest.rest) c.loop-rest.out (omega arith)
          ∙ ap (λ (x : List ℕ). written c.args.at x c.loop-rest.out) (sym d)
          ∙ c.loop-rest.invariant.1.1.1;
    }

pub returns-clause-within : goal.returns-clause-within
returns-clause-within c = let d = digits_small c.loop-rest.rest c.loop-rest-test.false in
    let e : c.loop-rest.last ≡ c.args.at = omega (arith, ap length d) in
    let r = decimal_room_lem c.loop-rest.rest (omega arith) in omega (arith, decimal_room_lem c.args.n c.ranges.n.fits)
