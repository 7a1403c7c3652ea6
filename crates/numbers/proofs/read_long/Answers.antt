-- The window of five bytes holds the number, and the number tells how long it is.
use Prim.Native.Nat.{ℕ, ◌+◌}
use mathlib.Core.Path.{sym, ap, ◌∙◌}
use native.Mathlib.Omega.{arith}
use borrow.Author.Tests.{le-ltb}
use Rattle.std.specs.Prelude.{Some}
use Rattle.numbers.specs.Number.{number_at}
use Rattle.numbers.specs.NumberLaws.{groups_size, groups_at_step}
use Rattle.numbers.specs.Window.{number_window, number_some, number_none}
use Rattle.numbers.proofs.read_long.Goals as goal

pub returns-then-bytes-at : goal.returns-then-bytes-at
unfolding number_at
returns-then-bytes-at c = sym (groups_at_step _ _ 5 (omega arith) ∙ simp (le-ltb _ _ c.if-bytes-at.true))

pub returns-in_err-n : goal.returns-in_err-n
returns-in_err-n c =
    let w = simp (c.byte-a.ensures, c.byte-b.ensures, c.byte-c.ensures, c.byte-d.ensures, c.byte.ensures) at c.in_err-n.ensures in
    c.from_residual.ensures ∙ sym (number_none _ _ (λ i. omega (arith, c.type_inv.bytes i)) (w ∙ number_window _ _ (λ i. omega (arith, c.type_inv.bytes i))))

pub overflow_add-result : goal.overflow_add-result
overflow_add-result c = omega (arith, c.size.ensures, groups_size 5 c.in_ok-n.n)

pub returns : goal.returns
returns c =
    let w = simp (c.byte-a.ensures, c.byte-b.ensures, c.byte-c.ensures, c.byte-d.ensures, c.byte.ensures) at c.in_ok-n.ensures in
    ap (λ (k : ℕ). Some (c.in_ok-n.n, c.args.at + k)) c.size.ensures
    ∙ sym (number_some _ _ (λ i. omega (arith, c.type_inv.bytes i)) _ (w ∙ number_window _ _ (λ i. omega (arith, c.type_inv.bytes i))))
