-- A bit that is set is taken away as 2 ^ k; a bit that is clear leaves the word as it is.
use mathlib.Core.Path.{◌≡◌, sym, ◌∙◌}
use mathlib.Core.Bool.{true, false}
use Rattle.bits.specs.Words.{bit_at}
use Rattle.bits.specs.WordLaws.{with_bit_as_is}
use Rattle.bits.proofs.Laws.{one_shl, sub_bit}
use Rattle.bits.proofs.clear_bit.Goals as goal

pub returns-then-test_bit : goal.returns-then-test_bit
returns-then-test_bit c =
    rw (one_shl c.args.k c.requires) (sub_bit c.args.k c.args.x ((let h : bit_at c.args.k c.args.x ≡ true = sym c.test_bit.ensures ∙ c.if-test_bit.true in h))).1

pub returns : goal.returns
returns c = sym (with_bit_as_is c.args.k false c.args.x (sym c.test_bit.ensures ∙ c.if-test_bit.false))
