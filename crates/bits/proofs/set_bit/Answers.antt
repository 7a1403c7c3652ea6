-- A bit that is clear is added as 2 ^ k; a bit that is set leaves the word as it is.
use mathlib.Core.Path.{◌≡◌, sym, ◌∙◌}
use mathlib.Core.Bool.{true, false}
use Rattle.bits.specs.Words.{bit_at}
use Rattle.bits.specs.WordLaws.{with_bit_as_is, with_bit_lt}
use Rattle.bits.proofs.Laws.{one_shl, add_bit}
use Rattle.bits.proofs.set_bit.Goals as goal

pub returns-then-test_bit : goal.returns-then-test_bit
returns-then-test_bit c = sym (with_bit_as_is c.args.k true c.args.x (sym c.test_bit.ensures ∙ c.if-test_bit.true))

pub overflow_add-result : goal.overflow_add-result
overflow_add-result c =
    rw (one_shl c.args.k c.requires, add_bit c.args.k c.args.x ((let h : bit_at c.args.k c.args.x ≡ false = sym c.test_bit.ensures ∙ c.if-test_bit.false in h)))
    (record { fits = with_bit_lt c.args.k true c.args.x 32 c.requires c.ranges.x.fits })

pub returns : goal.returns
returns c =
    rw (one_shl c.args.k c.requires) (add_bit c.args.k c.args.x ((let h : bit_at c.args.k c.args.x ≡ false = sym c.test_bit.ensures ∙ c.if-test_bit.false in h)))
