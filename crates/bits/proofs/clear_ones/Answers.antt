-- Bit by bit, `x & !ones` is the difference of the digits cut at 0.
use Rattle.bits.proofs.Laws.{and_not}
use Rattle.bits.proofs.clear_ones.Goals as goal

pub returns : goal.returns
returns c = and_not 32 c.args.x c.args.ones c.ranges.x.fits c.ranges.ones.fits
