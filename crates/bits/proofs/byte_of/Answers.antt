-- A shift by 8 i divides by 256 ^ i.
use Rattle.bits.proofs.Laws.{byte_by_shift}
use Rattle.bits.proofs.byte_of.Goals as goal

pub returns : goal.returns
returns c = byte_by_shift c.args.i c.args.x c.requires
