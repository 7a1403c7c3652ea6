-- Shifting left by 31 - h drops the bits above h; shifting right by as much and l more leaves bits h:l at the bottom.
use Rattle.bits.proofs.Laws.{field_by_shifts}
use Rattle.bits.proofs.field.Goals as goal

pub returns : goal.returns
returns c = field_by_shifts c.args.h c.args.l c.args.x c.requires.0 c.requires.1
