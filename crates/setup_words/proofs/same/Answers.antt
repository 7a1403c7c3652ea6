-- Equality of slices is `is_same`.
use Rattle.std.proofs.Common.{◌∙◌}
use Rattle.setup_words.proofs.Laws.{same_bytes}
use Rattle.setup_words.proofs.same.Goals as goal

pub returns : goal.returns
returns c = c.eq.ensures ∙ same_bytes _ _
