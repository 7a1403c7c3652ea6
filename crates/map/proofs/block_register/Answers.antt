-- Block by block.
use mathlib.Core.Path.{◌∙◌}
use Rattle.rules.specs.Map.{block_register}
use Rattle.map.proofs.block_register.Goals as goal

pub returns : goal.returns
unfolding block_register
returns c = c.bank_register.ensures ∙ simp (c.flags_or-active.ensures, c.bytes_or-bytes.ensures, c.guard_or-guard.ensures)
