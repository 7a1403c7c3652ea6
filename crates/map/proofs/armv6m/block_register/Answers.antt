-- Block by block.
use mathlib.Core.Path.{◌∙◌}
use Rattle.rules.specs.MapArmv6m.{armv6m_block}
use Rattle.map.proofs.armv6m.block_register.Goals as goal

pub returns : goal.returns
unfolding armv6m_block
returns c = c.bank_register.ensures ∙ simp c.bytes_or.ensures
