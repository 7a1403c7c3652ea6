-- What the code that every chip shares asks of a chip.
use Rattle.std.specs.Prelude.{◌≤◌}
use Rattle.rules.specs.declared.Chip.{Chip}

-- Exceptions' numbers are bytes, so a chip has at most 240 lines.
pub record FewLines (c : Chip) : Type 0 where
  pub lines : c.lines ≤ 240
