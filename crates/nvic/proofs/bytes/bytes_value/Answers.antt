-- The four bytes, each by its call.
use mathlib.Core.Path.{◌∙◌}
use native.Mathlib.Nat.{add-zero}
use Rattle.rules.specs.Reads.{bytes_value}
use Rattle.nvic.proofs.bytes.bytes_value.Goals as goal

pub returns : goal.returns
unfolding bytes_value
returns c = c.word_of_bytes.ensures ∙ simp (c.byte_after-4.ensures, c.byte_after-3.ensures, c.byte_after-2.ensures, c.byte_after.ensures, add-zero)
