-- The four bytes in the definition's order.
use mathlib.Core.Path.{◌∙◌, ap}
use native.Mathlib.Nat.{add-zero}
use Rattle.rules.specs.Writes.{with_byte, with_bytes}
use Rattle.nvic.proofs.bytes.put_bytes.Goals as goal

pub returns : goal.returns
unfolding with_bytes
returns c =
    c.put_lane-4.ensures
    ∙ ap (with_byte _ _ _) (c.put_lane-3.ensures
    ∙ ap (with_byte _ _ _) (c.put_lane-2.ensures
    ∙ ap (with_byte _ _ _) (rw add-zero at c.put_lane.ensures)))
