-- Past the end nothing is written, whoever has a byte there; no list is as long as a sum that passes a word.
use mathlib.Core.Path.{sym}
use Rattle.std.proofs.Common.{rules, ◌+◌, ◌≤◌, length}
use Rattle.nvic.proofs.Laws.{with_byte_past}
use Rattle.nvic.proofs.bytes.put_byte_after.Goals as goal

pub returns-in_default : goal.returns-in_default
returns-in_default c =
    let h : length c.args.priority.now ≤ c.args.n + c.args.lane = search rules in
    sym (with_byte_past _ _ _ _ h)
