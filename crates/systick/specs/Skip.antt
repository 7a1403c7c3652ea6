-- Document 02, E5, "Skip idle time": many ticks of a timer, as so many single ticks, one after the other.
use Rattle.std.specs.Prelude.{ℕ, zero, suc, ◌||◌}
use Rattle.systick.specs.declared.Timer.{Timer}
use Rattle.systick.specs.declared.Ticked.{Ticked}
use Rattle.systick.specs.Timer.{steady, tick_of}

-- some ticks and then some more: the timer that the last leaves, and whether any of them fell to 0 or makes 15 pending
abbrev pub and_then : Ticked → Ticked → Ticked
and_then a b = record { timer = b.timer; fell = a.fell || b.fell; pends = a.pends || b.pends }

-- "leaves exactly the state that so many single ticks leave, and answers 1 exactly if one of those ticks would have answered 1"
unfoldable pub skip_of : ℕ → Timer → Ticked
skip_of zero t = steady t
skip_of (suc n) t = and_then (tick_of t) (skip_of n (tick_of t).timer)
