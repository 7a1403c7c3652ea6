-- The choice of "Entry" in two steps: the first of all pending, enabled exceptions, whatever the execution priority, and then whether that one's
-- group number is below it. No other needs to be asked: the others come after the first, so their group numbers are no lower.
use Rattle.std.specs.Prelude.{ℕ, List, Bool, false, cond, ◌&&◌, length, get_or, ℤ, Option, Some, None}
use Rattle.std.specs.Int.Signed.{lt_z}
use Rattle.grouping.specs.Grouping.{full_priority, group_priority}
use Rattle.priority.specs.Priority.{is_enabled, best}

-- "pending and enabled"
abbrev pub is_ready : List Bool → List Bool → ℕ → Bool
is_ready pending enabled n = get_or pending n false && is_enabled enabled n

-- "the one of least full priority .., then least number", of all that are pending and enabled
unfoldable pub first_ready : List ℕ → List Bool → List Bool → Option ℕ
first_ready bytes pending enabled = best (is_ready pending enabled) (full_priority bytes) (length pending)

-- what was found, if its "group number is below the execution priority" (the limit)
abbrev pub if_below : ℕ → List ℕ → ℤ → Option ℕ → Option ℕ
if_below p bytes limit None = None
if_below p bytes limit (Some n) = cond (lt_z (group_priority p bytes n) limit) (Some n) None
