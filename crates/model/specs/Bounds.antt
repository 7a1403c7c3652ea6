-- How deep exceptions nest in what runs: `demand3` has the bounds of the rules' answers; here they are said of the replies.
use Rattle.std.specs.Prelude.{List, map}
use Rattle.script.specs.declared.Event.{Event}
use Rattle.rules.specs.Chip.{chip55}
use Rattle.rules.specs.Model.{fresh}
use Rattle.demand3.specs.Bounds.{Bounds}
use Rattle.model.specs.declared.State.{State}
use Rattle.model.specs.View.{Reply}
use Rattle.model.specs.View.{model, state}
use Rattle.model.specs.Demand3.{answer, Called}

-- "at most 63 are nested"; "at most L + 2 are nested, where L is 8, 4, 2 or 1 by the group setting"
abbrev pub CodeBounded : Type 0
CodeBounded = (es : List Event) (rs : List Reply) (t : State) → Called (state (fresh chip55)) es rs t → Bounds chip55 63 es (map answer rs) (model t)
