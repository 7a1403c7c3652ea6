-- Document 02, E2, about what runs: `demand3` states of the rules' answers that what comes and goes leaves the state as it was; here it is said of
-- the replies of the 55-line chip.
use Rattle.std.specs.Prelude.{◌≡◌, [], ◌∷◌}
use Rattle.script.specs.declared.Event.TheVariants.{Entry, Return}
use Rattle.rules.specs.Chip.{chip55}
use Rattle.rules.specs.Sound.{Sound}
use Rattle.demand3.specs.ComesAndGoes.{Restored}
use Rattle.model.specs.declared.State.{State}
use Rattle.model.specs.View.{Reply}
use Rattle.model.specs.View.{model}
use Rattle.model.specs.Demand3.{answer, Called}

abbrev pub CodeComesAndGoes : Type 0
CodeComesAndGoes =
    (s t : State) (r q : Reply) → Sound chip55 (model s) → Called s (Entry ∷ Return r.link ∷ []) (r ∷ q ∷ []) t → r.refusal ≡ 0 → Restored (model s) (answer r) (answer q)
