-- Document 02, E2, about what runs: `demand3` states of the rules' answers that what comes and goes leaves the state as it was; here it is said of
-- the replies, for every chip that a setup names.
use Rattle.std.specs.Prelude.{◌≡◌, [], ◌∷◌}
use Rattle.script.specs.declared.Event.TheVariants.{Entry, Return}
use Rattle.rules.specs.Chip.{chip_of}
use Rattle.rules.specs.Sound.{Sound}
use Rattle.demand3.specs.ComesAndGoes.{Restored}
use Rattle.any_chip.specs.declared.State.{State}
use Rattle.any_chip.specs.View.{Reply}
use Rattle.any_chip.specs.View.{model}
use Rattle.any_chip.specs.Demand3.{answer, Called}

abbrev pub CodeComesAndGoes : Type 0
CodeComesAndGoes =
    (s t : State) (r q : Reply) → Sound (chip_of s.setup) (model s) → Called s (Entry ∷ Return r.link ∷ []) (r ∷ q ∷ []) t → r.refusal ≡ 0 → Restored (model s) (answer r) (answer q)
