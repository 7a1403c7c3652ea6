-- Document 02, E7, about what runs: "Demand 3 holds for each w from 3 to 8", and refusal 17. `priority_bits` states it of the rules' answers; here it is said
-- of the replies.
use Rattle.std.specs.Prelude.{ℕ, ◌≤◌, ◌≡◌, List, [], map, false, length}
use Rattle.mpu.specs.declared.Edition.{Edition}
use Rattle.script.specs.declared.Event.{Event}
use Rattle.rules.specs.declared.Part.{Part}
use Rattle.rules.specs.declared.Part.TheVariants.{Lines55, Lines240}
use Rattle.rules.specs.declared.Setup.{Setup}
use Rattle.rules.specs.Chip.{chip_of, fits}
use Rattle.rules.specs.Model.{fresh}
use Rattle.rules.specs.Step.{step_of}
use Rattle.demand3.specs.Demand3.{ledger}
use Rattle.any_chip.specs.declared.State.{State}
use Rattle.any_chip.specs.View.{Reply}
use Rattle.any_chip.specs.View.{model, state, reply}
use Rattle.any_chip.specs.ViewLaws.{Sized}
use Rattle.any_chip.specs.Demand3.{answer, Called, CodeDemand3}

-- a chip of this part and with this guard that keeps w bits
abbrev pub keeping : Part → Edition → ℕ → Setup
keeping part guard w = record { part = part; bits = w; guard = guard }

-- "the bare bound of active exceptions": of calls from the fresh state of a setup
abbrev pub AtMost : Setup → ℕ → Type 0
AtMost setup bare =
    (es : List Event) (rs : List Reply) (t : State) → Called (state setup (fresh (chip_of setup))) es rs t → length (ledger [] es (map answer rs)) ≤ bare

pub record CodePriorityBits : Type 0 where
  -- "Demand 3 holds for each w from 3 to 8 and reads L from this rule", on both line counts and with both guards (E12); the Cortex-M0 keeps
  -- two bits whatever w is (E10)
  pub demand3 : (part : Part) (guard : Edition) (w : ℕ) → 3 ≤ w → w ≤ 8 → CodeDemand3 (keeping part guard w)
  -- "the bare bound of active exceptions is unchanged", whatever w is
  pub most55 : (guard : Edition) (w : ℕ) → AtMost (keeping Lines55 guard w) 63
  pub most240 : (guard : Edition) (w : ℕ) → AtMost (keeping Lines240 guard w) 248
  -- "17, a chip setup with w outside 3 to 8, checked before all others": whatever the state and the event are, it is handed back as it was
  pub refused : (s : State) → Sized s → fits (chip_of s.setup) ≡ false → (e : Event) (r : Reply) → r ≡ reply s.setup (step_of (chip_of s.setup) (model s) e) → r ≡ record { refusal = 17; value = 0; vector = 0; link = 0; state = s }
