-- How deep exceptions nest in what runs: `demand3` has the bounds of the rules' answers; here they are said of the replies.
use Rattle.std.specs.Prelude.{ℕ, List, map}
use Rattle.mpu.specs.declared.Edition.{Edition}
use Rattle.mpu.specs.declared.Edition.TheVariants.{Pmsav7}
use Rattle.script.specs.declared.Event.{Event}
use Rattle.rules.specs.declared.Part.TheVariants.{Lines55, Lines240, CortexM0}
use Rattle.rules.specs.declared.Setup.{Setup}
use Rattle.rules.specs.Chip.{chip_m0, chip_of}
use Rattle.rules.specs.Model.{fresh}
use Rattle.demand3.specs.Bounds.{Bounds, BoundsM0}
use Rattle.any_chip.specs.declared.State.{State}
use Rattle.any_chip.specs.View.{Reply}
use Rattle.any_chip.specs.View.{model, state}
use Rattle.any_chip.specs.Demand3.{answer, Called}

abbrev pub Bounded : Setup → ℕ → Type 0
Bounded setup bare =
    (es : List Event) (rs : List Reply) (t : State) → Called (state setup (fresh (chip_of setup))) es rs t → Bounds (chip_of setup) bare es (map answer rs) (model t)

pub record CodeBounded : Type 0 where
  -- "at most 63 are nested"
  pub lines55 : Bounded (record { part = Lines55; bits = 3; guard = Pmsav7 }) 63
  -- document 02, E4: "In demand 3 the bare bound becomes 248 for this chip."
  pub lines240 : Bounded (record { part = Lines240; bits = 3; guard = Pmsav7 }) 248
  -- E10: "Demand 3 reads L = 4, and the bare bound is 37", whatever bits and guard the setup names
  pub cortex_m0 : (w : ℕ) (e : Edition) (es : List Event) (rs : List Reply) (t : State)
      → Called (state (record { part = CortexM0; bits = w; guard = e }) (fresh chip_m0)) es rs t → BoundsM0 es (map answer rs)
