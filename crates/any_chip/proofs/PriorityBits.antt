-- The rules' theorem at a setup's chip, which fits where w is from 3 to 8 or the profile fixes it.
use Prim.Native.Nat.{ℕ, ◌≤◌}
use mathlib.Core.Path.{refl, ap, ◌∙◌}
use mathlib.Core.List.{map}
use lib.Dec.{T}
use Rattle.mpu.specs.declared.Edition.{Edition}
use Rattle.rules.specs.declared.Part.{Part}
use Rattle.rules.specs.declared.Part.TheVariants.{Lines55, Lines240, CortexM0}
use Rattle.rules.specs.Chip.{chip55, chip240, chip_of, fits}
use Rattle.rules.proofs.PriorityBits.{from_3_to_8, misfit_first}
use Rattle.demand3.proofs.Demand3.{most_nested}
use Rattle.any_chip.specs.declared.State.{State}
use Rattle.any_chip.specs.View.{model, reply}
use Rattle.any_chip.specs.Demand3.{answer}
use Rattle.any_chip.specs.PriorityBits.{keeping, CodePriorityBits}
use Rattle.any_chip.proofs.View.{view_laws}
use Rattle.any_chip.proofs.Demand3.{called_fresh, code_demand3}

setup_fits : (part : Part) (guard : Edition) (w : ℕ) → 3 ≤ w → w ≤ 8 → T (fits (chip_of (keeping part guard w)))
setup_fits Lines55 guard w low high = from_3_to_8 chip55 w refl low high
setup_fits Lines240 guard w low high = from_3_to_8 chip240 w refl low high
setup_fits CortexM0 guard w low high = tt

pub code_priority_bits : CodePriorityBits
code_priority_bits =
    record {
      demand3 = λ part guard w low high. code_demand3 (keeping part guard w) (setup_fits part guard w low high);
      most55 = λ guard w es rs t k. most_nested (chip_of (keeping Lines55 guard w)) es (map answer rs) (model t) (called_fresh (keeping Lines55 guard w) k);
      most240 = λ guard w es rs t k. most_nested (chip_of (keeping Lines240 guard w)) es (map answer rs) (model t) (called_fresh (keeping Lines240 guard w) k);
      refused = λ s z f e r q.
          q ∙ ap (reply s.setup) (misfit_first (chip_of s.setup) (model s) e f)
          ∙ ap (λ (t : State). record { refusal = 17; value = 0; vector = 0; link = 0; state = t }) (view_laws.back s z);
    }
