-- Document 02, E7, "Priority bytes of three to eight bits": which numbers w a chip may keep, what it cuts, and that refusal 17 comes first.
use Rattle.std.specs.Prelude.{ℕ, ◌≤◌, ◌≡◌, refl, [], ◌∷◌, map, Bool, true, false, T, leb}
use Rattle.std.proofs.Common.{le→leb}
use Rattle.bools.specs.Tests.{join}
use Rattle.grouping.specs.Grouping.{kept_byte}
use Rattle.script.specs.declared.Event.{Event}
use Rattle.rules.specs.declared.Chip.{Chip}
use Rattle.rules.specs.declared.Masks.{Masks}
use Rattle.rules.specs.Chip.{chip55, chip240, is_armv6m, with_bits, fits}
use Rattle.rules.specs.Model.{Model, refuse}
use Rattle.rules.specs.Events.{with_basepri, basepri_raised, special_written}
use Rattle.rules.specs.Step.{admitted, step_of}

-- "w from 3 to 8", on every chip whose profile does not fix it
pub from_3_to_8 : (c : Chip) (w : ℕ) → is_armv6m c ≡ false → 3 ≤ w → w ≤ 8 → T (fits (with_bits w c))
from_3_to_8 c w free low high = rw free (join (leb 3 w) (leb w 8) (le→leb 3 w low) (le→leb w 8 high))

-- "17, a chip setup with w outside 3 to 8": 2, 9, 0 and 2^32 - 1 are outside, 3 and 8 are not
edges : map (λ (w : ℕ). fits (with_bits w chip55)) (2 ∷ 3 ∷ 8 ∷ 9 ∷ 0 ∷ 0xFFFFFFFF ∷ []) ≡ false ∷ true ∷ true ∷ false ∷ false ∷ false ∷ []
edges = refl

-- ".. checked before all others, 15 and 16 too": by every event on every model, sound or not, with every other field 0
pub misfit_first : (c : Chip) (m : Model) (e : Event) → fits c ≡ false → step_of c m e ≡ refuse 17 m
unfolding admitted
misfit_first c m e q = rw q

-- "with w = 3 every old case holds": the chips are the old ones
three : (with_bits 3 chip55 ≡ chip55) × (with_bits 3 chip240 ≡ chip240)
three = (refl, refl)

-- "Let a chip keep the top w bits": of 0xFF, for w from 3 to 8
cut : map (λ (w : ℕ). kept_byte w 0xFF) (3 ∷ 4 ∷ 5 ∷ 6 ∷ 7 ∷ 8 ∷ []) ≡ 0xE0 ∷ 0xF0 ∷ 0xF8 ∷ 0xFC ∷ 0xFE ∷ 0xFF ∷ []
cut = refl

-- "BASEPRI, BASEPRI_MAX .. follow w": both cut the value to w bits; BASEPRI_MAX then tests what is left
basepri : (c : Chip) (w v : ℕ) (negative thread : Bool) (k : Masks) → special_written (with_bits w c) 2 v negative thread k ≡ with_basepri (kept_byte w v) k
unfolding special_written
basepri c w v negative thread k = refl

basepri_max_lem : (c : Chip) (w v : ℕ) (negative thread : Bool) (k : Masks) → special_written (with_bits w c) 3 v negative thread k ≡ basepri_raised (kept_byte w v) k
unfolding special_written
basepri_max_lem c w v negative thread k = refl
