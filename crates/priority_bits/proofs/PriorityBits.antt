-- The claims of `demand3` and `old_scripts` hold for every chip that fits, and w from 3 to 8 fits.
use Prim.Native.Nat.{ℕ, ◌≤◌}
use mathlib.Core.Path.{◌≡◌, refl, subst}
use mathlib.Core.Logic.{◌↔◌}
use mathlib.Core.List.{[]}
use mathlib.Core.Bool.{true, false}
use native.Mathlib.Omega.{arith}
use lib.ListN.{length}
use lib.Dec.{leb, leb→le}
use Rattle.bools.specs.Tests.{is_true, true_is, both}
use Rattle.priority.proofs.Counting.{three_bits, levels_count}
use Rattle.rules.specs.declared.Chip.{Chip}
use Rattle.rules.specs.Chip.{chip55, chip240, is_armv6m, with_bits, fits, exception_count}
use Rattle.rules.proofs.PriorityBits.{from_3_to_8, misfit_first}
use Rattle.rules.proofs.Table.{starred_holds, further_holds, added_holds}
use Rattle.demand3.specs.Demand3.{ledger}
use Rattle.demand3.proofs.Demand3.{most_nested, demand3}
use Rattle.old_scripts.proofs.OldScripts.{old_scripts}
use Rattle.text.proofs.Text.{misfit_text}
use Rattle.priority_bits.specs.PriorityBits.{ForEach, PriorityBits}
use Rattle.priority_bits.proofs.Cases.{cases_hold}

for_each : (c : Chip) (bare : ℕ) → is_armv6m c ≡ false → exception_count c ≡ bare → with_bits 3 c ≡ c → ForEach c bare
for_each c bare free count same =
    record {
      demand3 = λ w low high. demand3 (with_bits w c) (from_3_to_8 c w free low high);
      few = λ w low high es rs t k. ((demand3 (with_bits w c) (from_3_to_8 c w free low high)).calls es rs t k).few;
      most = λ w es rs t k. subst (λ (n : ℕ). length (ledger [] es rs) ≤ n) count (most_nested (with_bits w c) es rs t k);
      three = same;
    }

fitting : (c : Chip) (w : ℕ) → is_armv6m c ≡ false → (fits (with_bits w c) ≡ true) ↔ ((3 ≤ w) × (w ≤ 8))
fitting c w free =
    (λ e. let b = both (leb 3 w) (leb w 8) (is_true (rw free at e)) in (leb→le 3 w b.0, leb→le w 8 b.1), λ h. true_is (fits (with_bits w c)) (from_3_to_8 c w free h.0 h.1))

pub priority_bits : PriorityBits
priority_bits =
    record {
      lines55 = for_each chip55 63 refl refl refl;
      lines240 = for_each chip240 248 refl refl refl;
      counts = levels_count;
      old_levels = three_bits;
      old_cases = (starred_holds, further_holds, added_holds);
      new_cases = cases_hold;
      fitting = fitting;
      refused = λ c f m e. misfit_first c m e f;
      text = misfit_text;
      old_scripts = λ w low high. old_scripts (record { lines = omega arith; bits = refl; guard = refl; profiles = (refl, refl); fit = from_3_to_8 chip55 w refl low high });
    }
