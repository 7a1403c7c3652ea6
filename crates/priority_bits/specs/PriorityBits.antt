-- Document 02, E7, "Priority bytes of three to eight bits", sentence by sentence. The rules have w as the chip's `bits`, and were proved over it: what
-- is new is which w there are, and refusal 17. The proof is `proofs/PriorityBits.antt`.
use Rattle.std.specs.Prelude.{ℕ, ◌+◌, ◌-◌, ◌^◌, ◌≤◌, ◌<◌, min, ◌≡◌, ◌↔◌, List, [], ◌∷◌, map, true, false, length}
use Rattle.decimal.specs.Decimal.{broken_text}
use Rattle.priority.specs.Levels.{levels}
use Rattle.priority.specs.Counting.{Count, IsGroup}
use Rattle.script.specs.declared.Event.{Event}
use Rattle.rules.specs.declared.Chip.{Chip}
use Rattle.rules.specs.Chip.{chip55, chip240, with_bits, is_armv6m, fits}
use Rattle.rules.specs.Model.{Model, Answer, refuse, fresh}
use Rattle.rules.specs.Step.{step_of}
use Rattle.rules.specs.Table.{Holds, starred, further, added}
use Rattle.demand3.specs.Demand3.{Calls, ledger, Steady, Demand3}
use Rattle.old_scripts.specs.OldScripts.{OldScripts}
use Rattle.text.specs.Text.{text_of}
use Rattle.priority_bits.specs.Cases.{cases}

-- "Demand 3 holds for each w from 3 to 8 and reads L from this rule, and the bare bound of active exceptions is unchanged": of one line count
pub record ForEach (c : Chip) (bare : ℕ) : Type 0 where
  pub demand3 : (w : ℕ) → 3 ≤ w → w ≤ 8 → Demand3 (with_bits w c)
  -- "L becomes 2 to the power of the smaller of w and 7 - p": at most L + 2 are nested on demand 3's premise
  pub few : (w : ℕ) → 3 ≤ w → w ≤ 8 → (es : List Event) (rs : List Answer) (t : Model) → Calls (with_bits w c) (fresh (with_bits w c)) es rs t
      → Steady (fresh (with_bits w c)) rs → length (ledger [] es rs) ≤ 2 ^ min w (7 - t.core.group) + 2
  -- whatever w is, and whatever the calls change
  pub most : (w : ℕ) (es : List Event) (rs : List Answer) (t : Model) → Calls (with_bits w c) (fresh (with_bits w c)) es rs t
      → length (ledger [] es rs) ≤ bare
  -- "with w = 3 every old case holds": it is the old chip
  pub three : with_bits 3 c ≡ c

pub record PriorityBits : Type 0 where
  -- w applies to both line counts
  pub lines55 : ForEach chip55 63
  pub lines240 : ForEach chip240 248
  -- L is "the count of group numbers" of bytes with w bits kept, whatever w is
  pub counts : (w p : ℕ) → p < 8 → Count (IsGroup w p) (levels w p)
  -- "with w = 3 every old case holds": L for p from 0 to 7, and the tables of documents 01 and 02
  pub old_levels : map (levels 3) (0 ∷ 1 ∷ 2 ∷ 3 ∷ 4 ∷ 5 ∷ 6 ∷ 7 ∷ []) ≡ 8 ∷ 8 ∷ 8 ∷ 8 ∷ 8 ∷ 4 ∷ 2 ∷ 1 ∷ []
  pub old_cases : Holds starred × Holds further × Holds added
  -- cases at other w
  pub new_cases : Holds cases
  -- "Let a chip keep the top w bits, w from 3 to 8": these fit, and no others, but for the profile that fixes them (E10)
  pub fitting : (c : Chip) (w : ℕ) → is_armv6m c ≡ false → (fits (with_bits w c) ≡ true) ↔ ((3 ≤ w) × (w ≤ 8))
  -- "17, a chip setup with w outside 3 to 8, checked before all others, 15 and 16 too": by every event on every state, and of every script
  pub refused : (c : Chip) → fits c ≡ false → (m : Model) (e : Event) → step_of c m e ≡ refuse 17 m
  pub text : (c : Chip) → fits c ≡ false → (bytes : List ℕ) → text_of c bytes ≡ broken_text 17 0
  -- E4's theorem, at each w
  pub old_scripts : (w : ℕ) → 3 ≤ w → w ≤ 8 → OldScripts (with_bits w chip55) (with_bits w chip240)
