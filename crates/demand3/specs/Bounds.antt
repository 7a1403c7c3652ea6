-- How deep exceptions nest on the chips with three kept bits and on the Cortex-M0: the third demand's bounds in numbers. The proof is `proofs/Bounds.antt`.
use Rattle.std.specs.Prelude.{ℕ, ◌+◌, ◌≤◌, ◌≡◌, List, [], length}
use Rattle.script.specs.declared.Event.{Event}
use Rattle.rules.specs.declared.Chip.{Chip}
use Rattle.rules.specs.Chip.{chip55, chip240, chip_m0}
use Rattle.rules.specs.Model.{Model, Answer, fresh}
use Rattle.demand3.specs.Demand3.{Calls, ledger, Steady}

-- of calls from the fresh model, answered rs and leaving t; `bare` bounds them whatever they change
pub record Bounds (c : Chip) (bare : ℕ) (es : List Event) (rs : List Answer) (t : Model) : Type 0 where
  pub most : length (ledger [] es rs) ≤ bare
  -- "at most L + 2 are nested, where L is 8, 4, 2 or 1 by the group setting": "8 for p up to 4, then 4, 2, 1"
  pub up_to4 : Steady (fresh c) rs → t.core.group ≤ 4 → length (ledger [] es rs) ≤ 10
  pub at5 : Steady (fresh c) rs → t.core.group ≡ 5 → length (ledger [] es rs) ≤ 6
  pub at6 : Steady (fresh c) rs → t.core.group ≡ 6 → length (ledger [] es rs) ≤ 4
  pub at7 : Steady (fresh c) rs → t.core.group ≡ 7 → length (ledger [] es rs) ≤ 3

abbrev pub Bounded : Chip → ℕ → Type 0
Bounded c bare = (es : List Event) (rs : List Answer) (t : Model) → Calls c (fresh c) es rs t → Bounds c bare es rs t

-- "at most 63 are nested"
abbrev pub Bounded55 : Type 0
Bounded55 = Bounded chip55 63

-- document 02, E4: "In demand 3 the bare bound becomes 248 for this chip."
abbrev pub Bounded240 : Type 0
Bounded240 = Bounded chip240 248

-- document 02, E10: "Demand 3 reads L = 4, and the bare bound is 37."
pub record BoundsM0 (es : List Event) (rs : List Answer) : Type 0 where
  pub most : length (ledger [] es rs) ≤ 37
  pub few : Steady (fresh chip_m0) rs → length (ledger [] es rs) ≤ 4 + 2

abbrev pub BoundedM0 : Type 0
BoundedM0 = (es : List Event) (rs : List Answer) (t : Model) → Calls chip_m0 (fresh chip_m0) es rs t → BoundsM0 es rs
