-- Document 01's rows of rights are what the formula gives.
use Rattle.std.specs.Prelude.{ℕ, ◌*◌, ◌^◌, List, [], ◌∷◌, true, false}
use Rattle.verdicts.specs.declared.Rights.{Rights}
use Rattle.verdicts.specs.Verdict.{rights_of}

-- "none", "R" and "RW".
abbrev pub NONE : Rights
NONE = record { read = false; write = false }

abbrev pub R : Rights
R = record { read = true; write = false }

abbrev pub RW : Rights
RW = record { read = true; write = true }

-- "Rights by AP (26:24), privileged/other, in order 0 to 7: none/none, RW/none, RW/R, RW/RW, none/none (house rule),
-- R/none, R/R, R/R."
abbrev pub rows : List (Rights × Rights)
rows = (NONE, NONE) ∷ (RW, NONE) ∷ (RW, R) ∷ (RW, RW) ∷ (NONE, NONE) ∷ (R, NONE) ∷ (R, R) ∷ (R, R) ∷ []

-- "privileged/other"
abbrev pub row_of : ℕ → Rights × Rights
row_of attributes = (rights_of attributes true, rights_of attributes false)

-- The row of attributes that are this AP and nothing else.
abbrev pub row_at : ℕ → Rights × Rights
row_at n = row_of (n * 2 ^ 24)

abbrev pub numbers : List ℕ
numbers = 0 ∷ 1 ∷ 2 ∷ 3 ∷ 4 ∷ 5 ∷ 6 ∷ 7 ∷ []
