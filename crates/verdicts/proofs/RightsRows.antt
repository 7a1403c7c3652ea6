-- Document 01's rows of rights are what the formula gives.
use Rattle.std.specs.Prelude.{ℕ, ◌*◌, ◌/◌, ◌%◌, ◌^◌, ◌<◌, ◌≡◌, refl, List, map, false, not, get_or, eqb}
use Rattle.std.proofs.Common.{sym, ap, ◌∙◌, arith, eqb→eq}
use Rattle.std.proofs.Math.ListN.{get_or-map}
use Rattle.bools.specs.Tests.{and_false_of}
use Rattle.bools.specs.Every.{every, of_every}
use Rattle.verdicts.specs.declared.Rights.{Rights}
use Rattle.verdicts.specs.Verdict.{ap_low, ap_read_only, may_read, may_write, rights_of}
use Rattle.verdicts.specs.Rights.{NONE, rows, row_of, row_at, numbers}

-- AP 0 to 7, computed.
pub rows_by_formula : map row_at numbers ≡ rows
unfolding rights_of may_read may_write
rows_by_formula = refl

-- The other bits of the attributes give no right and take none.
by_ap : (attributes : ℕ) → row_of attributes ≡ row_at (attributes / 2 ^ 24 % 2 ^ 3)
unfolding rights_of may_read may_write
by_ap attributes =
    let low : ap_low attributes ≡ ap_low (attributes / 2 ^ 24 % 2 ^ 3 * 2 ^ 24) = omega arith in
    let high : attributes / 2 ^ 26 % 2 ≡ attributes / 2 ^ 24 % 2 ^ 3 * 2 ^ 24 / 2 ^ 26 % 2 = omega arith in
    rw (low, high)

in_order : (n : ℕ) → n < 8 → get_or numbers n 0 ≡ n
unfolding every
in_order n h = eqb→eq (get_or numbers n 0) n (of_every (λ (i : ℕ). eqb (get_or numbers i 0) i) 8 n h tt)

row_at_lem : (n : ℕ) → n < 8 → row_at n ≡ get_or rows n (row_at 0)
row_at_lem n h =
    sym (ap row_at (in_order n h))
    ∙ sym (get_or-map row_at numbers n 0)
    ∙ ap (λ (l : List (Rights × Rights)). get_or l n (row_at 0)) rows_by_formula

-- So the rights of every region are its row's.
pub rights_row : (attributes : ℕ) → row_of attributes ≡ get_or rows (attributes / 2 ^ 24 % 2 ^ 3) (NONE, NONE)
unfolding rights_of may_read may_write
rights_row attributes = by_ap attributes ∙ row_at_lem (attributes / 2 ^ 24 % 2 ^ 3) (omega arith)

-- Nobody may do anything where AP's low bits are 0: AP 0, and AP 4 by the house rule.
pub nobody : (attributes : ℕ) → ap_low attributes ≡ 0 → row_of attributes ≡ (NONE, NONE)
unfolding rights_of may_read may_write
nobody attributes none = rw (none, and_false_of (not (ap_read_only attributes)) false refl) refl
