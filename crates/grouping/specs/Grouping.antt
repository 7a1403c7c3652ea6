-- Document 01, "Priorities": full priorities and group numbers, with the group setting p and the number w of kept bits as parameters.
use Rattle.std.specs.Prelude.{ℕ, ◌+◌, ◌-◌, ◌*◌, ◌/◌, ◌%◌, ◌^◌, List, cond, get_or, eqb, ℤ, pos, negsuc}

-- "The rest have a byte; bits 7:5 are kept, the others read 0"; document 02, E7: "Let a chip keep the top w bits". All of the byte where w is 8 or more.
abbrev pub kept_byte : ℕ → ℕ → ℕ
kept_byte w b = b % 256 / 2 ^ (8 - w) * 2 ^ (8 - w)

-- "the group number of a byte is the byte with bits p:0 cleared": bit 0 is never part of it, however many bits are kept
abbrev pub group_of : ℕ → ℕ → ℕ
group_of p b = b / 2 ^ (p + 1) * 2 ^ (p + 1)

-- "Fixed priorities are their own group number": only a priority that is not negative is cut
abbrev pub grouped : ℕ → ℤ → ℤ
grouped p (pos b) = pos (group_of p b)
grouped p (negsuc k) = negsuc k

-- "Fixed priorities: NMI -2, HardFault -1. The rest have a byte"; `negsuc k` is -(k + 1)
abbrev pub full_priority : List ℕ → ℕ → ℤ
full_priority bytes n = cond (eqb n 2) (negsuc 1) (cond (eqb n 3) (negsuc 0) (pos (get_or bytes n 0)))

abbrev pub group_priority : ℕ → List ℕ → ℕ → ℤ
group_priority p bytes n = grouped p (full_priority bytes n)
