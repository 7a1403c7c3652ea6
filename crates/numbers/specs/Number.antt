-- Numbers in a script (document 01, "Scripts"): "groups of seven bits, lowest first, bit 7 meaning that more follow; shortest form,
-- at most 2^32 - 1".
use Rattle.std.specs.Prelude.{ℕ, zero, suc, ◌+◌, ◌-◌, ◌*◌, ◌/◌, ◌%◌, ◌^◌, List, [], ◌∷◌, Option, Some, None, cond, length, get_or, eqb, ltb}

-- a number in at most `left` groups
unfoldable pub groups : ℕ → ℕ → List ℕ
groups zero n = []
groups (suc left) n = cond (ltb n 128) (n ∷ []) ((n % 128 + 128) ∷ groups left (n / 128))

-- five groups hold every number below 2^32
unfoldable pub number_bytes : ℕ → List ℕ
number_bytes n = groups 5 n

-- A group before the number that the groups after it make. That one is not 0, or the number would not be in its shortest form.
unfoldable pub joined : ℕ → Option (ℕ × ℕ) → Option (ℕ × ℕ)
joined group None = None
joined group (Some (rest, next)) =
    cond (eqb rest 0) None (cond (ltb (group + 128 * rest) (2 ^ 32)) (Some (group + 128 * rest, next)) None)

-- the number from `at` on, with `left` groups left to read
unfoldable pub groups_at : List ℕ → ℕ → ℕ → Option (ℕ × ℕ)
groups_at bytes at zero = None
groups_at bytes at (suc left) =
    cond (ltb at (length bytes))
    (cond (ltb (get_or bytes at 0) 128)
    (Some (get_or bytes at 0, at + 1))
    (joined (get_or bytes at 0 - 128) (groups_at bytes (at + 1) left)))
    None

-- the number from `at` on and the offset after it
unfoldable pub number_at : List ℕ → ℕ → Option (ℕ × ℕ)
number_at bytes at = groups_at bytes at 5

-- "13: script number cut short (also one read at or past the end), too large or not shortest"; 0 where it is a number
abbrev pub number_refusal : Option (ℕ × ℕ) → ℕ
number_refusal (Some (n, next)) = 0
number_refusal None = 13
