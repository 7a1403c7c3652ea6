-- Words as numbers: bit k of x is x / 2 ^ k % 2, bits h:l are a quotient and a remainder. All of it computes on numerals.
use Rattle.std.specs.Prelude.{ℕ, zero, suc, ◌+◌, ◌-◌, ◌*◌, ◌/◌, ◌%◌, ◌^◌, Bool, true, false, eqb}

-- a flag as a bit
abbrev pub bit : Bool → ℕ
bit true = 1
bit false = 0

-- bits h:l of x as a number
abbrev pub field : ℕ → ℕ → ℕ → ℕ
field h l x = x / 2 ^ l % 2 ^ (h + 1 - l)

-- bits h:l of x in their places; the kept bits of a register are a sum of these
abbrev pub kept : ℕ → ℕ → ℕ → ℕ
kept h l x = field h l x * 2 ^ l

-- bit k of x
abbrev pub bit_at : ℕ → ℕ → Bool
bit_at k x = eqb (x / 2 ^ k % 2) 1

-- x with bit k set or cleared: the bits above it, then b, then the bits below
unfoldable pub with_bit : ℕ → Bool → ℕ → ℕ
with_bit k b x = (x / 2 ^ (k + 1) * 2 + bit b) * 2 ^ k + x % 2 ^ k

-- the n low bits of x, less those that are 1 in y
unfoldable pub without : ℕ → ℕ → ℕ → ℕ
without zero x y = 0
without (suc n) x y = (x % 2 - y % 2) + 2 * without n (x / 2) (y / 2)

-- byte i of x, byte 0 the lowest
abbrev pub byte_at : ℕ → ℕ → ℕ
byte_at i x = x / 256 ^ i % 256

-- four bytes as a word, lowest first
abbrev pub word_of_bytes : ℕ → ℕ → ℕ → ℕ → ℕ
word_of_bytes b0 b1 b2 b3 = b0 + 256 * b1 + 65536 * b2 + 16777216 * b3
