-- Document 02, E12: what the regions of PMSAv8, ARMv8-M's guard, allow, sentence by sentence. A region's two words are the manual's RBAR ("first
-- block 31:5, rights 2:1, no fetch 0") and RLAR ("last block 31:5, enabled 0").
use Rattle.std.specs.Prelude.{ℕ, zero, suc, ◌/◌, ◌%◌, ◌^◌, List, Bool, true, false, not, ◌&&◌, ◌||◌, get_or, eqb, leb}
use Rattle.verdicts.specs.declared.Access.{Access}
use Rattle.verdicts.specs.declared.Access.TheVariants.{Read, Write, Fetch}
use Rattle.verdicts.specs.declared.Rights.{Rights}

-- The "32-byte block" of an address; of RBAR and of RLAR the one in "31:5".
abbrev pub block_of : ℕ → ℕ
block_of x = x / 2 ^ 5

-- "enabled 0"
abbrev pub is_enabled : ℕ → Bool
is_enabled rlar = eqb (rlar % 2) 1

-- "regions given by a first and a last 32-byte block, no size rule, no switched-off eighths": an enabled region covers both blocks whole and those
-- between them. "A region whose last block is before its first covers nothing."
unfoldable pub covers : ℕ → ℕ → ℕ → Bool
covers rbar rlar address =
    is_enabled rlar && leb (block_of rbar) (block_of address) && leb (block_of address) (block_of rlar)

-- "Rights are two bits, 0 to 3: privileged RW, all RW, privileged R, all R." The lower one, bit 1, lets all in; the higher one, bit 2, makes it read
-- only.
abbrev pub for_all : ℕ → Bool
for_all rbar = eqb (rbar / 2 % 2) 1

abbrev pub read_only : ℕ → Bool
read_only rbar = eqb (rbar / 2 ^ 2 % 2) 1

unfoldable pub rights_in : ℕ → Bool → Rights
rights_in rbar privileged =
    record {
      read = privileged || for_all rbar;
      write = not (read_only rbar) && (privileged || for_all rbar);
    }

-- "no fetch 0"
abbrev pub no_fetch : ℕ → Bool
no_fetch rbar = eqb (rbar % 2) 1

-- What a region allows. Document 01: "A fetch needs the right to read", and the bit against fetches clear.
unfoldable pub cover_allows : ℕ → Access → Bool → Bool
cover_allows rbar Read privileged = (rights_in rbar privileged).read
cover_allows rbar Write privileged = (rights_in rbar privileged).write
cover_allows rbar Fetch privileged = not (no_fetch rbar) && (rights_in rbar privileged).read

-- Which regions cover an address: none, the one with this number, or two and more.
pub data Cover : Type 0 where
  Nowhere : Cover
  Once : ℕ → Cover
  Twice : Cover

-- Region n is counted after those below it.
unfoldable pub counted : Bool → ℕ → Cover → Cover
counted false n found = found
counted true n Nowhere = Once n
counted true n (Once k) = Twice
counted true n Twice = Twice

-- which of the numbers below n a test holds of
unfoldable pub tally : (ℕ → Bool) → ℕ → Cover
tally test zero = Nowhere
tally test (suc n) = counted (test n) n (tally test n)

-- region i covers an address
abbrev pub covers_at : List ℕ → List ℕ → ℕ → ℕ → Bool
covers_at rbars rlars address i = covers (get_or rbars i 0) (get_or rlars i 0) address

unfoldable pub cover_of : List ℕ → List ℕ → ℕ → ℕ → Cover
cover_of rbars rlars address n = tally (covers_at rbars rlars address) n

-- "An address that two enabled regions cover faults." One region decides by its rights; where there is none, `otherwise`.
unfoldable pub decided : List ℕ → Cover → Access → Bool → Bool → Bool
decided rbars Nowhere access privileged otherwise = otherwise
decided rbars (Once k) access privileged otherwise = cover_allows (get_or rbars k 0) access privileged
decided rbars Twice access privileged otherwise = false

-- What the first n regions allow.
unfoldable pub covers_allow : List ℕ → List ℕ → Access → ℕ → Bool → Bool → ℕ → Bool
covers_allow rbars rlars access address privileged otherwise n =
    decided rbars (cover_of rbars rlars address n) access privileged otherwise
