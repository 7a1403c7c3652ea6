-- Laws of PMSAv8: which addresses a region covers, what its rights are, and who decides. Two regions over an address fault, one decides, where
-- there is none the background does; and the order of the regions is of no account.
use Prim.Native.Nat.{ℕ, ◌+◌, ◌*◌, ◌<◌, ◌≤◌}
use Rattle.std.specs.Prelude.{◌≡◌, ◌≢◌, List, [], ◌∷◌, Bool, get_or, T}
use Rattle.std.proofs.Math.Bool.{true, false}
use Rattle.mpu.specs.declared.Mpu.{Mpu}
use Rattle.verdicts.specs.declared.Rights.{Rights}
use Rattle.editions.specs.Pmsav8.{Cover, Nowhere, Once, Twice, block_of, is_enabled, rights_in, covers_at}
use Rattle.verdicts.specs.Rights.{NONE, R, RW}

-- ---- coverage: the addresses from 32 x first block to 32 x last block + 31, and no others

pub record Within (rbar rlar address : ℕ) : Type 0 where
  pub enabled : T (is_enabled rlar)
  pub from : 32 * block_of rbar ≤ address
  pub to : address ≤ 32 * block_of rlar + 31

-- ---- rights

-- "Rights are two bits, 0 to 3: privileged RW, all RW, privileged R, all R." In each row what the privileged have, then the others.
abbrev pub rows : List (Rights × Rights)
rows = (RW, NONE) ∷ (RW, RW) ∷ (R, NONE) ∷ (R, R) ∷ []

abbrev pub row_of : ℕ → Rights × Rights
row_of rbar = (rights_in rbar true, rights_in rbar false)

-- the row of an RBAR that is these two bits and nothing else
abbrev pub row_at : ℕ → Rights × Rights
row_at n = row_of (n * 2)

abbrev pub numbers : List ℕ
numbers = 0 ∷ 1 ∷ 2 ∷ 3 ∷ []

-- ---- how many of the first n numbers a test holds of

-- of k alone
pub record Only (test : ℕ → Bool) (n k : ℕ) : Type 0 where
  pub below : k < n
  pub holds : test k ≡ true
  pub alone : (i : ℕ) → i < n → test i ≡ true → i ≡ k

-- of two at least
pub record Two (test : ℕ → Bool) (n : ℕ) : Type 0 where
  pub one : ℕ
  pub other : ℕ
  pub one_below : one < n
  pub other_below : other < n
  pub apart : one ≢ other
  pub one_holds : test one ≡ true
  pub other_holds : test other ≡ true

-- what a tally says
abbrev pub Says : (ℕ → Bool) → ℕ → Cover → Type 0
Says test n Nowhere = (i : ℕ) → i < n → test i ≡ false
Says test n (Once k) = Only test n k
Says test n Twice = Two test n

-- ---- who decides, where the default map does not

-- Of the eight regions of a guard, none, one or two and more cover an address.
abbrev pub Covered : Mpu → ℕ → Cover → Type 0
Covered g address c = Says (covers_at g.bases g.attributes address) 8 c

-- ---- the order of the regions is of no account, nor are the plain words

-- The pairs of words (a, b) at n numbers are the pairs (x, y) in another order: that at i is there at `to i`.
pub record Reordered (n : ℕ) (a b x y : List ℕ) : Type 0 where
  pub to : ℕ → ℕ
  pub from : ℕ → ℕ
  pub to_below : (i : ℕ) → i < n → to i < n
  pub from_below : (i : ℕ) → i < n → from i < n
  pub to_from : (i : ℕ) → i < n → to (from i) ≡ i
  pub from_to : (i : ℕ) → i < n → from (to i) ≡ i
  pub first : (i : ℕ) → i < n → get_or a i 0 ≡ get_or x (to i) 0
  pub second : (i : ℕ) → i < n → get_or b i 0 ≡ get_or y (to i) 0

abbrev pub renamed : (ℕ → ℕ) → Cover → Cover
renamed to Nowhere = Nowhere
renamed to (Once k) = Once (to k)
renamed to Twice = Twice
