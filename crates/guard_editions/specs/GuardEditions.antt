-- Document 02, E12, "The guard's next edition", sentence by sentence, for every chip and every state. The proof is `proofs/GuardEditions.antt`.
use Rattle.std.specs.Prelude.{ℕ, ◌/◌, ◌%◌, ◌^◌, ◌<◌, ◌≤◌, ◌≡◌, ◌≢◌, ◌⊎◌, ◌↔◌, List, [], ◌∷◌, map, Bool, true, false, cond, get_or, T}
use Rattle.mpu.specs.declared.Mpu.{Mpu}
use Rattle.mpu.specs.declared.Edition.{Edition}
use Rattle.mpu.specs.declared.Edition.TheVariants.{Pmsav7, Pmsav8}
use Rattle.mpu.specs.declared.MpuRegister.TheVariants as mpu
use Rattle.mpu.specs.Pmsav8.{region_of, kept_word, kept_rlar, with_mair0, with_mair1}
use Rattle.mpu.specs.Registers.{read_mpu, write_mpu}
use Rattle.mpu.specs.Soundness.{SoundMpu}
use Rattle.verdicts.specs.declared.Access.{Access}
use Rattle.verdicts.specs.declared.Access.TheVariants.{Read, Write, Fetch}
use Rattle.verdicts.specs.Verdict.{default_allows, default_decides, background, system_fetch, fault_of, verdict}
use Rattle.editions.specs.Pmsav8.{Nowhere, Once, Twice, block_of, covers, rights_in, cover_allows}
use Rattle.editions.specs.Pmsav8Laws.{Within, rows, row_of, row_at, Covered, Reordered}
use Rattle.editions.specs.Editions.{guard_verdict}
use Rattle.script.specs.declared.AccessKind.TheVariants as kind
use Rattle.script.specs.declared.Event.{Event}
use Rattle.script.specs.declared.Event.TheVariants as event
use Rattle.rules.specs.declared.Chip.{Chip}
use Rattle.rules.specs.declared.Register.{Register}
use Rattle.rules.specs.declared.Register.TheVariants.{Missing, Guard}
use Rattle.rules.specs.Chip.{chip55, chip240, is_armv6m, fits, with_bits, with_edition}
use Rattle.rules.specs.Model.{Model, done, refuse, with_guard}
use Rattle.rules.specs.Priorities.{execution, is_negative, privileged}
use Rattle.rules.specs.Sound.{Sound}
use Rattle.rules.specs.Map.{register_at}
use Rattle.rules.specs.Access.{fits_access}
use Rattle.rules.specs.Step.{step_of}
use Rattle.rules.specs.Table.{Holds}
use Rattle.demand3.specs.Demand3.{Demand3}
use Rattle.guard_editions.specs.Cases.{covering, rights, storage}

-- ---- an access, as an event and as what the guard is asked

-- "Kinds: 0 read, 1 write, 2 fetch"
abbrev pub number : Access → ℕ
number Read = 0
number Write = 1
number Fetch = 2

abbrev pub asks : Access → ℕ → ℕ → Event
asks Read w a = event.Access kind.Read w a
asks Write w a = event.Access kind.Write w a
asks Fetch w a = event.Access kind.Fetch w a

-- what the chip's guard says of an access at address a in this state
abbrev pub verdict_in : Chip → Model → Access → ℕ → ℕ
verdict_in c m access a = guard_verdict c.guard m.core.guard access a (privileged m.core) (is_negative (execution m))

-- ---- "Background, private bus, fetch and negative-priority rules stay as in document 01." "Prove what both guards share once."

pub record Shared (c : Chip) : Type 0 where
  -- the user's "I could not test .. that the guard gives a verdict for every address": an access of its width at a multiple of it is answered, and the state stays;
  pub answered : T (fits c) → (m : Model) → Sound c m → (access : Access) (w a : ℕ) → T (fits_access (number access) w) → a % w ≡ 0 → step_of c m (asks access w a) ≡ done (verdict_in c m access a) m
  -- it is allowed, 0, or a fault, 1 of data and 2 of a fetch
  pub every : (m : Model) (access : Access) (a : ℕ) → (verdict_in c m access a ≡ 0) ⊎ (verdict_in c m access a ≡ fault_of access)
  -- "unaligned accesses stay refused by 2"
  pub unaligned : T (fits c) → (m : Model) → Sound c m → (access : Access) (w a : ℕ) → T (fits_access (number access) w) → a % w ≢ 0 → step_of c m (asks access w a) ≡ refuse 2 m
  -- where the guard is off, on the private bus, and at a negative priority with ED94 bit 1 clear, the default map decides, whatever the regions are
  pub default_map : (m : Model) (access : Access) (a : ℕ) → system_fetch access a ≡ false → default_decides m.core.guard.control a (is_negative (execution m)) ≡ true → verdict_in c m access a ≡ cond (default_allows access a) 0 (fault_of access)
  -- a fetch "from 0xE0000000 up .. always faults"
  pub system_fetch_lem : (m : Model) (a : ℕ) → 0xE0000000 ≤ a → verdict_in c m Fetch a ≡ 2
  -- demand 3 with either guard, for each number of kept bits
  pub nesting : (e : Edition) (w : ℕ) → 3 ≤ w → w ≤ 8 → Demand3 (with_edition e (with_bits w c))

-- ---- "the verdicts of the old one are untouched"

pub record First (c : Chip) : Type 0 where
  -- they are document 01's
  pub untouched : (m : Model) (access : Access) (a : ℕ) → verdict_in c m access a ≡ verdict m.core.guard access a (privileged m.core) (is_negative (execution m))

-- ---- "The successor core has the ARMv8-M guard (PMSAv8)"

-- the default map does not decide, so the regions do
pub record ByRegions (m : Model) (access : Access) (a : ℕ) : Type 0 where
  pub below : system_fetch access a ≡ false
  pub guarded : default_decides m.core.guard.control a (is_negative (execution m)) ≡ false

pub record Second (c : Chip) : Type 0 where
  -- "An address that two enabled regions cover faults": two or more, whatever the background
  pub two : (m : Model) (access : Access) (a : ℕ) → ByRegions m access a → Covered m.core.guard a Twice → verdict_in c m access a ≡ fault_of access
  -- one: its rights and its bit against fetches decide
  pub one : (m : Model) (access : Access) (a k : ℕ) → ByRegions m access a → Covered m.core.guard a (Once k) → verdict_in c m access a ≡ cond (cover_allows (get_or m.core.guard.bases k 0) access (privileged m.core)) 0 (fault_of access)
  -- none: the background decides
  pub none : (m : Model) (access : Access) (a : ℕ) → ByRegions m access a → Covered m.core.guard a Nowhere → verdict_in c m access a ≡ cond (background m.core.guard.control access a (privileged m.core)) 0 (fault_of access)
  -- "EDC0, EDC4 are plain words": no verdict reads them
  pub plain : (m : Model) (x y : ℕ) (access : Access) (a : ℕ) → verdict_in c (with_guard (with_mair0 x (with_mair1 y m.core.guard)) m) access a ≡ verdict_in c m access a
  -- The order of the regions is of no account.
  pub order : (m : Model) (g : Mpu) → m.core.guard.control ≡ g.control → Reordered 8 m.core.guard.bases m.core.guard.attributes g.bases g.attributes → (access : Access) (a : ℕ) → verdict_in c m access a ≡ verdict_in c (with_guard g m) access a

-- of one region, with the words RBAR and RLAR
pub record Region : Type 0 where
  -- "regions given by a first and a last 32-byte block": from 32 x first block to 32 x last block + 31
  pub from_to : (rbar rlar a : ℕ) → T (covers rbar rlar a) ↔ Within rbar rlar a
  -- "A region whose last block is before its first covers nothing."
  pub backwards : (rbar rlar a : ℕ) → block_of rlar < block_of rbar → covers rbar rlar a ≡ false
  -- "Rights are two bits, 0 to 3: privileged RW, all RW, privileged R, all R."
  pub rights : (rbar : ℕ) → row_of rbar ≡ get_or rows (rbar / 2 % 2 ^ 2) (row_at 0)
  -- "no fetch 0"; with it clear a fetch "needs the right to read"
  pub fetch : (rbar : ℕ) (privileged : Bool) → rbar % 2 ≡ 0 → cover_allows rbar Fetch privileged ≡ (rights_in rbar privileged).read
  pub no_fetch_lem : (rbar : ℕ) (privileged : Bool) → rbar % 2 ≡ 1 → cover_allows rbar Fetch privileged ≡ false

-- the words from ED90 to EDC8
abbrev pub words : List ℕ
words =
    0xE000ED90 ∷ 0xE000ED94 ∷ 0xE000ED98 ∷ 0xE000ED9C ∷ 0xE000EDA0 ∷ 0xE000EDA4 ∷ 0xE000EDA8 ∷ 0xE000EDAC ∷ 0xE000EDB0 ∷ 0xE000EDB4 ∷ 0xE000EDB8 ∷ 0xE000EDBC ∷ 0xE000EDC0 ∷ 0xE000EDC4 ∷ 0xE000EDC8 ∷ []

-- document 01's map of them
abbrev pub first_map : List Register
first_map =
    Guard mpu.Kind ∷ Guard mpu.Control ∷ Guard mpu.Number ∷ Guard mpu.Base ∷ Guard mpu.Attributes ∷ Guard mpu.Base ∷ Guard mpu.Attributes ∷ Guard mpu.Base ∷ Guard mpu.Attributes ∷ Guard mpu.Base ∷ Guard mpu.Attributes ∷ Missing ∷ Missing ∷ Missing ∷ Missing ∷ []

-- "ED90 to ED98 as before: ED9C .., EDA0 .., EDA4 to EDB8 are that pair .., and EDC0, EDC4 are plain words"
abbrev pub second_map : List Register
second_map =
    Guard mpu.Kind ∷ Guard mpu.Control ∷ Guard mpu.Number ∷ Guard (mpu.Rbar 0) ∷ Guard (mpu.Rlar 0) ∷ Guard (mpu.Rbar 1) ∷ Guard (mpu.Rlar 1) ∷ Guard (mpu.Rbar 2) ∷ Guard (mpu.Rlar 2) ∷ Guard (mpu.Rbar 3) ∷ Guard (mpu.Rlar 3) ∷ Missing ∷ Guard mpu.Mair0 ∷ Guard mpu.Mair1 ∷ Missing ∷ []

pub record Registers : Type 0 where
  -- "Refusals: 4 by the guard's own register map", on both line counts
  pub first : (map (register_at chip55) words ≡ first_map) × (map (register_at chip240) words ≡ first_map)
  pub second : (map (register_at (with_edition Pmsav8 chip55)) words ≡ second_map) × (map (register_at (with_edition Pmsav8 chip240)) words ≡ second_map)
  -- "ED9C keeps all bits", "EDA0 mask 0xFFFFFFEF": what is written through a pair reads back through it
  pub rbar : (g : Mpu) → SoundMpu Pmsav8 g → (pair x : ℕ) → read_mpu (mpu.Rbar pair) (write_mpu (mpu.Rbar pair) x g) ≡ kept_word x
  pub rlar : (g : Mpu) → SoundMpu Pmsav8 g → (pair x : ℕ) → read_mpu (mpu.Rlar pair) (write_mpu (mpu.Rlar pair) x g) ≡ kept_rlar x
  -- "that pair for the selected region with 1:0 of its number 1, 2, 3"; the number stays selected
  pub own_pair : (n : ℕ) → region_of 0 n ≡ n
  pub pairs : (pair n : ℕ) → 1 ≤ pair → pair ≤ 3 → (region_of pair n % 2 ^ 2 ≡ pair) × (region_of pair n / 2 ^ 2 ≡ n / 2 ^ 2)
  pub selected : (g : Mpu) (pair x : ℕ) → ((write_mpu (mpu.Rbar pair) x g).region ≡ g.region) × ((write_mpu (mpu.Rlar pair) x g).region ≡ g.region)

pub record E12 : Type 0 where
  -- of every chip that has a guard: the Cortex-M0 (E10) has none
  pub shared : (c : Chip) → is_armv6m c ≡ false → Shared c
  pub old : (c : Chip) → c.guard ≡ Pmsav7 → First c
  pub next : (c : Chip) → c.guard ≡ Pmsav8 → Second c
  pub region : Region
  pub map : Registers
  pub examples : Holds covering × Holds rights × Holds storage
