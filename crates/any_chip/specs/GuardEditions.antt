-- Document 02, E12, about what runs: `guard_editions` states of the rules' answers what a guard says of an access; here it is said of the replies, for every
-- chip that a setup names.
use Rattle.std.specs.Prelude.{ℕ, ◌%◌, ◌≡◌, ◌⊎◌, false, cond, get_or, T}
use Rattle.mpu.specs.declared.Mpu.{Mpu}
use Rattle.mpu.specs.declared.Edition.TheVariants.{Pmsav7, Pmsav8}
use Rattle.verdicts.specs.declared.Access.{Access}
use Rattle.verdicts.specs.Verdict.{background, fault_of, verdict}
use Rattle.editions.specs.Pmsav8.{Nowhere, Once, Twice, cover_allows}
use Rattle.editions.specs.Pmsav8Laws.{Covered, Reordered}
use Rattle.rules.specs.Chip.{is_armv6m, chip_of, fits}
use Rattle.rules.specs.Model.{put_guard}
use Rattle.rules.specs.Priorities.{execution, is_negative, privileged}
use Rattle.rules.specs.Sound.{Sound}
use Rattle.rules.specs.Access.{fits_access}
use Rattle.rules.specs.Step.{step_of}
use Rattle.guard_editions.specs.GuardEditions.{number, asks, verdict_in, ByRegions}
use Rattle.any_chip.specs.declared.State.{State}
use Rattle.any_chip.specs.View.{Reply}
use Rattle.any_chip.specs.View.{model, reply}
use Rattle.any_chip.specs.ViewLaws.{Sized}

-- r is what the call `access` hands back on a sound state of a chip that has a guard, for an access of its width at a multiple of it
pub record Asked (s : State) (access : Access) (w a : ℕ) (r : Reply) : Type 0 where
  pub sized : Sized s
  pub has_guard : is_armv6m (chip_of s.setup) ≡ false
  pub fit : T (fits (chip_of s.setup))
  pub sound : Sound (chip_of s.setup) (model s)
  pub width : T (fits_access (number access) w)
  pub aligned : a % w ≡ 0
  pub replied : r ≡ reply s.setup (step_of (chip_of s.setup) (model s) (asks access w a))

-- the state with another guard
abbrev pub guarded_by : Mpu → State → State
guarded_by g s =
    record { setup = s.setup; pending = s.pending; active = s.active; enabled = s.enabled; level = s.level; priority = s.priority; nest = s.nest; lost = s.lost; core = put_guard g s.core }

pub record CodeGuardEditions : Type 0 where
  -- there is a verdict for every address, and the state stays
  pub answered : (s : State) (access : Access) (w a : ℕ) (r : Reply) → Asked s access w a r → r ≡ record { refusal = 0; value = verdict_in (chip_of s.setup) (model s) access a; vector = 0; link = 0; state = s }
  pub every : (s : State) (access : Access) (w a : ℕ) (r : Reply) → Asked s access w a r → (r.value ≡ 0) ⊎ (r.value ≡ fault_of access)
  -- "the verdicts of the old one are untouched": they are document 01's
  pub untouched : (s : State) (access : Access) (w a : ℕ) (r : Reply) → s.setup.guard ≡ Pmsav7 → Asked s access w a r → r.value ≡ verdict s.core.guard access a (privileged s.core) (is_negative (execution (model s)))
  -- "An address that two enabled regions cover faults."
  pub two : (s : State) (access : Access) (w a : ℕ) (r : Reply) → s.setup.guard ≡ Pmsav8 → Asked s access w a r → ByRegions (model s) access a → Covered s.core.guard a Twice → r.value ≡ fault_of access
  -- one decides, and where there is none the background
  pub one : (s : State) (access : Access) (w a k : ℕ) (r : Reply) → s.setup.guard ≡ Pmsav8 → Asked s access w a r → ByRegions (model s) access a → Covered s.core.guard a (Once k) → r.value ≡ cond (cover_allows (get_or s.core.guard.bases k 0) access (privileged s.core)) 0 (fault_of access)
  pub none : (s : State) (access : Access) (w a : ℕ) (r : Reply) → s.setup.guard ≡ Pmsav8 → Asked s access w a r → ByRegions (model s) access a → Covered s.core.guard a Nowhere → r.value ≡ cond (background s.core.guard.control access a (privileged s.core)) 0 (fault_of access)
  -- The order of the regions is of no account.
  pub order : (s : State) (g : Mpu) (access : Access) (w a : ℕ) (p q : Reply) → s.setup.guard ≡ Pmsav8 → s.core.guard.control ≡ g.control → Reordered 8 s.core.guard.bases s.core.guard.attributes g.bases g.attributes → Asked s access w a p → Asked (guarded_by g s) access w a q → p.value ≡ q.value
