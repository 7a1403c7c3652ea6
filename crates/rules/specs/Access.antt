-- Document 01, "Access verdicts", as a call; the verdict is that of the chip's guard (document 02, E12), where it has one (E10).
use Rattle.std.specs.Prelude.{ℕ, ◌%◌, Bool, not, cond, ltb, eqb, ℤ}
use Rattle.mpu.specs.declared.Edition.{Edition}
use Rattle.verdicts.specs.declared.Access.{Access}
use Rattle.verdicts.specs.declared.Access.TheVariants as access
use Rattle.editions.specs.Editions.{guard_verdict}
use Rattle.rules.specs.declared.Chip.{Chip}
use Rattle.rules.specs.Chip.{is_armv6m}
use Rattle.rules.specs.Model.{Model, Answer, refuse, done}
use Rattle.rules.specs.Priorities.{execution, is_negative, privileged}
use Rattle.rules.specs.Registers.{is_width}

-- "Kinds: 0 read, 1 write, 2 fetch"
unfoldable pub purpose_of : ℕ → Access
purpose_of k = cond (eqb k 0) access.Read (cond (eqb k 1) access.Write access.Fetch)

-- "width not 1, 2 or 4; a fetch not 2"
unfoldable pub fits_access : ℕ → ℕ → Bool
fits_access k w = cond (eqb k 2) (eqb w 2) (is_width w)

-- "The state stays."
unfoldable pub access_at : Edition → ℤ → Model → ℕ → ℕ → ℕ → Answer
access_at edition e m k w a =
    cond (ltb 2 k) (refuse 6 m)
    (cond (not (fits_access k w)) (refuse 1 m)
    (cond (not (eqb (a % w) 0)) (refuse 2 m)
    (done (guard_verdict edition m.core.guard (purpose_of k) a (privileged m.core) (is_negative e)) m)))

-- Document 02, E10: "access events are refused by 19, before all others but 16"
unfoldable pub access_by : Chip → ℤ → Model → ℕ → ℕ → ℕ → Answer
access_by c e m k w a = cond (is_armv6m c) (refuse 19 m) (access_at c.guard e m k w a)

abbrev pub access_call : Chip → Model → ℕ → ℕ → ℕ → Answer
access_call c m k w a = access_by c (execution m) m k w a
