-- Document 02, E12, about what runs: "the verdicts of the old one are untouched". On the 55-line chip, which keeps the first guard, a reply has document 01's
-- verdict.
use Rattle.std.specs.Prelude.{ℕ, ◌%◌, ◌≡◌, T}
use Rattle.verdicts.specs.declared.Access.{Access}
use Rattle.verdicts.specs.Verdict.{verdict}
use Rattle.rules.specs.Chip.{chip55}
use Rattle.rules.specs.Priorities.{execution, is_negative, privileged}
use Rattle.rules.specs.Sound.{Sound}
use Rattle.rules.specs.Access.{fits_access}
use Rattle.rules.specs.Step.{step_of}
use Rattle.guard_editions.specs.GuardEditions.{number, asks}
use Rattle.model.specs.declared.State.{State}
use Rattle.model.specs.View.{Reply}
use Rattle.model.specs.View.{model, reply}

-- r is what the call `access` hands back on a sound state, for an access of its width at a multiple of it
abbrev pub CodeOldGuard : Type 0
CodeOldGuard =
    (s : State) (access : Access) (w a : ℕ) (r : Reply) → Sound chip55 (model s) → T (fits_access (number access) w) → a % w ≡ 0
    → r ≡ reply (step_of chip55 (model s) (asks access w a))
    → r ≡ record { refusal = 0; value = verdict s.core.guard access a (privileged s.core) (is_negative (execution (model s))); vector = 0; link = 0; state = s }
