-- A register that the chip lacks is refused. Unprivileged there is no effect; privileged the register is written.
use mir.Facts.{to_z-of_z}
use mathlib.Core.Path.{◌∙◌, sym}
use borrow.Author.Tests.{lt-ltb}
use Rattle.std.proofs.lemmas.Result.{err_from_is_err_and}
use Rattle.rules.specs.Events.{special_at}
use Rattle.special.proofs.Laws.{register_low}
use Rattle.special.proofs.special.Goals as goal

pub returns-in_err-register-clause-answer : goal.returns-in_err-register-clause-answer
unfolding special_at
returns-in_err-register-clause-answer c =
    let p = err_from_is_err_and c.from_residual.result c.from_residual.ensures.1 in
    rw (p.1, p.2, c.in_err-register.ensures.0) (simp (lt-ltb _ _ c.in_err-register.ensures.1))

pub returns-then-lacks_special-clause-answer : goal.returns-then-lacks_special-clause-answer
unfolding special_at
returns-then-lacks_special-clause-answer c =
    simp (register_low _ _ c.in_ok-register.ensures, sym (rw c.in_ok-register.ensures at c.lacks_special.ensures) ∙ c.if-lacks_special.true)

pub returns-then-is_privileged-clause-answer : goal.returns-then-is_privileged-clause-answer
unfolding special_at
returns-then-is_privileged-clause-answer c =
    simp (c.accepted.ensures, c.special_written-state.ensures, to_z-of_z c.ranges.limit, register_low _ _ c.in_ok-register.ensures, sym (rw c.in_ok-register.ensures at c.lacks_special.ensures) ∙ c.if-lacks_special.false, sym c.is_privileged.ensures ∙ c.if-is_privileged.true)

pub returns-clause-answer : goal.returns-clause-answer
unfolding special_at
returns-clause-answer c =
    simp (c.accepted-2.ensures, register_low _ _ c.in_ok-register.ensures, sym (rw c.in_ok-register.ensures at c.lacks_special.ensures) ∙ c.if-lacks_special.false, sym c.is_privileged.ensures ∙ c.if-is_privileged.false)
