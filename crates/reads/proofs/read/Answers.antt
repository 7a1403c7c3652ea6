-- The refusals in their order, then the register.
use mathlib.Core.Path.{sym}
use Rattle.std.proofs.lemmas.Result.{err_from_is_err_and}
use Rattle.map.proofs.Laws.{number_not_0}
use Rattle.rules.specs.Registers.{read_call}
use Rattle.reads.proofs.read.Goals as goal

pub returns-in_err-access_refusal-clause-answer : goal.returns-in_err-access_refusal-clause-answer
unfolding read_call
returns-in_err-access_refusal-clause-answer c =
    let p = err_from_is_err_and c.from_residual.result c.from_residual.ensures.1 in
    rw (p.1, p.2) (simp (sym (simp (c.register_of-register.ensures, c.is_privileged-allowed.ensures) at c.in_err-access_refusal.ensures), number_not_0))

pub returns-clause-answer : goal.returns-clause-answer
unfolding read_call
returns-clause-answer c =
    simp (c.accepted.ensures, c.after_read.ensures.reads, c.lane_of.ensures, c.value_of-word.ensures, c.register_of-register.ensures, sym (simp (c.register_of-register.ensures, c.is_privileged-allowed.ensures) at c.in_ok-access_refusal.ensures))
