-- The refusals in their order, then the register.
use mathlib.Core.Path.{sym}
use borrow.Author.Tests.{eq-eqb, ne_eqb}
use Rattle.std.proofs.lemmas.Result.{err_from_is_err_and}
use Rattle.map.proofs.Laws.{number_not_0}
use Rattle.rules.specs.Registers.{written, write_call}
use Rattle.writes.proofs.write.Goals as goal

pub returns-in_err-access_refusal-clause-answer : goal.returns-in_err-access_refusal-clause-answer
unfolding write_call
returns-in_err-access_refusal-clause-answer c =
    let p = err_from_is_err_and c.from_residual.result c.from_residual.ensures.1 in
    rw (p.1, p.2) (simp (sym (simp (c.register_of-register.ensures, c.may_write-allowed.ensures) at c.in_err-access_refusal.ensures), number_not_0))

pub returns-then-width-eq4-clause-answer : goal.returns-then-width-eq4-clause-answer
unfolding write_call written
returns-then-width-eq4-clause-answer c =
    simp (c.accepted.ensures, c.word_written.ensures.writes, c.register_of-register.ensures, sym (simp (c.register_of-register.ensures, c.may_write-allowed.ensures, eq-eqb _ _ c.if-width-eq4.true) at c.in_ok-access_refusal.ensures), eq-eqb _ _ c.if-width-eq4.true)

pub returns-clause-answer : goal.returns-clause-answer
unfolding write_call written
returns-clause-answer c =
    simp (c.accepted-2.ensures, c.byte_written.ensures.writes, c.register_of-register.ensures, sym (simp (c.register_of-register.ensures, c.may_write-allowed.ensures, ne_eqb _ _ c.if-width-eq4.false) at c.in_ok-access_refusal.ensures), ne_eqb _ _ c.if-width-eq4.false)
