-- An accepted unstacking finds its 32 bytes in the window.
use mathlib.Core.Path.{sym, ap, ◌∙◌}
use native.Mathlib.Omega.{arith}
use Rattle.std.specs.Prelude.{Err}
use Rattle.std.proofs.lemmas.Result.{err_from_is_err_and}
use Rattle.frame.specs.Answers.{unstack_answer}
use Rattle.frame.specs.Frame.{unstacked}
use Rattle.frame.proofs.Accepted.{passed, failed, unstack_tested}
use Rattle.frame.proofs.unstack.Goals as goal

pub returns-in_err-check-clause-value : goal.returns-in_err-check-clause-value
unfolding unstacked
returns-in_err-check-clause-value c =
    let p = err_from_is_err_and c.from_residual.result c.from_residual.ensures.1 in
    p.1 ∙ ap Err p.2 ∙ sym (failed _ _ _ _ (rw (c.window_fits.ensures, c.unstack_fits.ensures) at c.in_err-check.ensures)).1

pub returns-in_err-check-clause-numbers : goal.returns-in_err-check-clause-numbers
returns-in_err-check-clause-numbers c = ap unstack_answer (returns-in_err-check-clause-value c)

pub overflow_sub-sp : goal.overflow_sub-sp
overflow_sub-sp c = (unstack_tested c.window_fits.ensures c.unstack_fits.ensures c.in_ok-check.ensures).holds.from

pub get_words-words-requires : goal.get_words-words-requires
get_words-words-requires c =
    let h = (unstack_tested c.window_fits.ensures c.unstack_fits.ensures c.in_ok-check.ensures).holds in
    omega (arith, h.from, h.upto)

pub restored_sp-sp-requires : goal.restored_sp-sp-requires
restored_sp-sp-requires c = omega (arith, (unstack_tested c.window_fits.ensures c.unstack_fits.ensures c.in_ok-check.ensures).restored)

pub returns-clause-value : goal.returns-clause-value
unfolding unstacked
returns-clause-value c =
    simp (c.restored_sp-sp.ensures, c.get_words-words.ensures)
    (sym (passed _ _ _ _ (rw (c.window_fits.ensures, c.unstack_fits.ensures) at c.in_ok-check.ensures)).1)

pub returns-clause-numbers : goal.returns-clause-numbers
returns-clause-numbers c = ap unstack_answer (returns-clause-value c)
