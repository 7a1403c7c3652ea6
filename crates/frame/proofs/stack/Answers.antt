-- An accepted stacking has room for the frame, whose part of the window is all that the words are written to.
use Prim.Native.Nat.{◌+◌, ◌-◌}
use mathlib.Core.Path.{sym, ap, ◌∙◌}
use native.Mathlib.Omega.{arith}
use borrow.Author.Tests.{eq-eqb}
use borrow.Rule.Slice.PartMut.{Post-is}
use Rattle.std.specs.Prelude.{Ok, Err}
use Rattle.std.proofs.lemmas.Result.{err_from_is_err_and}
use Rattle.frame.specs.Answers.{stack_answer}
use Rattle.frame.specs.Frame.{frame_at, stacked, written, stacked_window}
use Rattle.frame.proofs.Accepted.{passed, failed, stack_accepted, stack_tested}
use Rattle.frame.proofs.RoundTrip.{stack_refused}
use Rattle.frame.proofs.stack.Goals as goal

pub returns-in_err-check-clause-value : goal.returns-in_err-check-clause-value
unfolding stacked
returns-in_err-check-clause-value c =
    let p = err_from_is_err_and c.from_residual.result c.from_residual.ensures.1 in
    p.1 ∙ ap Err p.2 ∙ sym (failed _ _ _ _ (rw (c.window_fits.ensures, c.stack_fits.ensures) at c.in_err-check.ensures)).1

pub returns-in_err-check-clause-bytes : goal.returns-in_err-check-clause-bytes
returns-in_err-check-clause-bytes c =
    sym (stack_refused _ _ _ _ _ (failed {A = Unit {0}} _ _ (Ok tt) _ (rw (c.window_fits.ensures, c.stack_fits.ensures) at c.in_err-check.ensures)).0)

pub returns-in_err-check-clause-numbers : goal.returns-in_err-check-clause-numbers
returns-in_err-check-clause-numbers c = ap stack_answer (returns-in_err-check-clause-value c)

pub frame_at-frame-requires : goal.frame_at-frame-requires
frame_at-frame-requires c = (stack_tested c.window_fits.ensures c.stack_fits.ensures c.in_ok-check.ensures).room

pub overflow_sub-start : goal.overflow_sub-start
overflow_sub-start c = rw c.frame_at-frame.ensures (stack_tested c.window_fits.ensures c.stack_fits.ensures c.in_ok-check.ensures).holds.from

pub in_order-list-requires : goal.in_order-list-requires
in_order-list-requires c = (stack_tested c.window_fits.ensures c.stack_fits.ensures c.in_ok-check.ensures).room

pub slice_bounds-put_words-end : goal.slice_bounds-put_words-end
slice_bounds-put_words-end c =
    let h = (stack_tested c.window_fits.ensures c.stack_fits.ensures c.in_ok-check.ensures).holds in
    omega (arith, h.from, h.upto, c.frame_at-frame.ensures)

pub returns-clause-value : goal.returns-clause-value
unfolding stacked
returns-clause-value c =
    ap Ok c.frame_at-frame.ensures ∙ sym (passed _ _ _ _ (rw (c.window_fits.ensures, c.stack_fits.ensures) at c.in_ok-check.ensures)).1

pub returns-clause-bytes : goal.returns-clause-bytes
unfolding stacked_window written
returns-clause-bytes c =
    let k = (passed {A = Unit {0}} _ _ (Ok tt) _ (rw (c.window_fits.ensures, c.stack_fits.ensures) at c.in_ok-check.ensures)).0 in
    let h = (stack_accepted _ _ _ _ k).holds in
    let o = frame_at c.args.align c.args.sp - c.args.base in
    simp (
      c.frame_at-frame.ensures,
      eq-eqb _ _ k,
      c.put_words.ensures,
      c.in_order-list.ensures,
      Post-is o (o + 32) c.args.window.now (omega (arith, h.from, h.upto)),
    )

pub returns-clause-numbers : goal.returns-clause-numbers
returns-clause-numbers c = ap stack_answer (returns-clause-value c)
