-- Three arguments read one by one are the definition's numbers in a row (`Arguments`).
use mathlib.Core.Path.{sym, ap, ◌∙◌}
use Rattle.std.specs.Prelude.{Err}
use Rattle.std.proofs.lemmas.Result.{err_from_is_err_and}
use Rattle.script.proofs.Arguments.{no_number, first_bad, second_bad, third_bad, all_found}
use Rattle.script.proofs.reading.read_arguments.Goals as goal

pub returns-in_err-a : goal.returns-in_err-a
returns-in_err-a c =
    let p = err_from_is_err_and c.from_residual.result c.from_residual.ensures.1 in
    p.1 ∙ ap Err (p.2 ∙ no_number _ _ c.in_err-a.ensures.value)
    ∙ first_bad _ _ _ _ c.arity-count.ensures (sym c.read_if.ensures ∙ c.in_err-a.ensures.ok_part)

pub returns-in_err-b : goal.returns-in_err-b
returns-in_err-b c =
    let p = err_from_is_err_and c.from_residual-in_err-b.result c.from_residual-in_err-b.ensures.1 in
    p.1 ∙ ap Err (p.2 ∙ no_number _ _ c.in_err-b.ensures.value)
    ∙ second_bad _ _ _ _ c.arity-count.ensures _ _ (sym c.read_if.ensures ∙ c.in_ok-a.ensures.ok_part)
    (sym c.read_if-2.ensures ∙ c.in_err-b.ensures.ok_part)

pub returns-in_err-c : goal.returns-in_err-c
returns-in_err-c c =
    let p = err_from_is_err_and c.from_residual-in_err-c.result c.from_residual-in_err-c.ensures.1 in
    p.1 ∙ ap Err (p.2 ∙ no_number _ _ c.in_err-c.ensures.value)
    ∙ third_bad _ _ _ _ c.arity-count.ensures _ _ (sym c.read_if.ensures ∙ c.in_ok-a.ensures.ok_part)
    _ _ (sym c.read_if-2.ensures ∙ c.in_ok-b.ensures.ok_part)
    (sym c.read_if-3.ensures ∙ c.in_err-c.ensures.ok_part)

pub returns : goal.returns
returns c =
    c.event_of.ensures
    ∙ all_found _ _ _ _ c.arity-count.ensures _ _ (sym c.read_if.ensures ∙ c.in_ok-a.ensures.ok_part)
    _ _ (sym c.read_if-2.ensures ∙ c.in_ok-b.ensures.ok_part)
    _ _ (sym c.read_if-3.ensures ∙ c.in_ok-c.ensures.ok_part)
