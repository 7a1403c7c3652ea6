-- The tests come in the definition's order: 15, the kind, then what follows it.
use mathlib.Core.Path.{sym, ap, ◌∙◌}
use native.Mathlib.Omega.{arith}
use lib.ListN.{length}
use borrow.Author.Tests.{lt-ltb, le-ltb}
use Rattle.std.specs.Prelude.{Err}
use Rattle.std.proofs.lemmas.Result.{err_from_is_err_and}
use Rattle.script.specs.Answers.{read_answer}
use Rattle.script.specs.Reading.{read_event, with_kind}
use Rattle.script.proofs.Arguments.{no_number}
use Rattle.script.proofs.reading.read_event.Goals as goal

pub returns-then-script-gt65536-clause-value : goal.returns-then-script-gt65536-clause-value
unfolding read_event
returns-then-script-gt65536-clause-value c = simp (lt-ltb 65536 (length c.args.script.now) (omega arith))

pub returns-then-script-gt65536-clause-numbers : goal.returns-then-script-gt65536-clause-numbers
returns-then-script-gt65536-clause-numbers c = ap read_answer (returns-then-script-gt65536-clause-value c)

pub returns-in_err-kind-clause-value : goal.returns-in_err-kind-clause-value
unfolding read_event with_kind
returns-in_err-kind-clause-value c =
    let p = err_from_is_err_and c.from_residual.result c.from_residual.ensures.1 in
    p.1 ∙ ap Err (p.2 ∙ no_number _ _ c.in_err-kind.ensures.value)
    ∙ simp (le-ltb 65536 (length c.args.script.now) (omega arith), sym c.read_number.ensures.value ∙ c.in_err-kind.ensures.ok_part)

pub returns-in_err-kind-clause-numbers : goal.returns-in_err-kind-clause-numbers
returns-in_err-kind-clause-numbers c = ap read_answer (returns-in_err-kind-clause-value c)

pub returns-clause-value : goal.returns-clause-value
unfolding read_event with_kind
returns-clause-value c =
    c.read_arguments.ensures
    ∙ simp (le-ltb 65536 (length c.args.script.now) (omega arith), sym c.read_number.ensures.value ∙ c.in_ok-kind.ensures.ok_part)

pub returns-clause-numbers : goal.returns-clause-numbers
returns-clause-numbers c = ap read_answer (returns-clause-value c)
