-- A link value that fits has something to return from; any other is refused by 9.
use Rattle.returning.proofs.Laws.{sub_one}
use mathlib.Core.Path.{◌∙◌, sym}
use Rattle.bools.specs.Tests.{is_true}
use Rattle.rules.specs.Nesting.{return_call}
use Rattle.rules.proofs.Laws.{link_deep}
use Rattle.returning.proofs.return_.Goals as goal

pub overflow_sub-depth : goal.overflow_sub-depth
overflow_sub-depth c = link_deep _ c.args.value (is_true (sym c.link_fits.ensures ∙ c.if-link_fits.true))

pub leave-requires : goal.leave-requires
leave-requires c = link_deep _ c.args.value (is_true (sym c.link_fits.ensures ∙ c.if-link_fits.true))

pub returns-then-link_fits-clause-answer : goal.returns-then-link_fits-clause-answer
unfolding return_call
returns-then-link_fits-clause-answer c =
    simp (c.accepted.ensures, c.leave.ensures.left, c.newest-next.ensures, sym c.link_fits.ensures ∙ c.if-link_fits.true, sub_one)

pub returns-clause-answer : goal.returns-clause-answer
unfolding return_call
returns-clause-answer c = simp (sym c.link_fits.ensures ∙ c.if-link_fits.false)
