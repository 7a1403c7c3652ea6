-- The groups left to read fall, and the definition has the same cases at a count that is not 0.
use mathlib.Core.Path.{sym, ap, ◌∙◌}
use mathlib.Core.List.{[], ◌∷◌}
use native.Mathlib.Omega.{arith}
use borrow.Author.Tests.{eq-eqb, ne_eqb, lt-ltb, le-ltb}
use Rattle.numbers.specs.Window.{joined_word, groups_of, groups_of_last, groups_of_join, groups_of_more}
use Rattle.numbers.proofs.+read_groups.Goals as goal

pub returns-then-left-eq0 : goal.returns-then-left-eq0
unfolding groups_of
returns-then-left-eq0 t c = simp c.if-left-eq0.true

pub returns-then-group-lt128 : goal.returns-then-group-lt128
returns-then-group-lt128 t c = sym (groups_of_last _ _ _ (omega arith) c.if-group-lt128.true)

pub returns-in_err-rest : goal.returns-in_err-rest
unfolding joined_word
returns-in_err-rest t c =
    c.from_residual.ensures
    ∙ ap (joined_word _) (c.in_err-rest.ensures ∙ groups_of_more (_ ∷ _ ∷ _ ∷ _ ∷ []) _)
    ∙ sym (groups_of_join _ _ _ (omega arith) c.if-group-lt128.false)

pub returns-then-rest-eq0 : goal.returns-then-rest-eq0
unfolding joined_word
returns-then-rest-eq0 t c =
    sym (groups_of_join _ _ _ (omega arith) c.if-group-lt128.false
    ∙ ap (joined_word _) (sym (c.in_ok-rest.ensures ∙ groups_of_more (_ ∷ _ ∷ _ ∷ _ ∷ []) _))
    ∙ simp (eq-eqb _ _ c.if-rest-eq0.true))

pub returns-then-rest-lt33554432 : goal.returns-then-rest-lt33554432
unfolding joined_word
returns-then-rest-lt33554432 t c =
    sym (groups_of_join _ _ _ (omega arith) c.if-group-lt128.false
    ∙ ap (joined_word _) (sym (c.in_ok-rest.ensures ∙ groups_of_more (_ ∷ _ ∷ _ ∷ _ ∷ []) _))
    ∙ simp (ne_eqb _ _ c.if-rest-eq0.false, lt-ltb _ _ c.if-rest-lt33554432.true))

pub returns : goal.returns
unfolding joined_word
returns t c =
    sym (groups_of_join _ _ _ (omega arith) c.if-group-lt128.false
    ∙ ap (joined_word _) (sym (c.in_ok-rest.ensures ∙ groups_of_more (_ ∷ _ ∷ _ ∷ _ ∷ []) _))
    ∙ simp (ne_eqb _ _ c.if-rest-eq0.false, le-ltb _ _ c.if-rest-lt33554432.false))
