-- The checks 6, 1 and 2 in their order, then the verdict.
use mathlib.Core.Path.{◌∙◌, sym}
use mir.Facts.{to_z-of_z}
use Rattle.std.proofs.lemmas.Result.{err_from_is_err_and}
use Rattle.rules.specs.Access.{access_at}
use Rattle.access.proofs.Laws.{of_err, of_ok}
use Rattle.access.proofs.access.Goals as goal

pub returns-in_err-purpose : goal.returns-in_err-purpose
unfolding access_at
returns-in_err-purpose c =
    λ m. let k = of_err _ _ _ (sym c.in_err-purpose.ensures) in
    let p = err_from_is_err_and c.from_residual.result c.from_residual.ensures.1 in
    rw (p.1, p.2, k.1) (simp k.0)

pub returns-then-not-fits_access : goal.returns-then-not-fits_access
unfolding access_at
returns-then-not-fits_access c =
    λ m. let k = of_ok _ _ _ (sym c.in_ok-purpose.ensures) in
    simp (k.0, sym c.fits_access.ensures ∙ c.if-not-fits_access.true)

pub returns-then-not-is_aligned : goal.returns-then-not-is_aligned
unfolding access_at
returns-then-not-is_aligned c =
    λ m. let k = of_ok _ _ _ (sym c.in_ok-purpose.ensures) in
    simp (k.0, sym c.fits_access.ensures ∙ c.if-not-fits_access.false, sym c.is_aligned.ensures ∙ c.if-not-is_aligned.true)

pub returns : goal.returns
unfolding access_at
returns c =
    λ m. let k = of_ok _ _ _ (sym c.in_ok-purpose.ensures) in
    simp (c.accepted.ensures, c.from.ensures, c.verdict-verdict.ensures, c.is_privileged.ensures, to_z-of_z c.ranges.limit, k.0, k.1, sym c.fits_access.ensures ∙ c.if-not-fits_access.false, sym c.is_aligned.ensures ∙ c.if-not-is_aligned.false)
