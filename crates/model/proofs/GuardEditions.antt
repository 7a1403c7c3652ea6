-- The rules' theorem at the 55-line chip.
use mathlib.Core.Path.{refl, ap, ◌∙◌}
use Rattle.rules.specs.Chip.{chip55}
use Rattle.rules.specs.Model.{done}
use Rattle.guard_editions.proofs.GuardEditions.{e12}
use Rattle.model.specs.View.{model, reply}
use Rattle.model.specs.GuardEditions.{CodeOldGuard}

pub code_old_guard : CodeOldGuard
code_old_guard s access w a r h t q p =
    p
    ∙ ap reply ((e12.shared chip55 refl).answered tt (model s) h access w a t q)
    ∙ ap (λ v. reply (done v (model s))) ((e12.old chip55 refl).untouched (model s) access a)
