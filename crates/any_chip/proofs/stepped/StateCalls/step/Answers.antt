-- The chip's places of each array are lent and taken back.
use mathlib.Core.Path.{◌≡◌, sym, ◌∙◌}
use borrow.Author.Rules.{rules}
use Rattle.parts.specs.Numbers.{numbers}
use Rattle.parts.proofs.Laws.{beside, answered}
use Rattle.rules.specs.Lent.{model_of}
use Rattle.rules.specs.Model.{Model}
use Rattle.rules.specs.Chip.{chip_of}
use Rattle.rules.specs.Step.{step_of}
use Rattle.any_chip.specs.View.{model, reply}
use Rattle.any_chip.specs.ViewLaws.{Sized}
use Rattle.any_chip.proofs.View.{replied, step_back}
use Rattle.any_chip.proofs.stepped.StateCalls.step.Goals as goal

meets : {A : Type 0} {x y z : A} → y ≡ z → x ≡ y → x ≡ z
meets q p = p ∙ q

pub returns : goal.returns
returns c =
    let z : Sized c.args.self = record { pending = search rules; active = search rules; enabled = search rules; level = search rules; priority = search rules; nest = search rules; lost = search rules } in
    let after : Model = model_of c.step_on-outcome.new.pending c.step_on-outcome.new.active c.step_on-outcome.new.enabled c.step_on-outcome.new.level c.step_on-outcome.new.priority c.step_on-outcome.new.nest c.step_on-outcome.new.lost c.step_on-outcome.new.core in
    let back : replied c.reach_on-reach.result c.args.self (beside (numbers c.step_on-outcome.result) after) ≡ reply c.args.self.setup (step_of (chip_of c.args.self.setup) (model c.args.self) c.args.event) =
    step_back c.args.self z c.chip.result c.chip.ensures c.reach_on-reach.result c.reach_on-reach.ensures.value c.args.event _ (sym (answered c.step_on-outcome.result after) ∙ c.step_on-outcome.ensures) in
    meets back (search rules)
