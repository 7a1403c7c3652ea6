-- The rules' bounds: calls on states by value are calls on their models.
use mathlib.Core.List.{map}
use Rattle.demand3.proofs.Bounds.{bounded_55}
use Rattle.model.specs.View.{model}
use Rattle.model.specs.Demand3.{answer}
use Rattle.model.specs.Bounds.{CodeBounded}
use Rattle.model.proofs.Demand3.{called}

pub code_bounded : CodeBounded
code_bounded es rs t k = bounded_55 es (map answer rs) (model t) (called k)
