-- The rules' bounds: calls on states by value are calls on their models.
use mathlib.Core.List.{map}
use Rattle.demand3.proofs.Bounds.{bounded_55, bounded_240, bounded_m0}
use Rattle.any_chip.specs.View.{model}
use Rattle.any_chip.specs.Demand3.{answer}
use Rattle.any_chip.specs.Bounds.{CodeBounded}
use Rattle.any_chip.proofs.Demand3.{called_fresh}

pub code_bounded : CodeBounded
code_bounded =
    record {
      lines55 = λ es rs t k. bounded_55 es (map answer rs) (model t) (called_fresh _ k);
      lines240 = λ es rs t k. bounded_240 es (map answer rs) (model t) (called_fresh _ k);
      cortex_m0 = λ w e es rs t k. bounded_m0 es (map answer rs) (model t) (called_fresh _ k);
    }
