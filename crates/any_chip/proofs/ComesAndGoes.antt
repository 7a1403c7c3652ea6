-- The rules' theorem at the setup's chip.
use mathlib.Core.Path.{refl}
use Rattle.rules.specs.Chip.{chip_of}
use Rattle.demand3.proofs.ComesAndGoes.{comes_and_goes}
use Rattle.any_chip.specs.View.{model}
use Rattle.any_chip.specs.Demand3.{answer}
use Rattle.any_chip.specs.ComesAndGoes.{CodeComesAndGoes}
use Rattle.any_chip.proofs.Demand3.{called}

pub code_comes_and_goes : CodeComesAndGoes
code_comes_and_goes s t r q h k =
    comes_and_goes (chip_of s.setup) (model s) (model t) (answer r) (answer q) h (called s.setup refl h k)
