-- The rules' theorem at the 55-line chip.
use Rattle.rules.specs.Chip.{chip55}
use Rattle.demand3.proofs.ComesAndGoes.{comes_and_goes}
use Rattle.model.specs.View.{model}
use Rattle.model.specs.Demand3.{answer}
use Rattle.model.specs.ComesAndGoes.{CodeComesAndGoes}
use Rattle.model.proofs.Demand3.{called}

pub code_comes_and_goes : CodeComesAndGoes
code_comes_and_goes s t r q h k = comes_and_goes chip55 (model s) (model t) (answer r) (answer q) h (called k)
