-- The three parts, added.
use native.Mathlib.Omega.{arith}
use Rattle.rules.specs.Reads.{syshndctrl_value}
use Rattle.control.proofs.syshndctrl_value.Goals as goal

pub returns : goal.returns
unfolding syshndctrl_value
returns c = omega arith
