-- By the register; a base without its low five bits leaves room for the number.
use mathlib.Core.Path.{◌∙◌}
use native.Mathlib.Omega.{arith}
use Rattle.mpu.specs.Registers.{read_mpu}
use Rattle.mpu.specs.Laws.{kept_base_word}
use Rattle.mpu.proofs.Mpu.read.Goals as goal

pub overflow_add-result : goal.overflow_add-result
overflow_add-result c = omega (arith, c.kept_base.ensures, kept_base_word c.word_at.result)

pub returns-in-Kind : goal.returns-in-Kind
unfolding read_mpu
returns-in-Kind c = simp c.in-Kind.is

pub returns-in-Control : goal.returns-in-Control
unfolding read_mpu
returns-in-Control c = simp c.in-Control.is

pub returns-in-Number : goal.returns-in-Number
unfolding read_mpu
returns-in-Number c = simp c.in-Number.is

pub returns-in-Base : goal.returns-in-Base
unfolding read_mpu
returns-in-Base c = simp (c.kept_base.ensures, c.word_at.ensures, c.in-Base.is)

pub returns-in-Attributes : goal.returns-in-Attributes
unfolding read_mpu
returns-in-Attributes c = simp (c.word_at-in-Attributes.ensures, c.in-Attributes.is)

pub returns-in-Rbar : goal.returns-in-Rbar
unfolding read_mpu
returns-in-Rbar c = c.read_rbar.ensures ∙ simp c.in-Rbar.is

pub returns-in-Rlar : goal.returns-in-Rlar
unfolding read_mpu
returns-in-Rlar c = c.read_rlar.ensures ∙ simp c.in-Rlar.is

pub returns-in-Mair0 : goal.returns-in-Mair0
unfolding read_mpu
returns-in-Mair0 c = simp c.in-Mair0.is

pub returns-in-Mair1 : goal.returns-in-Mair1
unfolding read_mpu
returns-in-Mair1 c = simp c.in-Mair1.is

pub returns-in-Missing : goal.returns-in-Missing
unfolding read_mpu
returns-in-Missing c = simp c.in-Missing.is
