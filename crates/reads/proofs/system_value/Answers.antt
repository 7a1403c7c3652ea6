-- One clause a register.
use mathlib.Core.Path.{◌∙◌}
use Rattle.rules.specs.Reads.{system_value}
use Rattle.reads.proofs.system_value.Goals as goal

pub returns-in-Ictype : goal.returns-in-Ictype
unfolding system_value
returns-in-Ictype c = c.ictype_value.ensures ∙ simp c.in-Ictype.is

pub returns-in-Cpuid : goal.returns-in-Cpuid
unfolding system_value
returns-in-Cpuid c = simp c.in-Cpuid.is

pub returns-in-Intctrl : goal.returns-in-Intctrl
unfolding system_value
returns-in-Intctrl c = c.intctrl_value.ensures ∙ simp c.in-Intctrl.is

pub returns-in-Vtable : goal.returns-in-Vtable
unfolding system_value
returns-in-Vtable c = simp c.in-Vtable.is

pub returns-in-Apint : goal.returns-in-Apint
unfolding system_value
returns-in-Apint c = simp c.in-Apint.is

pub returns-in-Sysctrl : goal.returns-in-Sysctrl
unfolding system_value
returns-in-Sysctrl c = simp c.in-Sysctrl.is

pub returns-in-Cfgctrl : goal.returns-in-Cfgctrl
unfolding system_value
returns-in-Cfgctrl c = simp c.in-Cfgctrl.is

pub returns-in-Syshndctrl : goal.returns-in-Syshndctrl
unfolding system_value
returns-in-Syshndctrl c = c.syshndctrl_value.ensures ∙ simp c.in-Syshndctrl.is

pub returns-in-Faultstat : goal.returns-in-Faultstat
unfolding system_value
returns-in-Faultstat c = simp c.in-Faultstat.is

pub returns-in-Hfaultstat : goal.returns-in-Hfaultstat
unfolding system_value
returns-in-Hfaultstat c = simp c.in-Hfaultstat.is

pub returns-in-Mmaddr : goal.returns-in-Mmaddr
unfolding system_value
returns-in-Mmaddr c = simp c.in-Mmaddr.is

pub returns-in-Faultaddr : goal.returns-in-Faultaddr
unfolding system_value
returns-in-Faultaddr c = simp c.in-Faultaddr.is

pub returns-in-Swtrig : goal.returns-in-Swtrig
unfolding system_value
returns-in-Swtrig c = simp c.in-Swtrig.is
