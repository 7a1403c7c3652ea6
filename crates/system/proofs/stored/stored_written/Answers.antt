-- By cases.
use mathlib.Core.Path.{◌∙◌}
use Rattle.rules.specs.Writes.{stored_written}
use Rattle.system.proofs.stored.stored_written.Goals as goal

pub returns-in-Vtable : goal.returns-in-Vtable
unfolding stored_written
returns-in-Vtable c = c.with_vtable.ensures ∙ simp (c.kept_vtable.ensures, c.in-Vtable.is)

pub returns-in-Sysctrl : goal.returns-in-Sysctrl
unfolding stored_written
returns-in-Sysctrl c = c.with_sysctrl.ensures ∙ simp (c.kept_sysctrl.ensures, c.in-Sysctrl.is)

pub returns-in-Cfgctrl : goal.returns-in-Cfgctrl
unfolding stored_written
returns-in-Cfgctrl c = c.with_cfgctrl.ensures ∙ simp (c.kept_cfgctrl.ensures, c.in-Cfgctrl.is)

pub returns-in-Faultstat : goal.returns-in-Faultstat
unfolding stored_written
returns-in-Faultstat c = c.with_faultstat.ensures ∙ simp (c.clear_ones.ensures, c.in-Faultstat.is)

pub returns-in-Hfaultstat : goal.returns-in-Hfaultstat
unfolding stored_written
returns-in-Hfaultstat c = c.with_hfaultstat.ensures ∙ simp (c.clear_ones-in-Hfaultstat.ensures, c.in-Hfaultstat.is)

pub returns-in-Ictype : goal.returns-in-Ictype
unfolding stored_written
returns-in-Ictype c = simp c.in-Ictype.is

pub returns-in-Cpuid : goal.returns-in-Cpuid
unfolding stored_written
returns-in-Cpuid c = simp c.in-Cpuid.is

pub returns-in-Intctrl : goal.returns-in-Intctrl
unfolding stored_written
returns-in-Intctrl c = simp c.in-Intctrl.is

pub returns-in-Apint : goal.returns-in-Apint
unfolding stored_written
returns-in-Apint c = simp c.in-Apint.is

pub returns-in-Syshndctrl : goal.returns-in-Syshndctrl
unfolding stored_written
returns-in-Syshndctrl c = simp c.in-Syshndctrl.is

pub returns-in-Mmaddr : goal.returns-in-Mmaddr
unfolding stored_written
returns-in-Mmaddr c = simp c.in-Mmaddr.is

pub returns-in-Faultaddr : goal.returns-in-Faultaddr
unfolding stored_written
returns-in-Faultaddr c = simp c.in-Faultaddr.is

pub returns-in-Swtrig : goal.returns-in-Swtrig
unfolding stored_written
returns-in-Swtrig c = simp c.in-Swtrig.is
