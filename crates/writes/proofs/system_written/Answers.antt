-- Each register by its own clause.
use mathlib.Core.Path.{◌∙◌}
use Rattle.rules.specs.Writes.{system_written}
use Rattle.writes.proofs.system_written.Goals as goal

pub returns-in-Intctrl-clause-writes : goal.returns-in-Intctrl-clause-writes
unfolding system_written
returns-in-Intctrl-clause-writes c = simp (c.intctrl_written.ensures, c.in-Intctrl.is)

pub returns-in-Apint-clause-writes : goal.returns-in-Apint-clause-writes
unfolding system_written
returns-in-Apint-clause-writes c = simp (c.apint_written-state.ensures, c.in-Apint.is)

pub returns-in-Syshndctrl-clause-writes : goal.returns-in-Syshndctrl-clause-writes
unfolding system_written
returns-in-Syshndctrl-clause-writes c = simp (c.syshndctrl_written.ensures, c.in-Syshndctrl.is)

pub returns-in-Swtrig-clause-writes : goal.returns-in-Swtrig-clause-writes
unfolding system_written
returns-in-Swtrig-clause-writes c = simp (c.swtrig_written.ensures, c.in-Swtrig.is)

pub returns-in-Vtable-clause-writes : goal.returns-in-Vtable-clause-writes
unfolding system_written
returns-in-Vtable-clause-writes c = c.stored_written.ensures.writes ∙ simp c.in-Vtable.is

pub returns-in-Sysctrl-clause-writes : goal.returns-in-Sysctrl-clause-writes
unfolding system_written
returns-in-Sysctrl-clause-writes c = c.stored_written-in-Sysctrl.ensures.writes ∙ simp c.in-Sysctrl.is

pub returns-in-Cfgctrl-clause-writes : goal.returns-in-Cfgctrl-clause-writes
unfolding system_written
returns-in-Cfgctrl-clause-writes c = c.stored_written-in-Cfgctrl.ensures.writes ∙ simp c.in-Cfgctrl.is

pub returns-in-Faultstat-clause-writes : goal.returns-in-Faultstat-clause-writes
unfolding system_written
returns-in-Faultstat-clause-writes c = c.stored_written-in-Faultstat.ensures.writes ∙ simp c.in-Faultstat.is

pub returns-in-Hfaultstat-clause-writes : goal.returns-in-Hfaultstat-clause-writes
unfolding system_written
returns-in-Hfaultstat-clause-writes c = c.stored_written-in-Hfaultstat.ensures.writes ∙ simp c.in-Hfaultstat.is

pub returns-in-Ictype-clause-writes : goal.returns-in-Ictype-clause-writes
unfolding system_written
returns-in-Ictype-clause-writes c = simp c.in-Ictype.is

pub returns-in-Cpuid-clause-writes : goal.returns-in-Cpuid-clause-writes
unfolding system_written
returns-in-Cpuid-clause-writes c = simp c.in-Cpuid.is

pub returns-in-Mmaddr-clause-writes : goal.returns-in-Mmaddr-clause-writes
unfolding system_written
returns-in-Mmaddr-clause-writes c = simp c.in-Mmaddr.is

pub returns-in-Faultaddr-clause-writes : goal.returns-in-Faultaddr-clause-writes
unfolding system_written
returns-in-Faultaddr-clause-writes c = simp c.in-Faultaddr.is
