-- By cases.
use mathlib.Core.Path.{◌∙◌}
use Rattle.rules.specs.Reads.{timer_read}
use Rattle.system.proofs.timer.timer_read.Goals as goal

pub returns-in-Stctrl : goal.returns-in-Stctrl
unfolding timer_read
returns-in-Stctrl c = c.control_read.ensures ∙ simp c.in-Stctrl.is

pub returns-in-Streload : goal.returns-in-Streload
unfolding timer_read
returns-in-Streload c = simp c.in-Streload.is

pub returns-in-Stcurrent : goal.returns-in-Stcurrent
unfolding timer_read
returns-in-Stcurrent c = simp c.in-Stcurrent.is
