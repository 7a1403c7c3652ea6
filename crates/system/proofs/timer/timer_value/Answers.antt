-- By cases.
use mathlib.Core.Path.{◌∙◌}
use Rattle.rules.specs.Reads.{timer_value}
use Rattle.system.proofs.timer.timer_value.Goals as goal

pub returns-in-Stctrl : goal.returns-in-Stctrl
unfolding timer_value
returns-in-Stctrl c = c.control_value.ensures ∙ simp c.in-Stctrl.is

pub returns-in-Streload : goal.returns-in-Streload
unfolding timer_value
returns-in-Streload c = c.read_reload.ensures ∙ simp c.in-Streload.is

pub returns-in-Stcurrent : goal.returns-in-Stcurrent
unfolding timer_value
returns-in-Stcurrent c = c.read_current.ensures ∙ simp c.in-Stcurrent.is
