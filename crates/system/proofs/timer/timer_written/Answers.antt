-- By cases.
use mathlib.Core.Path.{◌∙◌}
use Rattle.rules.specs.Writes.{timer_written}
use Rattle.system.proofs.timer.timer_written.Goals as goal

pub returns-in-Stctrl : goal.returns-in-Stctrl
unfolding timer_written
returns-in-Stctrl c = c.write_control.ensures ∙ simp c.in-Stctrl.is

pub returns-in-Streload : goal.returns-in-Streload
unfolding timer_written
returns-in-Streload c = c.write_reload.ensures ∙ simp c.in-Streload.is

pub returns-in-Stcurrent : goal.returns-in-Stcurrent
unfolding timer_written
returns-in-Stcurrent c = c.write_current.ensures ∙ simp c.in-Stcurrent.is
