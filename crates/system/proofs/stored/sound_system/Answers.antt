-- Test by test.
use mathlib.Core.Path.{◌∙◌}
use Rattle.rules.specs.Sound.{sound_system}
use Rattle.system.proofs.stored.sound_system.Goals as goal

pub returns : goal.returns
unfolding sound_system
returns c =
    c.both-3.ensures ∙ simp (c.both-2.ensures, c.both-control.ensures, c.both.ensures, c.kept_bits.ensures, c.kept_faultstat.ensures, c.kept_cfgctrl.ensures, c.kept_sysctrl.ensures, c.kept_vtable.ensures)
