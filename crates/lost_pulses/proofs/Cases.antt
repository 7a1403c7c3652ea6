-- The table holds by computation: each row's calls run to what is expected of it.
use mathlib.Core.Path.{refl}
use Rattle.rules.specs.Table.{Holds}
use Rattle.lost_pulses.specs.Cases.{cases}
use Rattle.bools.specs.Every as every
use Rattle.bits.specs.Words as bits
use Rattle.flag_words.specs.Flags as flags
use Rattle.priority.specs.Priority as priority
use Rattle.systick.specs.Timer as timer
use Rattle.mpu.specs.Registers as mpu
use Rattle.mpu.specs.Editions as editions
use Rattle.mpu.specs.Soundness as guard
use Rattle.rules.specs.Model as model
use Rattle.rules.specs.Priorities as priorities
use Rattle.rules.specs.Sound as sound
use Rattle.rules.specs.Events as events
use Rattle.rules.specs.Nesting as nesting
use Rattle.rules.specs.Map as addresses
use Rattle.rules.specs.Writes as writes
use Rattle.rules.specs.Registers as registers
use Rattle.rules.specs.Step as step

pub cases_hold : Holds cases
unfolding cases bits.without flags.word_of flags.put_flag flags.put_flags priority.least_active priority.execution_priority priority.best priority.best_pending timer.sound_timer mpu.fresh_mpu mpu.kept_base mpu.kept_attributes editions.guard_register_at editions.kept_first editions.kept_second editions.kept_plain guard.region_kept guard.plain_kept guard.sound_mpu model.fresh priorities.execution every.every sound.flag_sound sound.byte_sound sound.count_sound sound.nested_sound sound.unused_sound sound.sound_nest sound.sound_flags sound.sound_system sound.is_sized sound.is_sound events.levelled events.loses_rise events.one_more events.counted events.line_call events.lost_call events.control_written events.special_written events.special_at nesting.entered nesting.entry_at nesting.link_fits nesting.returned_masks nesting.repended nesting.returned nesting.return_call addresses.block_register addresses.register_at addresses.width_refusal writes.clearable writes.bank_written writes.word_written registers.access_refusal registers.written registers.write_call step.guarded step.admitted
cases_hold = (refl, (refl, (refl, (refl, (refl, (refl, (refl, (refl, (refl, (refl, (refl, (refl, (refl, (refl, (refl, (refl, (refl, (refl, (refl, (refl, tt))))))))))))))))))))
