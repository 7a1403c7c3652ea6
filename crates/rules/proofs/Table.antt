-- The tables hold by computation: each row's calls run to what is expected of it.
use mathlib.Core.Path.{refl}
use Rattle.rules.specs.Table.{Holds, starred, further, added, currents, printed}
use Rattle.bools.specs.Every as every
use Rattle.bits.specs.Words as bits
use Rattle.flag_words.specs.Flags as flags
use Rattle.priority.specs.Priority as priority
use Rattle.systick.specs.Timer as timer
use Rattle.mpu.specs.Registers as mpu
use Rattle.mpu.specs.Editions as editions
use Rattle.mpu.specs.Soundness as guard
use Rattle.verdicts.specs.Verdict as verdicts
use Rattle.editions.specs.Editions as judged
use Rattle.frame.specs.Frame as frames
use Rattle.script.specs.Event as script
use Rattle.rules.specs.Model as model
use Rattle.rules.specs.Priorities as priorities
use Rattle.rules.specs.Sound as sound
use Rattle.rules.specs.Events as events
use Rattle.rules.specs.Nesting as nesting
use Rattle.rules.specs.Map as addresses
use Rattle.rules.specs.Reads as reads
use Rattle.rules.specs.Writes as writes
use Rattle.rules.specs.Registers as registers
use Rattle.rules.specs.Access as access
use Rattle.rules.specs.Step as step

all_hold : Holds starred × Holds further × Holds added
unfolding starred further added currents printed bits.with_bit bits.without flags.word_of flags.put_flag flags.put_flags flags.some_flag priority.least_active priority.execution_priority priority.best priority.best_pending timer.tick_of timer.write_control timer.write_reload timer.write_current timer.sound_timer mpu.fresh_mpu mpu.mpu_register_at editions.guard_register_at editions.kept_first editions.kept_second editions.kept_plain mpu.kept_base mpu.kept_attributes mpu.with_base mpu.write_base mpu.with_attributes mpu.write_mpu verdicts.on_private_bus verdicts.default_decides verdicts.agrees verdicts.eighth_on verdicts.region_matches verdicts.may_read verdicts.may_write verdicts.rights_of verdicts.allows verdicts.background verdicts.region_allows verdicts.regions_allow verdicts.system_fetch verdicts.fault_of judged.guard_allows judged.guard_permits judged.guard_verdict guard.region_kept guard.plain_kept guard.sound_mpu frames.window_fits frames.holds_frame frames.padded frames.frame_at frames.stack_fits frames.refusal_of frames.stacked frames.frame_bytes frames.written frames.stacked_window frames.word_at script.access_number model.fresh priorities.execution every.every sound.flag_sound sound.byte_sound sound.count_sound sound.nested_sound sound.unused_sound sound.sound_nest sound.sound_flags sound.sound_system sound.is_sized sound.is_sound events.levelled events.loses_rise events.one_more events.counted events.line_call events.lost_call events.tick_call events.escalates events.noted events.raised events.fault_exception events.fault_status events.fault_at events.svc_at events.faultmask_written events.control_written events.special_written events.special_at nesting.entered nesting.entry_at nesting.link_fits nesting.returned_masks nesting.repended nesting.returned nesting.return_call addresses.block_register addresses.register_at addresses.width_refusal reads.timer_value reads.timer_read reads.bank_value reads.shows_base reads.intctrl_value reads.system_value reads.value_of reads.after_read writes.timer_written writes.clearable writes.bank_written writes.with_byte writes.set_or_clear writes.intctrl_written writes.apint_written writes.system_written writes.word_written writes.byte_written registers.access_refusal registers.lane_of registers.read_call registers.written registers.write_call access.purpose_of access.fits_access access.access_at access.access_by step.guarded step.admitted
all_hold = ((refl, (refl, (refl, (refl, (refl, (refl, (refl, (refl, (refl, (refl, (refl, (refl, (refl, tt))))))))))))), (refl, (refl, (refl, (refl, (refl, (refl, (refl, (refl, (refl, (refl, (refl, (refl, (refl, (refl, (refl, (refl, (refl, (refl, (refl, (refl, (refl, (refl, (refl, (refl, (refl, (refl, (refl, (refl, tt)))))))))))))))))))))))))))), (refl, (refl, (refl, (refl, (refl, (refl, (refl, tt))))))))

-- the starred bench cases of document 01, all of them
pub starred_holds : Holds starred
starred_holds = all_hold.0

pub further_holds : Holds further
further_holds = all_hold.1

-- those of document 02
pub added_holds : Holds added
added_holds = all_hold.2
