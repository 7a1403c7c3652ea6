-- The tables hold by computation: each row's calls run to what is expected of it.
use mathlib.Core.Path.{refl}
use Rattle.bools.specs.Every as every
use Rattle.bits.specs.Words as bits
use Rattle.flag_words.specs.Flags as flags
use Rattle.priority.specs.Priority as priority
use Rattle.systick.specs.Timer as timer
use Rattle.mpu.specs.Registers as mpu
use Rattle.mpu.specs.Editions as editions
use Rattle.mpu.specs.Soundness as guard
use Rattle.mpu.specs.Unused as unused
use Rattle.mpu.specs.Pmsav8 as v8
use Rattle.verdicts.specs.Verdict as verdicts
use Rattle.editions.specs.Editions as judged
use Rattle.editions.specs.Pmsav8 as cover
use Rattle.script.specs.Event as script
use Rattle.rules.specs.Table.{Holds}
use Rattle.rules.specs.Model as model
use Rattle.rules.specs.Priorities as priorities
use Rattle.rules.specs.Sound as sound
use Rattle.rules.specs.Events as rules
use Rattle.rules.specs.Nesting as nesting
use Rattle.rules.specs.MapArmv6m as small
use Rattle.rules.specs.Map as addresses
use Rattle.rules.specs.Reads as reads
use Rattle.rules.specs.Writes as writes
use Rattle.rules.specs.Registers as calls
use Rattle.rules.specs.Access as access
use Rattle.rules.specs.Step as step
use Rattle.cortex_m0.specs.Cases.{registers, events, lacking}

pub cases_hold : Holds registers × Holds events × Holds lacking
unfolding registers events lacking bits.with_bit bits.without flags.word_of flags.put_flag flags.put_flags flags.some_flag priority.least_active priority.execution_priority priority.best priority.best_pending timer.tick_of timer.write_control timer.write_reload timer.write_current timer.sound_timer mpu.fresh_mpu mpu.mpu_register_at editions.guard_register_at editions.kept_first editions.kept_second editions.kept_plain mpu.kept_base mpu.kept_attributes mpu.with_base mpu.write_base mpu.with_attributes mpu.write_mpu verdicts.on_private_bus verdicts.default_decides verdicts.agrees verdicts.eighth_on verdicts.region_matches verdicts.may_read verdicts.may_write verdicts.rights_of verdicts.allows verdicts.background verdicts.region_allows verdicts.regions_allow verdicts.system_fetch verdicts.fault_of judged.guard_allows judged.guard_permits judged.guard_verdict guard.region_kept guard.plain_kept guard.sound_mpu script.access_number model.fresh priorities.execution every.every sound.flag_sound sound.byte_sound sound.count_sound sound.nested_sound sound.unused_sound sound.sound_nest sound.sound_flags sound.sound_system sound.is_sized sound.is_sound rules.levelled rules.loses_rise rules.one_more rules.counted rules.line_call rules.lost_call rules.tick_call rules.escalates rules.noted rules.raised rules.fault_exception rules.fault_status rules.fault_at rules.svc_at rules.faultmask_written rules.control_written rules.special_written rules.special_at nesting.entered nesting.entry_at nesting.link_fits nesting.returned_masks nesting.repended nesting.returned nesting.return_call addresses.block_register addresses.register_at addresses.width_refusal reads.timer_value reads.timer_read reads.bank_value reads.shows_base reads.intctrl_value reads.system_value reads.value_of reads.after_read writes.timer_written writes.clearable writes.bank_written writes.with_byte writes.set_or_clear writes.intctrl_written writes.apint_written writes.system_written writes.word_written writes.byte_written calls.access_refusal calls.lane_of calls.read_call calls.written calls.write_call access.purpose_of access.fits_access access.access_at access.access_by step.guarded step.admitted mpu.read_mpu mpu.write_number verdicts.default_allows v8.pmsav8_register_at v8.region_of v8.kept_word v8.kept_rlar v8.read_rbar v8.read_rlar v8.with_rbar v8.with_rlar v8.with_mair0 v8.with_mair1 cover.covers cover.rights_in cover.cover_allows cover.counted cover.tally cover.cover_of cover.decided cover.covers_allow reads.bytes_value writes.with_bytes writes.stored_written writes.swtrig_written small.armv6m_block small.armv6m_register unused.zero_at unused.is_unused sound.bare_masks sound.bare_system sound.is_bare
cases_hold = (
  (refl, (refl, (refl, (refl, (refl, (refl, (refl, (refl, (refl, (refl, (refl, (refl, (refl, (refl, (refl, (refl, (refl, (refl, (refl, (refl, (refl, (refl, (refl, (refl, (refl, (refl, (refl, (refl, (refl, (refl, (refl, (refl, (refl, (refl, tt)))))))))))))))))))))))))))))))))),
  (refl, (refl, (refl, (refl, (refl, (refl, (refl, (refl, (refl, (refl, (refl, (refl, (refl, (refl, (refl, (refl, (refl, (refl, (refl, (refl, (refl, (refl, (refl, (refl, (refl, (refl, (refl, (refl, (refl, (refl, (refl, (refl, (refl, tt))))))))))))))))))))))))))))))))),
  (refl, (refl, (refl, (refl, (refl, (refl, (refl, (refl, (refl, (refl, (refl, (refl, (refl, (refl, (refl, (refl, (refl, (refl, (refl, (refl, (refl, (refl, tt)))))))))))))))))))))),
)
