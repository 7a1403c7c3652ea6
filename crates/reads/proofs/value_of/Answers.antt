-- One clause a kind of register.
use mathlib.Core.Path.{◌∙◌}
use Rattle.rules.specs.Reads.{value_of}
use Rattle.reads.proofs.value_of.Goals as goal

pub returns-in-Missing : goal.returns-in-Missing
unfolding value_of
returns-in-Missing c = simp c.in-Missing.is

pub returns-in-Timer : goal.returns-in-Timer
unfolding value_of
returns-in-Timer c = c.timer_value.ensures ∙ simp c.in-Timer.is

pub returns-in-Flags : goal.returns-in-Flags
unfolding value_of
returns-in-Flags c = c.bank_value.ensures ∙ simp c.in-Flags.is

pub returns-in-Priority : goal.returns-in-Priority
unfolding value_of
returns-in-Priority c = c.bytes_value.ensures ∙ simp c.in-Priority.is

pub returns-in-System : goal.returns-in-System
unfolding value_of
returns-in-System c = c.system_value.ensures ∙ simp c.in-System.is

pub returns-in-Guard : goal.returns-in-Guard
unfolding value_of
returns-in-Guard c = c.read.ensures ∙ simp c.in-Guard.is

pub returns-in-Constant : goal.returns-in-Constant
unfolding value_of
returns-in-Constant c = simp c.in-Constant.is
