-- By cases.
use mathlib.Core.Path.{◌∙◌}
use Rattle.rules.specs.Map.{width_refusal}
use Rattle.map.proofs.width_refusal.Goals as goal

pub returns-in-Missing : goal.returns-in-Missing
unfolding width_refusal
returns-in-Missing c = simp c.in-Missing.is

pub returns-in-Timer : goal.returns-in-Timer
unfolding width_refusal
returns-in-Timer c = c.word_only.ensures ∙ simp c.in-Timer.is

pub returns-in-Flags : goal.returns-in-Flags
unfolding width_refusal
returns-in-Flags c = c.word_only-in-Flags.ensures ∙ simp c.in-Flags.is

pub returns-in-Priority : goal.returns-in-Priority
unfolding width_refusal
returns-in-Priority c = c.bytes_too.ensures ∙ simp c.in-Priority.is

pub returns-in-System : goal.returns-in-System
unfolding width_refusal
returns-in-System c = c.word_only-in-System.ensures ∙ simp c.in-System.is

pub returns-in-Guard : goal.returns-in-Guard
unfolding width_refusal
returns-in-Guard c = c.word_only-in-Guard.ensures ∙ simp c.in-Guard.is

pub returns-in-Constant : goal.returns-in-Constant
unfolding width_refusal
returns-in-Constant c = c.word_only-in-Constant.ensures ∙ simp c.in-Constant.is
