-- Each bank shows its flags.
use mathlib.Core.Path.{◌∙◌}
use Rattle.rules.specs.Reads.{bank_value}
use Rattle.reads.proofs.bank_value.Goals as goal

pub returns-in-EnableSet : goal.returns-in-EnableSet
unfolding bank_value
returns-in-EnableSet c = c.flags_word.ensures ∙ simp c.in-EnableSet.is

pub returns-in-EnableClear : goal.returns-in-EnableClear
unfolding bank_value
returns-in-EnableClear c = c.flags_word-in-EnableClear.ensures ∙ simp c.in-EnableClear.is

pub returns-in-PendingSet : goal.returns-in-PendingSet
unfolding bank_value
returns-in-PendingSet c = c.flags_word-in-PendingSet.ensures ∙ simp c.in-PendingSet.is

pub returns-in-PendingClear : goal.returns-in-PendingClear
unfolding bank_value
returns-in-PendingClear c = c.flags_word-in-PendingClear.ensures ∙ simp c.in-PendingClear.is

pub returns-in-Active : goal.returns-in-Active
unfolding bank_value
returns-in-Active c = c.flags_word-in-Active.ensures ∙ simp c.in-Active.is
