-- By the edition; a word keeps all its bits.
use mathlib.Core.Path.{◌∙◌}
use Rattle.mpu.specs.Editions.{kept_first}
use Rattle.mpu.specs.Laws.{word_kept}
use borrow.Author.Rules.{rules}
use Rattle.mpu.proofs.kept_first.Goals as goal

pub returns-in-Pmsav7 : goal.returns-in-Pmsav7
unfolding kept_first
returns-in-Pmsav7 c = c.kept_base.ensures ∙ simp c.in-Pmsav7.is

pub returns-in-Pmsav8 : goal.returns-in-Pmsav8
unfolding kept_first
returns-in-Pmsav8 c = word_kept c.args.x (search rules) ∙ simp c.in-Pmsav8.is
