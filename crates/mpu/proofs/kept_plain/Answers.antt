-- By the edition; a word keeps all its bits.
use mathlib.Core.Path.{◌∙◌}
use Rattle.mpu.specs.Editions.{kept_plain}
use Rattle.mpu.specs.Laws.{word_kept}
use borrow.Author.Rules.{rules}
use Rattle.mpu.proofs.kept_plain.Goals as goal

pub returns-in-Pmsav7 : goal.returns-in-Pmsav7
unfolding kept_plain
returns-in-Pmsav7 c = simp c.in-Pmsav7.is

pub returns-in-Pmsav8 : goal.returns-in-Pmsav8
unfolding kept_plain
returns-in-Pmsav8 c = word_kept c.args.x (search rules) ∙ simp c.in-Pmsav8.is
