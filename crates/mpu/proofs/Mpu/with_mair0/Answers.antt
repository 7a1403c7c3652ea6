-- By what is stored; a word keeps all its bits.
use mathlib.Core.Path.{sym}
use Rattle.mpu.specs.Pmsav8.{with_mair0}
use Rattle.mpu.specs.Laws.{word_kept}
use borrow.Author.Rules.{rules}
use Rattle.mpu.proofs.Mpu.with_mair0.Goals as goal

pub returns : goal.returns
unfolding with_mair0
returns c = simp (sym (word_kept c.args.x (search rules)))
