-- By what is stored; a word keeps all its bits.
use mathlib.Core.Path.{sym}
use Rattle.mpu.specs.Pmsav8.{with_rbar}
use Rattle.mpu.specs.Laws.{word_kept}
use borrow.Author.Rules.{rules}
use Rattle.mpu.proofs.Mpu.with_rbar.Goals as goal

pub returns : goal.returns
unfolding with_rbar
returns c = simp (c.with_word-self.ensures, c.region_of.ensures, sym (word_kept c.args.x (search rules)))
