-- Named or not, by the definition's own test.
use Rattle.flag_words.specs.Flags.{put_flag}
use Rattle.flag_words.proofs.put_flag.Goals as goal

pub returns-then-named : goal.returns-then-named
unfolding put_flag
returns-then-named c = simp c.if-named.true

pub returns-else-named : goal.returns-else-named
unfolding put_flag
returns-else-named c = simp c.if-named.false
