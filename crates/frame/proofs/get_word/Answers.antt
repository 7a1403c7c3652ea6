-- Four bytes, lowest first.
use Rattle.frame.specs.Frame.{word_at}
use Rattle.frame.proofs.get_word.Goals as goal

pub returns : goal.returns
unfolding word_at
returns c = c.word_of_bytes.ensures
