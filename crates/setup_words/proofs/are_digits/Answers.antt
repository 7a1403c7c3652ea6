-- A test of every byte is `are_digits`.
use Rattle.std.proofs.Common.{◌∙◌, rules}
use Rattle.std.proofs.lemmas.Iterator.{YieldsList-from_slice}
use Rattle.std.proofs.lemmas.Iterator.Search.{all_from_yields_List}
use Rattle.setup_words.specs.Words.{is_digit}
use Rattle.setup_words.proofs.Laws.{all_digits}
use Rattle.setup_words.proofs.are_digits.Goals as goal

pub returns : goal.returns
returns c =
    all_from_yields_List is_digit _ _ _ c.all.ensures.ran (YieldsList-from_slice c.args.bytes.now cc) (λ x b q k. search rules)
    ∙ all_digits _
