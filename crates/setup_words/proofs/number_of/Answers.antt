-- The fold over the digits is `number_from`.
use Rattle.std.proofs.Common.{◌≡◌, ◌∙◌, rules}
use Rattle.std.specs.List.{fold}
use Rattle.setup_words.specs.Words.{with_digit}
use Rattle.setup_words.proofs.Laws.{fold_digits}
use Rattle.setup_words.proofs.number_of.Goals as goal

pub returns : goal.returns
returns c =
    let h : c.fold.result ≡ fold with_digit 0 c.args.bytes.now = search rules in
    h ∙ fold_digits 0 _
