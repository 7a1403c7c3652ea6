-- A number has a digit or more.
use Rattle.std.proofs.Common.{◌≡◌, sym, ◌∙◌, length, rules}
use borrow.Author.Tests.{tests}
use Rattle.setup_words.proofs.Laws.{number_none, number_some}
use Rattle.setup_words.proofs.is_number.Goals as goal

pub returns-then-not-is_empty : goal.returns-then-not-is_empty
returns-then-not-is_empty c =
    let h : length c.args.bytes.now ≡ 0 → ⊥ = search (rules, tests) in
    c.are_digits.ensures ∙ sym (number_some _ h)

pub returns-else-not-is_empty : goal.returns-else-not-is_empty
returns-else-not-is_empty c =
    let h : length c.args.bytes.now ≡ 0 = search (rules, tests) in
    rw (c.if-not-is_empty.false, number_none _ h)
