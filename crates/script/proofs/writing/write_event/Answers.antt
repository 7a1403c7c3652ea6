-- The event ends past the slice or 65,536 exactly where a test says so; else its numbers are stored.
use mathlib.Core.Path.{ap, ◌∙◌}
use native.Mathlib.Omega.{arith}
use lib.ListN.{length}
use Rattle.script.specs.Answers.{written_answer}
use Rattle.script.proofs.Spelling.{event_small, too_long, room, same_bytes}
use Rattle.script.proofs.writing.write_event.Goals as goal

pub returns-then-at-gt65536-clause-answer : goal.returns-then-at-gt65536-clause-answer
returns-then-at-gt65536-clause-answer c = (too_long _ _ _ (omega arith)).0

pub returns-then-at-gt65536-clause-bytes : goal.returns-then-at-gt65536-clause-bytes
returns-then-at-gt65536-clause-bytes c = (too_long _ _ _ (omega arith)).1

pub returns-then-at-gt65536-clause-numbers : goal.returns-then-at-gt65536-clause-numbers
returns-then-at-gt65536-clause-numbers c = ap written_answer (returns-then-at-gt65536-clause-answer c)

pub overflow_add-end : goal.overflow_add-end
overflow_add-end c = omega (arith, event_small c.numbers_of-n.result)

pub returns-then-end-gt65536-clause-answer : goal.returns-then-end-gt65536-clause-answer
returns-then-end-gt65536-clause-answer c = (too_long _ _ _ (omega (arith, ap length (same_bytes _ _ c.numbers_of-n.ensures)))).0

pub returns-then-end-gt65536-clause-bytes : goal.returns-then-end-gt65536-clause-bytes
returns-then-end-gt65536-clause-bytes c = (too_long _ _ _ (omega (arith, ap length (same_bytes _ _ c.numbers_of-n.ensures)))).1

pub returns-then-end-gt65536-clause-numbers : goal.returns-then-end-gt65536-clause-numbers
returns-then-end-gt65536-clause-numbers c = ap written_answer (returns-then-end-gt65536-clause-answer c)

pub returns-then-out-end-clause-answer : goal.returns-then-out-end-clause-answer
returns-then-out-end-clause-answer c = (too_long _ _ _ (omega (arith, ap length (same_bytes _ _ c.numbers_of-n.ensures)))).0

pub returns-then-out-end-clause-bytes : goal.returns-then-out-end-clause-bytes
returns-then-out-end-clause-bytes c = (too_long _ _ _ (omega (arith, ap length (same_bytes _ _ c.numbers_of-n.ensures)))).1

pub returns-then-out-end-clause-numbers : goal.returns-then-out-end-clause-numbers
returns-then-out-end-clause-numbers c = ap written_answer (returns-then-out-end-clause-answer c)

pub returns-clause-answer : goal.returns-clause-answer
returns-clause-answer c = let b = same_bytes _ _ c.numbers_of-n.ensures in
    let s = ap length b in
    let r = room c.args.out.now c.args.at c.args.e (omega arith) in simp (c.event_size.ensures, b) r.0

pub returns-clause-bytes : goal.returns-clause-bytes
returns-clause-bytes c = let b = same_bytes _ _ c.numbers_of-n.ensures in
    let s = ap length b in
    let r = room c.args.out.now c.args.at c.args.e (omega arith) in c.put_all.ensures ∙ simp b r.1

pub returns-clause-numbers : goal.returns-clause-numbers
returns-clause-numbers c = ap written_answer (returns-clause-answer c)
