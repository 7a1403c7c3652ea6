-- Block by block, and the last block by itself: together they are the places past n.
use Rattle.std.proofs.Common.{ℕ, ◌+◌, ◌-◌, ◌≤◌, ◌≡◌, ap, ◌∙◌, ◌||◌, arith}
use Rattle.places.specs.Places.{some_past}
use Rattle.places.proofs.Laws.{in_size, has_block, begun, further, covered}
use Rattle.places.proofs.some_past.Goals as goal
use Rattle.places.proofs.some_past.Goals.{else-loop-from-test, then-loop-from-test+else-last-from-gt64}

pub returns-then-n-size : goal.returns-then-n-size
returns-then-n-size g c = λ holds h. begun holds c.args.n ∙ ap (λ (k : ℕ). some_past holds c.args.n (k - c.args.n)) c.if-n-size.true

pub loop-from-init : goal.loop-from-init
loop-from-init g c = (omega arith, in_size c.requires.blocks, λ holds h. begun holds c.args.n)

pub loop-from-preserved : goal.loop-from-preserved
loop-from-preserved g c =
    let fits : c.args.n + 64 ≤ c.args.size = has_block c.requires.blocks c.if-n-size.false in (
      omega arith,
      omega arith,
      λ holds h. (λ z. c.some_in_block-found.ensures holds (λ i b k. h i b (omega arith)) z || c.loop-from.found) ∙ further holds c.args.n c.loop-from.from c.loop-from.found c.loop-from.invariant.0 (c.loop-from.invariant.2 holds h),
    )

-- The loop ends at i or, where fewer than 64 places are left, in the block before i.
pub returns : goal.returns
returns g c =
    let fits : c.args.n + 64 ≤ c.args.size = has_block c.requires.blocks c.if-n-size.false in
    let last : ℕ = c.args.size - 64 in
    λ holds h.
    let block : c.some_in_block.result ≡ some_past holds last 64 = c.some_in_block.ensures holds (λ i b k. h i b (omega arith)) in
    let found : c.loop-from.found ≡ some_past holds c.args.n (c.loop-from.from - c.args.n) = c.loop-from.invariant.2 holds h in
    elim c.loop-from-test.branch [
      | else-loop-from-test w ↦
          (λ z. block z || (w.found-is ∙ found) z) ∙ covered holds c.args.n c.loop-from.from c.args.size fits (omega arith) (omega arith)
      | then-loop-from-test+else-last-from-gt64 w ↦
          (λ z. block z || (w.found-is ∙ (λ j. w.some_in_block-found.ensures holds (λ i b k. h i b (omega arith)) j || c.loop-from.found) ∙ further holds c.args.n c.loop-from.from c.loop-from.found c.loop-from.auto.from found) z)
          ∙ covered holds c.args.n (c.loop-from.from + 64) c.args.size fits (omega arith) (omega arith)
    ]
