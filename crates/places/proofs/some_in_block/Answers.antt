-- The block: after k of its places `found` says whether something stands at one of them.
use Rattle.std.proofs.Common.{refl, sym, ap, ◌∙◌, ◌+◌, ◌||◌, arith, add-one}
use Rattle.places.specs.Places.{some_past}
use Rattle.places.proofs.some_in_block.Goals as goal

pub loop-k-init : goal.loop-k-init
unfolding some_past
loop-k-init g c = λ holds h. refl

pub loop-k-preserved : goal.loop-k-preserved
unfolding some_past
loop-k-preserved g c =
    λ holds h. (λ z. h (c.args.from + c.loop-k.k) c.stands-found.result (omega arith) c.stands-found.ensures z || c.loop-k.invariant holds h z) ∙ ap (some_past holds c.args.from) (sym (add-one c.loop-k.k))
