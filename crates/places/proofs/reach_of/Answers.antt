-- The three scans, from the chip's numbers on.
use Rattle.std.proofs.Common.{◌∙◌, cond, rules}
use Rattle.places.specs.Places.{nonzero, occupied, reach}
use Rattle.places.proofs.reach_of.Goals as goal

pub returns : goal.returns
unfolding reach
returns c =
    let holds = occupied c.args.arrays.pending.now c.args.arrays.active.now c.args.arrays.enabled.now c.args.arrays.level.now c.args.arrays.priority.now in
    let places = c.all_or.ensures ∙ (λ i. cond (c.some_past-places.ensures holds (λ i b k p. search rules) i) 256 c.flag_count-flags.result) ∙ (λ i. reach holds (c.flag_count-flags.ensures i) 256) in
    let nest = c.all_or-2.ensures ∙ (λ i. cond (c.some_past-nested.ensures (nonzero c.args.arrays.nest.now) (λ i b k p. search rules) i) 248 c.exception_count-count.result) ∙ (λ i. reach (nonzero c.args.arrays.nest.now) (c.exception_count-count.ensures i) 248) in
    let lost = c.all_or-3.ensures ∙ (λ i. cond (c.some_past-counted.ensures (nonzero c.args.arrays.lost.now) (λ i b k p. search rules) i) 240 c.args.chip.lines) in
    λ i. record { places = places i; nest = nest i; lost = lost i }
