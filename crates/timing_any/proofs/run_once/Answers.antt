-- An event that is read ends past its start, so less of the script is left after it.
use Rattle.std.proofs.Common.{◌-◌, sym, ◌∙◌, arith}
use Rattle.script.specs.EventLaws.{EventRead, event_read}
use Rattle.timing_any.proofs.run_once.Goals as goal

pub loop-at-smaller : goal.loop-at-smaller
loop-at-smaller c =
    let e : EventRead c.args.script.now c.loop-at.at c.in-Ok.event c.in-Ok.next =
    event_read _ _ _ _ (λ i. omega (arith, c.type_inv.script i)) (sym c.read_event.ensures.value ∙ c.in-Ok.is) in
    omega (arith, e.forward)
