-- A setup's chip has no more places than the arrays, whatever the core beside them.
use mathlib.Core.Path.{◌∙◌, ap}
use Rattle.rules.specs.declared.Chip.{Chip}
use Rattle.rules.specs.Chip.{chip_of}
use Rattle.rules.specs.Model.{fresh_core}
use Rattle.places.specs.Places.{reach_of}
use Rattle.any_chip.specs.declared.State.{State}
use Rattle.any_chip.proofs.View.{reached_in, within}
use Rattle.any_chip.proofs.reach_on.Goals as goal

pub returns-clause-value : goal.returns-clause-value
returns-clause-value c =
    c.reach_of.ensures ∙ ap (λ (k : Chip). reach_of k c.args.arrays.pending.now c.args.arrays.active.now c.args.arrays.enabled.now c.args.arrays.level.now c.args.arrays.priority.now c.args.arrays.nest.now c.args.arrays.lost.now) c.chip.ensures

pub returns-clause-within : goal.returns-clause-within
returns-clause-within c =
    let s : State = record { setup = c.args.setup; pending = c.args.arrays.pending.now; active = c.args.arrays.active.now; enabled = c.args.arrays.enabled.now; level = c.args.arrays.level.now; priority = c.args.arrays.priority.now; nest = c.args.arrays.nest.now; lost = c.args.arrays.lost.now; core = fresh_core (chip_of c.args.setup) } in
    within s _ (c.reach_of.ensures ∙ reached_in s c.chip.ensures)
