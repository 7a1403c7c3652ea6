-- The chip's places of each array are lent and taken back.
use mathlib.Core.Path.{refl}
use Rattle.any_chip.specs.ViewLaws.{Sized}
use Rattle.any_run.proofs.Laws.{run_back}
use borrow.Author.Rules.{rules}
use Rattle.any_run.proofs.run_some.Goals as goal

pub returns : goal.returns
returns c =
    let z : Sized c.args.progress.state = record { pending = search rules; active = search rules; enabled = search rules; level = search rules; priority = search rules; nest = search rules; lost = search rules } in
    run_back _ c.args.progress _ _ z c.chip.result c.chip.ensures c.reach-reach.result c.reach-reach.ensures.value _ c.run_on-r.result refl c.run_on-r.ensures
