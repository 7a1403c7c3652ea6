-- The rules' theorem at the 55-line chip.
use mathlib.Core.Path.{ap, ◌∙◌}
use mathlib.Core.List.{map}
use Rattle.rules.specs.Chip.{chip55}
use Rattle.lost_pulses.proofs.LostPulses.{lost_pulses, calls_answered}
use Rattle.model.specs.View.{model, reply}
use Rattle.model.specs.Demand3.{answer}
use Rattle.model.specs.LostPulses.{CodeLostPulses}
use Rattle.model.proofs.Demand3.{called}

pub code_lost_pulses : CodeLostPulses
code_lost_pulses =
    record {
      stored = λ es rs t k line l. (lost_pulses chip55).calls es (map answer rs) (model t) (called k) line l;
      answered = λ es rs t k line l r q. q ∙ ap reply (calls_answered chip55 tt (called k) line l);
      refused = λ s h line l r q. q ∙ ap reply ((lost_pulses chip55).refused tt (model s) h line l);
    }
