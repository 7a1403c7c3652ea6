-- The rules' theorem at the 55-line chip: a reply's equation is the equation of the answer that it renames.
use mathlib.Core.Path.{ap, subst, sym}
use mathlib.Core.List.{List, map}
use Rattle.script.specs.declared.Event.{Event}
use Rattle.rules.specs.Chip.{chip55}
use Rattle.demand3.specs.Demand3.{Calls, Entering}
use Rattle.demand3.specs.Demand3 as claim
use Rattle.demand3.proofs.Demand3.{demand3}
use Rattle.model.specs.declared.State.{State}
use Rattle.model.specs.View.{Reply}
use Rattle.model.specs.View.{model}
use Rattle.model.specs.Demand3.{answer, Called, stop, call, CodeDemand3}

pub called : {s t : State} {es : List Event} {rs : List Reply} → Called s es rs t → Calls chip55 (model s) es (map answer rs) (model t)
called stop = claim.stop
called (call e k) = claim.call (ap answer e) (called k)

pub code_demand3 : CodeDemand3
code_demand3 =
    record {
      calls = λ es rs t k. (demand3 chip55 tt).calls es (map answer rs) (model t) (called k);
      entries = λ s r h e. subst (Entering (model s)) (sym (ap answer e)) ((demand3 chip55 tt).entries (model s) h);
    }
