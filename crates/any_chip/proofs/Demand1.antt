-- The rules' theorem at the setup's chip: a state is its setup and its model, so an unchanged model is an unchanged state.
use mathlib.Core.Path.{◌≡◌, ap, sym, subst, ◌∙◌}
use mathlib.Core.Logic.{◌⊎◌, inl, inr, ◌↔◌}
use mathlib.Core.Bool.{true, false}
use Rattle.script.specs.declared.Event.{Event}
use Rattle.rules.specs.Chip.{chip_of, fits}
use Rattle.rules.specs.Model.{Answer}
use Rattle.rules.specs.Sound.{is_sound}
use Rattle.demand1.specs.Demand1 as rules
use Rattle.demand1.proofs.Demand1.{demand1}
use Rattle.any_chip.specs.declared.State.{State}
use Rattle.any_chip.specs.View.{Reply}
use Rattle.any_chip.specs.View.{model, state, reply}
use Rattle.any_chip.specs.ViewLaws.{Sized}
use Rattle.any_chip.specs.Demand1.{Refused, CodeDemand1}
use Rattle.any_chip.proofs.View.{view_laws}

replied : (e : Event) (s : State) → Sized s → {a : Answer} → (a.refusal ≡ 0) ⊎ rules.Refused (chip_of s.setup) e (model s) a → ((reply s.setup a).refusal ≡ 0) ⊎ Refused e s (reply s.setup a)
replied e s z (inl q) = inl q
replied e s z (inr r) =
    inr (record {
      number = r.number;
      value = ap (λ (a : Answer). a.value) r.nothing;
      vector = ap (λ (a : Answer). a.vector) r.nothing;
      link = ap (λ (a : Answer). a.link) r.nothing;
      state = ap (λ (a : Answer). state s.setup a.next) r.nothing ∙ view_laws.back s z;
    })

pub code_demand1 : CodeDemand1
code_demand1 =
    record {
      events = λ s z e r q. subst (λ (x : Reply). (x.refusal ≡ 0) ⊎ Refused e s x) (sym q) (replied e s z ((demand1 (chip_of s.setup)).events (model s) e));
      misfit = λ s e r q. subst (λ (x : Reply). (x.refusal ≡ 17) ↔ (fits (chip_of s.setup) ≡ false)) (sym q) ((demand1 (chip_of s.setup)).misfit (model s) e);
      unsound = λ s e r q. subst (λ (x : Reply). (x.refusal ≡ 16) ↔ ((fits (chip_of s.setup) ≡ true) × (is_sound (chip_of s.setup) (model s) ≡ false))) (sym q) ((demand1 (chip_of s.setup)).unsound (model s) e);
    }
