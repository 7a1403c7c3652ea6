-- The rules' theorem at the 55-line chip: a reply has the fields of the answer that it renames.
use mathlib.Core.Path.{◌≡◌, refl, ap, sym, subst, ◌∙◌}
use mathlib.Core.Logic.{◌⊎◌, inl, inr, ◌↔◌}
use mathlib.Core.Bool.{false}
use Rattle.bools.specs.Tests.{is_false}
use Rattle.script.specs.declared.Event.{Event}
use Rattle.rules.specs.Chip.{chip55}
use Rattle.rules.specs.Model.{Answer}
use Rattle.rules.specs.Sound.{is_sound}
use Rattle.demand1.specs.Demand1 as rules
use Rattle.demand1.proofs.Demand1.{demand1}
use Rattle.model.specs.declared.State.{State}
use Rattle.model.specs.View.{Reply}
use Rattle.model.specs.View.{model, state, reply}
use Rattle.model.specs.Demand1.{Refused, CodeDemand1}

replied : (e : Event) (s : State) {a : Answer} → (a.refusal ≡ 0) ⊎ rules.Refused chip55 e (model s) a → ((reply a).refusal ≡ 0) ⊎ Refused e s (reply a)
replied e s (inl z) = inl z
replied e s (inr r) =
    inr (record {
      number = r.number;
      value = ap (λ (a : Answer). a.value) r.nothing;
      vector = ap (λ (a : Answer). a.vector) r.nothing;
      link = ap (λ (a : Answer). a.link) r.nothing;
      state = ap (λ (a : Answer). state a.next) r.nothing;
    })

pub code_demand1 : CodeDemand1
code_demand1 =
    record {
      events = λ s e r q. subst (λ (x : Reply). (x.refusal ≡ 0) ⊎ Refused e s x) (sym q) (replied e s ((demand1 chip55).events (model s) e));
      fitting = λ s e r q w. is_false (((demand1 chip55).misfit (model s) e).0 (ap (λ (x : Reply). x.refusal) (sym q) ∙ w)) tt;
      unsound = λ s e r q.
          let u = (demand1 chip55).unsound (model s) e in
          subst (λ (x : Reply). (x.refusal ≡ 16) ↔ (is_sound chip55 (model s) ≡ false)) (sym q) (λ w. (u.0 w).1, λ w. u.1 (refl, w));
    }
