-- The rules' theorem at the 55-line chip.
use Prim.Native.Nat.{ℕ, ◌+◌}
use mathlib.Core.Path.{◌≡◌, sym, ap, ◌∙◌}
use mathlib.Core.List.{map}
use Rattle.script.specs.declared.Event.TheVariants.{Skip}
use Rattle.rules.specs.Chip.{chip55}
use Rattle.rules.specs.Step.{step_of}
use Rattle.idle_time.proofs.IdleTime.{idle_time}
use Rattle.model.specs.declared.State.{State}
use Rattle.model.specs.View.{Reply}
use Rattle.model.specs.View.{model, state}
use Rattle.model.specs.Demand3.{answer}
use Rattle.model.specs.IdleTime.{Skipped, CodeIdleTime}
use Rattle.model.proofs.Demand3.{called}

sums : (s : State) (a b : ℕ) (p q r : Reply) → Skipped s a p → Skipped p.state b q → Skipped s (a + b) r → q.state ≡ r.state
sums s a b p q r first second whole =
    ap (λ (x : Reply). x.state) second
    ∙ ap (λ (x : Reply). state (step_of chip55 (model x.state) (Skip b)).next) first
    ∙ ap state ((idle_time chip55).sums (model s) a b)
    ∙ sym (ap (λ (x : Reply). x.state) whole)

pub code_idle_time : CodeIdleTime
code_idle_time =
    record {
      ticked = λ s t n rs k r q.
          let e = (idle_time chip55).calls (model s) (model t) n (map answer rs) (called k) in
          (ap (λ (x : Reply). x.value) q ∙ e.0, ap (λ (x : Reply). x.state) q ∙ ap state e.1);
      none = λ s r q.
          let e = (idle_time chip55).none (model s) in
          (ap (λ (x : Reply). x.value) q ∙ e.value, ap (λ (x : Reply). x.state) q ∙ ap state e.next);
      sums = sums;
    }
