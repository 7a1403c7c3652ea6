-- The rules' theorem at the setup's chip: what a call hands back is the state of its model, and the rules' answer, on any state.
use Prim.Native.Nat.{ℕ, ◌+◌}
use mathlib.Core.Path.{◌≡◌, refl, sym, ap, subst, ◌∙◌}
use mathlib.Core.List.{List, map}
use Rattle.bits.specs.Words.{bit}
use Rattle.script.specs.declared.Event.{Event}
use Rattle.script.specs.declared.Event.TheVariants.{Skip}
use Rattle.rules.specs.declared.Setup.{Setup}
use Rattle.rules.specs.Chip.{chip_of}
use Rattle.rules.specs.Model.{Model, Answer}
use Rattle.rules.specs.Step.{step_of}
use Rattle.demand3.specs.Demand3.{Calls}
use Rattle.demand3.specs.Demand3 as claim
use Rattle.demand3.proofs.Check.{Way, through, refused, way}
use Rattle.demand3.proofs.Steps.{step_keeps}
use Rattle.idle_time.specs.IdleTime.{ticks, some_one}
use Rattle.idle_time.proofs.IdleTime.{idle_time}
use Rattle.any_chip.specs.declared.State.{State}
use Rattle.any_chip.specs.View.{Reply}
use Rattle.any_chip.specs.View.{model, state, reply}
use Rattle.any_chip.specs.ViewLaws.{Sized}
use Rattle.any_chip.specs.Demand3.{answer, Called, stop, call}
use Rattle.any_chip.specs.IdleTime.{Skipped, CodeIdleTime}
use Rattle.any_chip.proofs.View.{view_laws}

-- a state that is its setup and its model
abbrev Back : State → Type 0
Back s = state s.setup (model s) ≡ s

-- what an event leaves of its model is the model of what the call leaves: sound, or as it was
next_viewed : (s : State) → Back s → (e : Event) → model (state s.setup (step_of (chip_of s.setup) (model s) e).next) ≡ (step_of (chip_of s.setup) (model s) e).next
next_viewed s b e = go (way (chip_of s.setup) (model s))
  where
    Viewed : Answer → Type 0
    Viewed a = model (state s.setup a.next) ≡ a.next

    go : Way (chip_of s.setup) (model s) → Viewed (step_of (chip_of s.setup) (model s) e)
    go (through f h) = view_laws.viewed s.setup (step_of (chip_of s.setup) (model s) e).next (step_keeps h e)
    go (refused k q) = subst Viewed (sym (q e)) (ap model b)

-- the calls as the rules', and the last state
called_any : {s t : State} {es : List Event} {rs : List Reply} (setup : Setup) → s.setup ≡ setup → Back s → Called s es rs t → Calls (chip_of setup) (model s) es (map answer rs) (model t) × (state setup (model t) ≡ t)
called_any {s = s} setup p b stop = (claim.stop, ap (λ (u : Setup). state u (model s)) (sym p) ∙ b)
called_any {s = s} setup p b (call {e = e} {r = r} k more) =
    let x = step_of (chip_of setup) (model s) e in
    let replied : r ≡ reply setup x = k ∙ ap (λ (u : Setup). reply u (step_of (chip_of u) (model s) e)) p in
    let v : model (state setup x.next) ≡ x.next =
    subst (λ (u : Setup). model (state u (step_of (chip_of u) (model s) e).next) ≡ (step_of (chip_of u) (model s) e).next) p (next_viewed s b e) in
    let a : answer r ≡ x =
    ap answer replied ∙ ap (λ (m : Model). record { refusal = x.refusal; value = x.value; vector = x.vector; link = x.link; next = m }) v in
    let rest = called_any setup (ap (λ (y : Reply). y.state.setup) replied) (subst (λ (y : Reply). Back y.state) (sym replied) (ap (state setup) v)) more in
    (claim.call a rest.0, rest.1)

ticked : (s t : State) → Sized s → (n : ℕ) (rs : List Reply) → Called s (ticks n) rs t → (r : Reply) → Skipped s n r → (r.value ≡ bit (some_one (map answer rs))) × (r.state ≡ t)
ticked s t z n rs k r q =
    let c = called_any s.setup refl (view_laws.back s z) k in
    let e = (idle_time (chip_of s.setup)).calls (model s) (model t) n (map answer rs) c.0 in
    (ap (λ (x : Reply). x.value) q ∙ e.0, ap (λ (x : Reply). x.state) q ∙ ap (state s.setup) e.1 ∙ c.1)

none : (s : State) → Sized s → (r : Reply) → Skipped s 0 r → (r.value ≡ 0) × (r.state ≡ s)
none s z r q =
    let e = (idle_time (chip_of s.setup)).none (model s) in
    (ap (λ (x : Reply). x.value) q ∙ e.value, ap (λ (x : Reply). x.state) q ∙ ap (state s.setup) e.next ∙ view_laws.back s z)

sums : (s : State) → Sized s → (a b : ℕ) (p q r : Reply) → Skipped s a p → Skipped p.state b q → Skipped s (a + b) r → q.state ≡ r.state
sums s z a b p q r first second whole =
    let c = chip_of s.setup in
    let x = (step_of c (model s) (Skip a)).next in
    ap (λ (y : Reply). y.state) second
    ∙ ap (λ (y : Reply). state y.state.setup (step_of (chip_of y.state.setup) (model y.state) (Skip b)).next) first
    ∙ ap (λ (m : Model). state s.setup (step_of c m (Skip b)).next) (next_viewed s (view_laws.back s z) (Skip a))
    ∙ ap (state s.setup) ((idle_time c).sums (model s) a b)
    ∙ sym (ap (λ (y : Reply). y.state) whole)

pub code_idle_time : CodeIdleTime
code_idle_time = record { ticked = ticked; none = none; sums = sums }
