-- The rules' theorem at the setup's chip. A sound model is the view of its state, so a reply's equation is the answer's.
use mathlib.Core.Path.{◌≡◌, refl, sym, ap, ◌∙◌, subst}
use mathlib.Core.List.{List, map}
use lib.Dec.{T}
use Rattle.script.specs.declared.Event.{Event}
use Rattle.script.specs.declared.Event.TheVariants.{Entry}
use Rattle.rules.specs.declared.Setup.{Setup}
use Rattle.rules.specs.Chip.{chip_of, fits}
use Rattle.rules.specs.Model.{Model, Answer, fresh}
use Rattle.rules.specs.Sound.{Sound}
use Rattle.rules.specs.Step.{step_of}
use Rattle.demand3.specs.Demand3.{Calls, Entering}
use Rattle.demand3.specs.Demand3 as claim
use Rattle.demand3.proofs.Demand3.{demand3}
use Rattle.demand3.proofs.Steps.{step_keeps, sound_fresh}
use Rattle.any_chip.specs.declared.State.{State}
use Rattle.any_chip.specs.View.{Reply}
use Rattle.any_chip.specs.View.{model, state, reply}
use Rattle.any_chip.specs.Demand3.{answer, Called, stop, call, CodeDemand3}
use Rattle.any_chip.proofs.View.{view_laws}

pub answered : (setup : Setup) (a : Answer) → Sound (chip_of setup) a.next → answer (reply setup a) ≡ a
answered setup a h =
    ap (λ (m : Model). record { refusal = a.refusal; value = a.value; vector = a.vector; link = a.link; next = m }) (view_laws.viewed setup a.next h)

pub called : {s t : State} {es : List Event} {rs : List Reply} (setup : Setup) → s.setup ≡ setup → Sound (chip_of setup) (model s) → Called s es rs t → Calls (chip_of setup) (model s) es (map answer rs) (model t)
called setup q h stop = claim.stop
called {s = s} setup q h (call {e = e} {r = r} k more) =
    let replied : r ≡ reply setup (step_of (chip_of setup) (model s) e) = k ∙ ap (λ (u : Setup). reply u (step_of (chip_of u) (model s) e)) q in
    let a : answer r ≡ step_of (chip_of setup) (model s) e = ap answer replied ∙ answered setup (step_of (chip_of setup) (model s) e) (step_keeps h e) in
    claim.call a (called setup (ap (λ (u : Reply). u.state.setup) replied) (subst (λ (u : Answer). Sound (chip_of setup) u.next) (sym a) (step_keeps h e)) more)

pub called_setup : {s t : State} {es : List Event} {rs : List Reply} → Called s es rs t → t.setup ≡ s.setup
called_setup stop = refl
called_setup (call k more) = called_setup more ∙ ap (λ (r : Reply). r.state.setup) k

-- from the fresh state
pub called_fresh : {t : State} {es : List Event} {rs : List Reply} (setup : Setup) → Called (state setup (fresh (chip_of setup))) es rs t → Calls (chip_of setup) (fresh (chip_of setup)) es (map answer rs) (model t)
called_fresh {t} {es} {rs} setup k =
    let c = chip_of setup in
    let f = view_laws.viewed setup (fresh c) (sound_fresh c) in
    subst (λ (m : Model). Calls (chip_of setup) m es (map answer rs) (model t)) f (called setup refl (subst (Sound (chip_of setup)) (sym f) (sound_fresh (chip_of setup))) k)

pub code_demand3 : (setup : Setup) → T (fits (chip_of setup)) → CodeDemand3 setup
code_demand3 setup f =
    record {
      calls = λ es rs t k. (demand3 (chip_of setup) f).calls es (map answer rs) (model t) (called_fresh setup k);
      entries = λ s r q h k.
          let a = ap answer k ∙ answered setup (step_of (chip_of setup) (model s) Entry) (step_keeps h Entry) in
          subst (Entering (model s)) (sym a) ((demand3 (chip_of setup) f).entries (model s) h);
    }
