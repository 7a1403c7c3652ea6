-- The rules' theorem at the setup's chip. A sound model is the view of its state, so a reply's equation is the answer's.
use mathlib.Core.Path.{◌≡◌, sym, ap, subst, subst₂, ◌∙◌}
use mathlib.Core.List.{List}
use lib.Dec.{T}
use Rattle.script.specs.declared.Event.{Event}
use Rattle.script.specs.declared.Event.TheVariants.{Entry}
use Rattle.rules.specs.declared.Chip.{Chip}
use Rattle.rules.specs.declared.Setup.{Setup}
use Rattle.rules.specs.Chip.{chip_of, fits}
use Rattle.rules.specs.Model.{Answer}
use Rattle.rules.specs.Sound.{Sound}
use Rattle.rules.specs.Step.{step_of}
use Rattle.demand3.proofs.Steps.{step_keeps, sound_fresh}
use Rattle.demand3.proofs.Reached.{calls_sound}
use Rattle.masks_hold_back.specs.MasksHoldBack.{Lowered, HeldBack, Raises}
use Rattle.masks_hold_back.proofs.MasksHoldBack.{masks_hold_back}
use Rattle.any_chip.specs.declared.State.{State}
use Rattle.any_chip.specs.View.{Reply}
use Rattle.any_chip.specs.View.{model, reply}
use Rattle.any_chip.specs.Demand3.{answer}
use Rattle.any_chip.specs.LostPulses.{FromFresh}
use Rattle.any_chip.specs.MasksHoldBack.{Replied, Entered, CodeMasksHoldBack}
use Rattle.any_chip.proofs.Demand3.{answered, called_setup, called_fresh}

module _ (setup : Setup) (f : T (fits (chip_of setup))) where
  abbrev c : Chip
  c = chip_of setup

  replied : (s : State) → s.setup ≡ setup → Sound c (model s) → (e : Event) (r : Reply) → Replied s e r → answer r ≡ step_of c (model s) e
  replied s u h e r k =
      ap answer (k ∙ ap (λ (x : Setup). reply x (step_of (chip_of x) (model s) e)) u) ∙ answered setup (step_of c (model s) e) (step_keeps h e)

  sound : (s t : State) → s.setup ≡ setup → t.setup ≡ setup → Sound c (model s) → Sound c (model t) → Lowered (model s) (model t) → (r q : Reply) → Entered s r → Entered t q → HeldBack (model s) (model t) (answer r) (answer q)
  sound s t u v h g l r q a b =
      subst₂ (HeldBack (model s) (model t)) (sym (replied s u h Entry r a)) (sym (replied t v g Entry q b)) ((masks_hold_back c f).sound (model s) (model t) h g l)

  left : {es : List Event} {rs : List Reply} {s : State} → FromFresh setup es rs s → Sound c (model s)
  left k = calls_sound (called_fresh setup k) (sound_fresh c)

  starts_nothing : (s : State) → s.setup ≡ setup → Sound c (model s) → (e : Event) → Raises e → (p r q : Reply) → Replied s e p → Entered s r → Entered p.state q → HeldBack (model s) (model p.state) (answer r) (answer q)
  starts_nothing s u h e raises p r q w =
      let next : model p.state ≡ (step_of c (model s) e).next = ap (λ (a : Answer). a.next) (replied s u h e p w) in
      sound s p.state u (ap (λ (x : Reply). x.state.setup) w ∙ u) h
      (subst (Sound c) (sym next) (step_keeps h e))
      (subst (Lowered (model s)) (sym next) ((masks_hold_back c f).raised (model s) h e raises))
      r q

  pub code_masks_hold_back : CodeMasksHoldBack setup
  code_masks_hold_back =
      record {
        reached = λ es fs rs qs s t k j. sound s t (called_setup k) (called_setup j) (left k) (left j);
        sound = sound;
        starts_nothing = λ es rs s k. starts_nothing s (called_setup k) (left k);
      }
