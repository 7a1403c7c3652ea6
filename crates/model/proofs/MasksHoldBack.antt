-- The rules' theorem at the 55-line chip: a reply's equation is the equation of the answer that it renames.
use mathlib.Core.Path.{sym, ap, subst, subst₂}
use mathlib.Core.List.{List}
use Rattle.script.specs.declared.Event.{Event}
use Rattle.rules.specs.Chip.{chip55}
use Rattle.rules.specs.Model.{fresh}
use Rattle.rules.specs.Sound.{Sound}
use Rattle.demand3.proofs.Steps.{step_keeps, sound_fresh}
use Rattle.demand3.proofs.Reached.{calls_sound}
use Rattle.masks_hold_back.specs.MasksHoldBack.{Lowered, HeldBack}
use Rattle.masks_hold_back.proofs.MasksHoldBack.{masks_hold_back}
use Rattle.model.specs.declared.State.{State}
use Rattle.model.specs.View.{Reply}
use Rattle.model.specs.View.{model, state}
use Rattle.model.specs.Demand3.{answer, Called}
use Rattle.model.specs.MasksHoldBack.{Entered, CodeMasksHoldBack}
use Rattle.model.proofs.Demand3.{called}

sound : (s t : State) → Sound chip55 (model s) → Sound chip55 (model t) → Lowered (model s) (model t) → (r q : Reply) → Entered s r → Entered t q → HeldBack (model s) (model t) (answer r) (answer q)
sound s t h g l r q a b =
    subst₂ (HeldBack (model s) (model t)) (sym (ap answer a)) (sym (ap answer b)) ((masks_hold_back chip55 tt).sound (model s) (model t) h g l)

left : {es : List Event} {rs : List Reply} {s : State} → Called (state (fresh chip55)) es rs s → Sound chip55 (model s)
left k = calls_sound (called k) (sound_fresh chip55)

pub code_masks_hold_back : CodeMasksHoldBack
code_masks_hold_back =
    record {
      reached = λ es fs rs qs s t k j. sound s t (left k) (left j);
      sound = sound;
      starts_nothing = λ es rs s k e raises p r q w.
          sound s p.state (left k)
          (subst (λ (x : Reply). Sound chip55 (model x.state)) (sym w) (step_keeps (left k) e))
          (subst (λ (x : Reply). Lowered (model s) (model x.state)) (sym w) ((masks_hold_back chip55 tt).raised (model s) (left k) e raises))
          r q;
    }
