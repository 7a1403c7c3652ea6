-- The rules' theorem: a setup of this part names `chip_m0`, and a state whose model stays is handed back as it was.
use Prim.Native.Nat.{ℕ, ◌*◌}
use mathlib.Core.Path.{◌≡◌, sym, ap, subst, ◌∙◌}
use Rattle.script.specs.declared.Event.{Event}
use Rattle.rules.specs.declared.Part.{Part}
use Rattle.rules.specs.Chip.{chip_m0, part_chip}
use Rattle.rules.specs.Model.{Answer}
use Rattle.rules.specs.Step.{step_of}
use Rattle.cortex_m0.proofs.SmallCore.{e10}
use Rattle.any_chip.specs.declared.State.{State}
use Rattle.any_chip.specs.View.{Reply}
use Rattle.any_chip.specs.View.{model, reply}
use Rattle.any_chip.specs.SmallCore.{Called, CodeSmallCore}
use Rattle.any_chip.proofs.View.{view_laws}

module _ {s : State} {e : Event} {r : Reply} (k : Called s e r) where
  -- the reply, on `chip_m0`
  on_m0 : r ≡ reply s.setup (step_of chip_m0 (model s) e)
  on_m0 = k.replied ∙ ap (λ (p : Part). reply s.setup (step_of (part_chip p s.setup.bits s.setup.guard) (model s) e)) k.part

  answers : {a : Answer} → step_of chip_m0 (model s) e ≡ a → r ≡ reply s.setup a
  answers q = on_m0 ∙ ap (reply s.setup) q

  -- the model stays
  stays : {refusal value : ℕ} → step_of chip_m0 (model s) e ≡ record { refusal = refusal; value = value; vector = 0; link = 0; next = model s } → r ≡ record { refusal = refusal; value = value; vector = 0; link = 0; state = s }
  stays {refusal} {value} q =
      answers q ∙ ap (λ (t : State). record { refusal = refusal; value = value; vector = 0; link = 0; state = t }) (view_laws.back s k.sized)

pub code_small_core : CodeSmallCore
code_small_core =
    record {
      fault = λ s b a r k t free. answers k ((e10.sound (model s) k.sound).fault b a t free);
      locked = λ s b a r k t low. stays k ((e10.sound (model s) k.sound).locked b a t low);
      vectors = λ s r k. subst (λ (x : Reply). x.refusal ≡ 0 → x.vector ≡ 4 * x.value) (sym (on_m0 k)) (e10.sound (model s) k.sound).vectors;
      read_ed04 = λ s r k. stays k (e10.sound (model s) k.sound).read_ed04;
      access = λ s kind w a r k. stays k ((e10.sound (model s) k.sound).access kind w a);
    }
