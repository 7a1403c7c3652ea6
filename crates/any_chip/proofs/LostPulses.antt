-- The rules' theorem at a setup's chip. The view has the count of each line of the chip.
use Prim.Native.Nat.{ℕ, ◌≤◌, ◌<◌}
use mathlib.Core.Path.{◌≡◌, sym, ap, subst, ◌∙◌}
use mathlib.Core.List.{map}
use native.Mathlib.Omega.{arith}
use lib.ListN.{get_or}
use lib.Seq.{get_or-take}
use Rattle.script.specs.declared.Event.TheVariants.{Lost}
use Rattle.rules.specs.declared.Setup.{Setup}
use Rattle.rules.specs.Chip.{chip_of}
use Rattle.rules.specs.Step.{step_of}
use Rattle.lost_pulses.proofs.LostPulses.{lost_pulses, calls_answered}
use Rattle.any_chip.specs.declared.State.{State}
use Rattle.any_chip.specs.View.{Reply}
use Rattle.any_chip.specs.View.{reach_in, model, state, reply}
use Rattle.any_chip.specs.ViewLaws.{Sized}
use Rattle.any_chip.specs.Demand3.{answer}
use Rattle.any_chip.specs.LostPulses.{held_count, CodeLostPulses}
use Rattle.places.specs.Places.{nonzero}
use Rattle.places.proofs.Laws.{reach_least}
use Rattle.any_chip.proofs.View.{view_laws, lines_fit}
use Rattle.any_chip.proofs.Demand3.{called_setup, called_fresh}

count_viewed : (s : State) (line : ℕ) → line < (chip_of s.setup).lines → get_or (model s).lost line 0 ≡ get_or s.lost line 0
count_viewed s line l =
    let h : (chip_of s.setup).lines ≤ (reach_in s).lost = reach_least (nonzero s.lost) (chip_of s.setup).lines 240 (lines_fit s.setup) in
    get_or-take (reach_in s).lost s.lost line 0 (omega arith)

-- a reply with a refusal, a value and a state; the state is its setup and its model
abbrev leaving : ℕ → ℕ → State → Reply
leaving refusal value s = record { refusal = refusal; value = value; vector = 0; link = 0; state = s }

left : (s : State) → Sized s → (refusal value : ℕ) → leaving refusal value (state s.setup (model s)) ≡ leaving refusal value s
left s z refusal value = ap (leaving refusal value) (view_laws.back s z)

pub code_lost_pulses : CodeLostPulses
code_lost_pulses =
    record {
      stored = λ setup es rs t k line l.
          sym (count_viewed t line (subst (λ (u : Setup). line < (chip_of u).lines) (sym (called_setup k)) l))
          ∙ (lost_pulses (chip_of setup)).calls es (map answer rs) (model t) (called_fresh setup k) line l;
      answered = λ setup f es rs t k z line l r q.
          q ∙ ap (λ (u : Setup). reply t.setup (step_of (chip_of u) (model t) (Lost line))) (called_setup k)
          ∙ ap (reply t.setup) (calls_answered (chip_of setup) f (called_fresh setup k) line l)
          ∙ left t z 0 (held_count setup rs line);
      refused = λ s z f h line l r q.
          q ∙ ap (reply s.setup) ((lost_pulses (chip_of s.setup)).refused f (model s) h line l) ∙ left s z 6 0;
    }
