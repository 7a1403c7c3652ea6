-- Each event keeps a model sound, so a list of events does, and what is reached from the fresh model is sound.
use mathlib.Core.Path.{sym, subst}
use mathlib.Core.List.{List, [], ◌∷◌}
use Rattle.script.specs.declared.Event.{Event}
use Rattle.rules.specs.declared.Chip.{Chip}
use Rattle.rules.specs.Model.{Model, Answer, fresh}
use Rattle.rules.specs.Sound.{Sound}
use Rattle.rules.specs.Step.{step_of, run_of}
use Rattle.demand3.specs.Demand3.{Calls, stop, call}
use Rattle.demand3.proofs.Steps.{step_keeps, sound_fresh}

pub run_keeps : {c : Chip} {m : Model} → Sound c m → (es : List Event) → Sound c (run_of c m es)
run_keeps h [] = h
run_keeps {c = c} {m = m} h (e ∷ es) = run_keeps {c = c} {m = (step_of c m e).next} (step_keeps h e) es

pub reached_sound : (c : Chip) (es : List Event) → Sound c (run_of c (fresh c) es)
reached_sound c es = run_keeps (sound_fresh c) es

-- of calls and their answers
pub calls_sound : {c : Chip} {m t : Model} {es : List Event} {rs : List Answer} → Calls c m es rs t → Sound c m → Sound c t
calls_sound stop h = h
calls_sound {c = c} (call {e = e} q more) h = calls_sound more (subst (λ (a : Answer). Sound c a.next) (sym q) (step_keeps h e))
