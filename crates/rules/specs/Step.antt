-- Every event, by one clause a kind. Refusal 17 comes first, then 16.
use Rattle.std.specs.Prelude.{List, [], ◌∷◌, cond}
use Rattle.script.specs.declared.Event.{Event}
use Rattle.script.specs.declared.Event.TheVariants as event
use Rattle.script.specs.Event.{access_number}
use Rattle.rules.specs.declared.Chip.{Chip}
use Rattle.rules.specs.Chip.{fits}
use Rattle.rules.specs.Model.{Model, Answer, refuse}
use Rattle.rules.specs.Sound.{is_sound}
use Rattle.rules.specs.Events.{line_call, lost_call, nmi_call, tick_call, skip_call, fault_call, svc_call, special_call}
use Rattle.rules.specs.Nesting.{entry_call, return_call}
use Rattle.rules.specs.Registers.{read_call, write_call}
use Rattle.rules.specs.Access.{access_call}

-- what an event does to a sound model
abbrev pub act_of : Chip → Model → Event → Answer
act_of c m (event.Read w a) = read_call c m w a
act_of c m (event.Write w a v) = write_call c m w a v
act_of c m (event.Line line level) = line_call c m line level
act_of c m event.Nmi = nmi_call m
act_of c m event.Tick = tick_call m
act_of c m (event.Fault b a) = fault_call c m b a
act_of c m event.Svc = svc_call c m
act_of c m (event.Special which v) = special_call c m which v
act_of c m event.Entry = entry_call m
act_of c m (event.Return v) = return_call m v
act_of c m (event.Access kind w a) = access_call c m (access_number kind) w a
act_of c m (event.Lost line) = lost_call c m line
act_of c m (event.Skip n) = skip_call m n

-- "16: state not sound"; "Checks run in order 16, .."
unfoldable pub guarded : Chip → Model → Answer → Answer
guarded c m a = cond (is_sound c m) a (refuse 16 m)

-- Document 02, E7: "17, a chip setup with w outside 3 to 8, checked before all others, 15 and 16 too"
unfoldable pub admitted : Chip → Model → Answer → Answer
admitted c m a = cond (fits c) a (refuse 17 m)

abbrev pub step_of : Chip → Model → Event → Answer
step_of c m e = admitted c m (guarded c m (act_of c m e))

-- ---- a list of events, each on the model that the last one left

abbrev pub answers_of : Chip → Model → List Event → List Answer
answers_of c m [] = []
answers_of c m (e ∷ es) = step_of c m e ∷ answers_of c (step_of c m e).next es

abbrev pub run_of : Chip → Model → List Event → Model
run_of c m [] = m
run_of c m (e ∷ es) = run_of c (step_of c m e).next es
