-- Document 02, E10, about what runs: `cortex_m0` states of the rules' answers what holds in every sound state of a Cortex-M0; here it is said of the replies,
-- whatever bits and guard the setup names.
use Rattle.std.specs.Prelude.{ℕ, ◌*◌, ◌≡◌, true, false, T}
use Rattle.script.specs.declared.AccessKind.{AccessKind}
use Rattle.script.specs.declared.Event.{Event}
use Rattle.script.specs.declared.Event.TheVariants as event
use Rattle.rules.specs.declared.Part.TheVariants.{CortexM0}
use Rattle.rules.specs.Chip.{chip_m0, chip_of, is_in}
use Rattle.rules.specs.Priorities.{execution, is_negative}
use Rattle.rules.specs.Sound.{Sound}
use Rattle.rules.specs.Events.{pend}
use Rattle.rules.specs.Step.{step_of}
use Rattle.cortex_m0.specs.SmallCore.{listed, ed04}
use Rattle.any_chip.specs.declared.State.{State}
use Rattle.any_chip.specs.View.{Reply}
use Rattle.any_chip.specs.View.{model, state, reply}
use Rattle.any_chip.specs.ViewLaws.{Sized}

-- r is what a call hands back on a sound state of a Cortex-M0
pub record Called (s : State) (e : Event) (r : Reply) : Type 0 where
  pub part : s.setup.part ≡ CortexM0
  pub sized : Sized s
  pub sound : Sound chip_m0 (model s)
  pub replied : r ≡ reply s.setup (step_of (chip_of s.setup) (model s) e)

pub record CodeSmallCore : Type 0 where
  -- "each fault (its bit checked by 7 as before) goes to HardFault", which alone becomes pending; at -1 or lower it is refused by 10, and the state stays
  pub fault : (s : State) (b a : ℕ) (r : Reply) → Called s (event.Fault b a) r → T (is_in b listed) → is_negative (execution (model s)) ≡ false
      → r ≡ record { refusal = 0; value = 3; vector = 0; link = 0; state = state s.setup (pend 3 (model s)) }
  pub locked : (s : State) (b a : ℕ) (r : Reply) → Called s (event.Fault b a) r → T (is_in b listed) → is_negative (execution (model s)) ≡ true
      → r ≡ record { refusal = 10; value = 0; vector = 0; link = 0; state = s }
  -- "vectors start at 0"
  pub vectors : (s : State) (r : Reply) → Called s event.Entry r → r.refusal ≡ 0 → r.vector ≡ 4 * r.value
  -- what ED04 reads: "top of nest in 5:0, bit 11 is 0" (`topmost` and `bit_11` of `cortex_m0`)
  pub read_ed04 : (s : State) (r : Reply) → Called s (event.Read 4 0xE000ED04) r → r ≡ record { refusal = 0; value = ed04 (model s); vector = 0; link = 0; state = s }
  -- "access events are refused by 19", and the state stays
  pub access : (s : State) (kind : AccessKind) (w a : ℕ) (r : Reply) → Called s (event.Access kind w a) r → r ≡ record { refusal = 19; value = 0; vector = 0; link = 0; state = s }
