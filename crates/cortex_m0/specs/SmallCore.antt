-- Document 02, E10, "The small printer's Cortex-M0": what its sentences say of every sound state. The rules that entry, return, lines and ticks share with the
-- other chips ask nothing of the profile: what it lacks is 0 in a sound state, and these follow. The proof is `proofs/SmallCore.antt`.
use Rattle.std.specs.Prelude.{ℕ, ◌*◌, ◌≡◌, List, [], ◌∷◌, true, false, T}
use Rattle.bits.specs.Words.{field, bit_at}
use Rattle.priority.specs.Levels.{levels}
use Rattle.script.specs.declared.AccessKind.{AccessKind}
use Rattle.script.specs.declared.Event.{Event}
use Rattle.script.specs.declared.Event.TheVariants as event
use Rattle.rules.specs.Chip.{chip_m0, is_in}
use Rattle.rules.specs.Model.{Model, refuse, done, stack, top}
use Rattle.rules.specs.Priorities.{full, group_number, execution, is_negative, privileged}
use Rattle.rules.specs.Sound.{is_sound, Sound}
use Rattle.rules.specs.Events.{pend}
use Rattle.rules.specs.Reads.{intctrl_value}
use Rattle.rules.specs.Step.{step_of}
use Rattle.rules.specs.Table.{Holds}
use Rattle.demand3.specs.Demand3.{Demand3}
use Rattle.demand3.specs.Bounds.{BoundedM0}
use Rattle.cortex_m0.specs.Cases.{registers, events, lacking}

-- "A fault event names a bit of FAULTSTAT: 0, 1 (MemManage), 8, 9 (Bus), 16, 17, 18, 19, 24, 25 (Usage)."
abbrev pub listed : List ℕ
listed = 0 ∷ 1 ∷ 8 ∷ 9 ∷ 16 ∷ 17 ∷ 18 ∷ 19 ∷ 24 ∷ 25 ∷ []

-- what ED04 reads in this state
abbrev pub ed04 : Model → ℕ
ed04 m = intctrl_value m.pending false (top (stack m))

-- a sound state of the Cortex-M0
pub record SmallCore (m : Model) : Type 0 where
  -- "no configurable faults, so each fault (its bit checked by 7 as before) goes to HardFault", which alone becomes pending; "no fault status or address kept"
  pub fault : (b a : ℕ) → T (is_in b listed) → is_negative (execution m) ≡ false → step_of chip_m0 m (event.Fault b a) ≡ done 3 (pend 3 m)
  pub locked : (b a : ℕ) → T (is_in b listed) → is_negative (execution m) ≡ true → step_of chip_m0 m (event.Fault b a) ≡ refuse 10 m
  pub unlisted : (b a : ℕ) → is_in b listed ≡ false → step_of chip_m0 m (event.Fault b a) ≡ refuse 7 m
  -- "always privileged"
  pub privilege : privileged m.core ≡ true
  -- "no grouping": an exception's group number is its full priority; "Demand 3 reads L = 4"
  pub grouping : (n : ℕ) → group_number m n ≡ full m n
  pub four : levels chip_m0.bits m.core.group ≡ 4
  -- "vectors start at 0": an entry's vector address is 4 x number
  pub vectors : (step_of chip_m0 m event.Entry).refusal ≡ 0 → (step_of chip_m0 m event.Entry).vector ≡ 4 * (step_of chip_m0 m event.Entry).value
  -- "ED04 (top of nest in 5:0, bit 11 is 0)"
  pub read_ed04 : step_of chip_m0 m (event.Read 4 0xE000ED04) ≡ done (ed04 m) m
  pub topmost : field 5 0 (ed04 m) ≡ top (stack m)
  pub bit_11 : bit_at 11 (ed04 m) ≡ false
  -- "access events are refused by 19", of any kind, width and address
  pub access : (kind : AccessKind) (w a : ℕ) → step_of chip_m0 m (event.Access kind w a) ≡ refuse 19 m

pub record E10 : Type 0 where
  pub sound : (m : Model) → Sound chip_m0 m → SmallCore m
  -- ".. before all others but 16"
  pub unsound : (m : Model) → is_sound chip_m0 m ≡ false → (e : Event) → step_of chip_m0 m e ≡ refuse 16 m
  -- "Entry, return, line and tick rules are shared and their proofs too": so is the third demand, whose words stay. "L = 4, and the bare bound is 37"
  pub demand3 : Demand3 chip_m0
  pub bounds : BoundedM0
  pub examples : Holds registers × Holds events × Holds lacking
