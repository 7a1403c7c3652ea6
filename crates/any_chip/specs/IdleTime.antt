-- Document 02, E5, about what runs: `idle_time` states of the rules' answers what a skip leaves and answers; here it is said of the replies, for every chip
-- that a setup names, by the states that the calls handed back, for every state.
use Rattle.std.specs.Prelude.{ℕ, ◌+◌, ◌≡◌, List, map}
use Rattle.bits.specs.Words.{bit}
use Rattle.script.specs.declared.Event.TheVariants.{Skip}
use Rattle.rules.specs.Chip.{chip_of}
use Rattle.rules.specs.Step.{step_of}
use Rattle.idle_time.specs.IdleTime.{ticks, some_one}
use Rattle.any_chip.specs.declared.State.{State}
use Rattle.any_chip.specs.View.{Reply}
use Rattle.any_chip.specs.View.{model, reply}
use Rattle.any_chip.specs.ViewLaws.{Sized}
use Rattle.any_chip.specs.Demand3.{answer, Called}

-- r is what the call `skip n` on s hands back
abbrev pub Skipped : State → ℕ → Reply → Type 0
Skipped s n r = r ≡ reply s.setup (step_of (chip_of s.setup) (model s) (Skip n))

pub record CodeIdleTime : Type 0 where
  -- "leaves exactly the state that so many single ticks leave, and answers 1 exactly if one of those ticks would have answered 1": so many calls of
  -- `tick`, each on the state that the last one handed back
  pub ticked : (s t : State) → Sized s → (n : ℕ) (rs : List Reply) → Called s (ticks n) rs t → (r : Reply) → Skipped s n r → (r.value ≡ bit (some_one (map answer rs))) × (r.state ≡ t)
  -- "Count 0 changes nothing and answers 0."
  pub none : (s : State) → Sized s → (r : Reply) → Skipped s 0 r → (r.value ≡ 0) × (r.state ≡ s)
  -- "skipping a and then b leaves the state of skipping a + b, whenever the sum fits"
  pub sums : (s : State) → Sized s → (a b : ℕ) (p q r : Reply) → Skipped s a p → Skipped p.state b q → Skipped s (a + b) r → q.state ≡ r.state
