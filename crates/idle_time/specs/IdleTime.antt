-- Document 02, E5, "Skip idle time", sentence by sentence, for every chip and every state. The proof is `proofs/IdleTime.antt`.
use Rattle.std.specs.Prelude.{ℕ, ◌+◌, ◌-◌, ◌≤◌, ◌<◌, max, ◌≡◌, List, [], ◌∷◌, Bool, false, ◌||◌, replicate, T, eqb}
use Rattle.bits.specs.Words.{bit}
use Rattle.systick.specs.declared.Timer.{Timer}
use Rattle.systick.specs.Timer.{enabled, with_current}
use Rattle.script.specs.declared.Event.{Event}
use Rattle.script.specs.declared.Event.TheVariants.{Tick, Skip}
use Rattle.rules.specs.declared.Chip.{Chip}
use Rattle.rules.specs.Chip.{fits}
use Rattle.rules.specs.Model.{Model, Answer, done, with_timer}
use Rattle.rules.specs.Sound.{Sound}
use Rattle.rules.specs.Step.{step_of, answers_of, run_of}
use Rattle.rules.specs.Table.{Holds}
use Rattle.demand3.specs.Demand3.{Calls}
use Rattle.idle_time.specs.Cases.{cases}

-- "so many single ticks": that many tick events
abbrev pub ticks : ℕ → List Event
ticks n = replicate n Tick

-- "one of those ticks would have answered 1"
abbrev pub some_one : List Answer → Bool
some_one [] = false
some_one (a ∷ rs) = eqb a.value 1 || some_one rs

abbrev pub timer : Model → Timer
timer m = m.core.timer

-- an answer 0 that leaves the model as it was
pub record Unmoved (m : Model) (a : Answer) : Type 0 where
  pub value : a.value ≡ 0
  pub next : a.next ≡ m

pub record IdleTime (c : Chip) : Type 0 where
  -- "leaves exactly the state that so many single ticks leave", in a state that is refused too
  pub leaves : (m : Model) (n : ℕ) → (step_of c m (Skip n)).next ≡ run_of c m (ticks n)
  -- "and answers 1 exactly if one of those ticks would have answered 1", else 0
  pub answers : (m : Model) (n : ℕ) → (step_of c m (Skip n)).value ≡ bit (some_one (answers_of c m (ticks n)))
  -- both, of calls and their answers
  pub calls : (m t : Model) (n : ℕ) (rs : List Answer) → Calls c m (ticks n) rs t → ((step_of c m (Skip n)).value ≡ bit (some_one rs)) × ((step_of c m (Skip n)).next ≡ t)
  -- "Refusals: none new.": in a sound state, on a chip that fits, never refused; vector and link are 0
  pub accepted : T (fits c) → (m : Model) → Sound c m → (n : ℕ) → step_of c m (Skip n) ≡ done (bit (some_one (answers_of c m (ticks n)))) (run_of c m (ticks n))
  -- "Count 0 changes nothing and answers 0."
  pub none : (m : Model) → Unmoved m (step_of c m (Skip 0))
  -- "skipping a and then b leaves the state of skipping a + b, whenever the sum fits": whatever it is
  pub sums : (m : Model) (a b : ℕ) → (step_of c (step_of c m (Skip a)).next (Skip b)).next ≡ (step_of c m (Skip (a + b))).next
  -- Of the answers that is not so: Cases has b and a + b that answer differently. The answer to a + b is 1 exactly if that to a or that to b is.
  pub either : (m : Model) (a b : ℕ) → (step_of c m (Skip (a + b))).value ≡ max (step_of c m (Skip a)).value (step_of c (step_of c m (Skip a)).next (Skip b)).value
  -- "A reload value of 0 stops at zero.": once there were ticks enough it is 0, and from then on nothing moves
  pub stops : T (fits c) → (m : Model) → Sound c m → T (enabled (timer m)) → (timer m).reload ≡ 0 → (n : ℕ) → (timer m).current ≤ n → (timer (step_of c m (Skip n)).next).current ≡ 0
  pub stopped : (m : Model) → (timer m).reload ≡ 0 → (timer m).current ≡ 0 → (n : ℕ) → Unmoved m (step_of c m (Skip n))
  -- A timer that is off stays. One that counts just falls as long as it does not reach 0, from above the reload value too.
  pub off : (m : Model) → enabled (timer m) ≡ false → (n : ℕ) → Unmoved m (step_of c m (Skip n))
  pub falls : T (fits c) → (m : Model) → Sound c m → T (enabled (timer m)) → (n : ℕ) → n < (timer m).current → step_of c m (Skip n) ≡ done 0 (with_timer (with_current ((timer m).current - n) (timer m).count (timer m)) m)

pub record E5 : Type 0 where
  pub every : (c : Chip) → IdleTime c
  pub examples : Holds cases
