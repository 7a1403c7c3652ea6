-- Document 02, E1, "Count the pulses we lose", sentence by sentence, for every chip. The proof is `proofs/LostPulses.antt`.
use Rattle.std.specs.Prelude.{ℕ, ◌+◌, ◌≤◌, ◌<◌, min, ◌≡◌, ◌≢◌, List, [], not, ◌&&◌, get_or, T}
use Rattle.bits.specs.Words.{bit}
use Rattle.flag_words.specs.Flags.{on}
use Rattle.script.specs.Event.{kind_of}
use Rattle.script.specs.declared.Event.{Event}
use Rattle.script.specs.declared.Event.TheVariants.{Line, Lost}
use Rattle.rules.specs.declared.Chip.{Chip}
use Rattle.rules.specs.Chip.{fits}
use Rattle.rules.specs.Model.{Model, Answer, refuse, done, fresh, with_lost}
use Rattle.rules.specs.Sound.{Counts, Sound}
use Rattle.rules.specs.Step.{step_of, run_of}
use Rattle.rules.specs.Table.{Holds}
use Rattle.demand3.specs.Demand3.{Calls}
use Rattle.lost_pulses.specs.History.{lost_rise, rises_lost, history}
use Rattle.lost_pulses.specs.Cases.{cases}

-- an answer but for the counts in the state that it leaves
abbrev pub but_counts : Answer → Answer
but_counts a = record { refusal = a.refusal; value = a.value; vector = a.vector; link = a.link; next = with_lost [] a.next }

pub record LostPulses (c : Chip) : Type 0 where
  -- What the history counts: a level event of the line, to high and accepted, is a lost rise exactly where it finds the line low and pending; and
  -- nothing else is one.
  pub rise : T (fits c) → (m : Model) → Sound c m → (line : ℕ) → line < c.lines → lost_rise line m (step_of c m (Line line 1)).next ≡ (not (on m.level (16 + line)) && on m.pending (16 + line))
  pub rises : (m : Model) (e : Event) (line : ℕ) → T (lost_rise line m (step_of c m e).next) → (e ≡ Line line 1) × ((step_of c m e).refusal ≡ 0)
  -- "prove that the stored number equals the smaller of that and 65,535"
  pub stored : (es : List Event) (line : ℕ) → line < c.lines → get_or (run_of c (fresh c) es).lost line 0 ≡ min (history c es line) 65535
  -- .. of calls and their answers
  pub calls : (es : List Event) (rs : List Answer) (t : Model) → Calls c (fresh c) es rs t → (line : ℕ) → line < c.lines → get_or t.lost line 0 ≡ min (rises_lost line (fresh c) rs) 65535
  -- "New script event 12 (line) answers the count", and changes nothing
  pub answered : T (fits c) → (es : List Event) (line : ℕ) → line < c.lines → step_of c (run_of c (fresh c) es) (Lost line) ≡ done (min (history c es line) 65535) (run_of c (fresh c) es)
  -- "Refusals: 6 for a line above 54, as for event 3": above the chip's last line
  pub refused : T (fits c) → (m : Model) → Sound c m → (line : ℕ) → c.lines ≤ line → step_of c m (Lost line) ≡ refuse 6 m
  -- Who moves a count: its own line's rise, by one; no event but a level event, in any state.
  pub moved : (m : Model) → Sound c m → (e : Event) (line : ℕ) → line < c.lines → get_or (step_of c m e).next.lost line 0 ≡ min (get_or m.lost line 0 + bit (lost_rise line m (step_of c m e).next)) 65535
  pub kept : (m : Model) (e : Event) → kind_of e ≢ 3 → (step_of c m e).next.lost ≡ m.lost
  -- "Entry, return and all verdicts read as before": every event but 12 answers and leaves the same but for the counts, whatever those are
  pub others : (m : Model) (x : List ℕ) → Counts c m.lost → Counts c x → (e : Event) → kind_of e ≢ 12 → but_counts (step_of c (with_lost x m) e) ≡ but_counts (step_of c m e)

pub record E1 : Type 0 where
  pub every : (c : Chip) → LostPulses c
  pub examples : Holds cases
