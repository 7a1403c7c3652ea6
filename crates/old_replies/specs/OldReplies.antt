-- Document 02, E4: "An old script for 55 lines gives the same output lines on the new chip, provided that .." (`old_scripts`). There it is said of the
-- rules; here of the replies of two states, one of each setup, and of the bytes that two runs write.
use Rattle.std.specs.Prelude.{ℕ, ◌≡◌, List, [], ◌∷◌, true, T}
use Rattle.numbers.specs.NumberLaws.{Bytes}
use Rattle.script.specs.declared.Event.{Event}
use Rattle.script.specs.Script.{script_of}
use Rattle.rules.specs.declared.Setup.{Setup}
use Rattle.rules.specs.Chip.{chip55, chip_of}
use Rattle.rules.specs.Model.{fresh, stack, top}
use Rattle.rules.specs.Priorities.{execution}
use Rattle.old_scripts.specs.OldScripts.{are_old}
use Rattle.pieces.specs.Joined.{joined}
use Rattle.any_chip.specs.declared.State.{State}
use Rattle.any_chip.specs.View.{Reply}
use Rattle.any_chip.specs.View.{model, state}
use Rattle.any_chip.specs.Demand3.{Called}
use Rattle.any_run.specs.Progress.{Progress, started}
use Rattle.any_run.specs.Joined.{Continued}
use Rattle.run.specs.Progress as bench-start
use Rattle.run.specs.Joined as bench-run

-- every number of a reply, and what `top` and `execution_priority` answer on the state that it hands back
pub record SameReply (r u : Reply) : Type 0 where
  pub refusal : r.refusal ≡ u.refusal
  pub value : r.value ≡ u.value
  pub vector : r.vector ≡ u.vector
  pub link : r.link ≡ u.link
  pub topmost : top (stack (model r.state)) ≡ top (stack (model u.state))
  pub priority : execution (model r.state) ≡ execution (model u.state)

-- as many replies, and each is the same as its own
abbrev pub SameReplies : List Reply → List Reply → Type 0
SameReplies [] [] = Unit {0}
SameReplies [] (u ∷ us) = ⊥
SameReplies (r ∷ rs) [] = ⊥
SameReplies (r ∷ rs) (u ∷ us) = SameReply r u × SameReplies rs us

-- of the setups s and t
pub record OldReplies (s t : Setup) : Type 0 where
  -- lists of calls for the same events, each from the fresh state of its setup
  pub replies : (es : List Event) (rs us : List Reply) (a b : State) → T (are_old (chip_of s) (chip_of t) es)
      → Called (state s (fresh (chip_of s))) es rs a → Called (state t (fresh (chip_of t))) es us b → SameReplies rs us
  -- runs of the same bytes to their end, whatever room each call had
  pub runs : (script : List ℕ) → Bytes script → T (are_old (chip_of s) (chip_of t) (script_of script).events)
      → (outs here others there : List (List ℕ)) (p q : Progress) → Continued script (started s) outs here p → Continued script (started t) others there q
      → p.ended ≡ true → q.ended ≡ true → joined here ≡ joined there

-- what `bench` writes is what a run on t writes
abbrev pub AsBench : Setup → Type 0
AsBench t =
    (script : List ℕ) → Bytes script → T (are_old chip55 (chip_of t) (script_of script).events)
    → (outs here others there : List (List ℕ)) (p : bench-start.Progress) (q : Progress) → bench-run.Continued script bench-start.started outs here p → Continued script (started t) others there q
    → p.ended ≡ true → q.ended ≡ true → joined here ≡ joined there
