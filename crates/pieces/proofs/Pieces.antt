-- What a call does from an event on is that event's line and what a call does from the next: the definitions of `specs/Pieces.antt` step by step.
use Prim.Native.Nat.{ℕ, suc, ◌-◌, ◌≤◌, ◌<◌}
use mathlib.Core.Path.{◌≡◌, refl, subst}
use mathlib.Core.List.{List, [], ◌∷◌, ◌++◌, append_assoc}
use mathlib.Core.Bool.{Bool, true, false}
use native.Mathlib.Nat.{add-zero, add-suc, suc-add}
use lib.ListN.{length}
use lib.Dec.{T}
use borrow.Author.Tests.{le-leb, lt-leb}
use Rattle.decimal.specs.Decimal.{line_room}
use Rattle.script.specs.declared.Event.{Event}
use Rattle.rules.specs.declared.Chip.{Chip}
use Rattle.rules.specs.Chip.{fits}
use Rattle.rules.specs.Model.{Model, Answer}
use Rattle.rules.specs.Sound.{Sound}
use Rattle.rules.specs.Step.{act_of, step_of, answers_of}
use Rattle.demand3.proofs.Check.{step_sound}
use Rattle.text.specs.Text.{line_of, lines_of, end_text}
use Rattle.pieces.specs.Pieces.{script_at, fitting, all_fit, passed, offset_after, Piece, ran, gone_on}
use Rattle.pieces.proofs.Laws.{One}

-- a text before a piece
abbrev pub prefixed : List ℕ → Piece → Piece
prefixed text q = record { model = q.model; at = q.at; events = q.events; ended = q.ended; refusal = q.refusal; text = text ++ q.text }

-- a piece in which no event runs
abbrev pub still : Bool → Model → ℕ → ℕ → List ℕ → Piece
still ended m at events text = record { model = m; at = at; events = events; ended = ended; refusal = 0; text = text }

fits_none : (room number : ℕ) (rest : List Answer) → room < line_room → fitting room number rest ≡ 0
unfolding fitting
fits_none room number [] h = refl
fits_none room number (a ∷ rest) h = simp (lt-leb line_room room h)

not_all : (room number : ℕ) (rest : List Answer) → room < line_room → all_fit room number rest ≡ false
unfolding all_fit
not_all room number [] h = lt-leb line_room room h
not_all room number (a ∷ rest) h = simp (lt-leb line_room room h)

module _ (c : Chip) (script : List ℕ) (m : Model) (at events room : ℕ) where
  pub gone_full : room < line_room → gone_on c script m at events room ≡ still false m at events []
  unfolding gone_on ran lines_of offset_after
  gone_full h = rw (fits_none room (suc events) (answers_of c m (script_at script at).events) h, not_all room (suc events) (answers_of c m (script_at script at).events) h, add-zero)

  pub gone_closed : (script_at script at).events ≡ [] → line_room ≤ room → gone_on c script m at events room ≡ still true m at events (end_text (script_at script at).end)
  unfolding gone_on ran fitting all_fit lines_of offset_after
  gone_closed e h = rw (e, le-leb line_room room h, add-zero)

  gone_step : (e : Event) (next : ℕ) → One script at e next → line_room ≤ room → gone_on c script m at events room ≡ prefixed (line_of (suc events) (step_of c m e)) (gone_on c script (step_of c m e).next next (suc events) (room - length (line_of (suc events) (step_of c m e))))
  unfolding gone_on ran fitting all_fit lines_of offset_after passed
  gone_step e next o h = rw (o.rest, le-leb line_room room h, o.found, append_assoc, add-suc, suc-add)

  pub gone_next : (e : Event) (next : ℕ) → One script at e next → T (fits c) → Sound c m → line_room ≤ room → gone_on c script m at events room ≡ prefixed (line_of (suc events) (act_of c m e)) (gone_on c script (act_of c m e).next next (suc events) (room - length (line_of (suc events) (act_of c m e))))
  gone_next e next o f s h =
      subst (λ (a : Answer). gone_on c script m at events room ≡ prefixed (line_of (suc events) a) (gone_on c script a.next next (suc events) (room - length (line_of (suc events) a)))) (step_sound f s e) (gone_step e next o h)
