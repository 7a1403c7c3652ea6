-- What a call writes and what is left to write stays the same from call to call, and with room for a line each call ends the script or moves on in it.
use Prim.Native.Nat.{ℕ, suc, ◌+◌, ◌-◌, ◌≤◌, ◌<◌}
use mathlib.Core.Path.{◌≡◌, refl, sym, ap, ◌∙◌}
use mathlib.Core.Logic.{◌⊎◌, inl, inr}
use mathlib.Core.List.{List, [], ◌∷◌, ◌++◌, append_assoc, append-nil}
use mathlib.Core.Bool.{Bool, true, false, not, cond}
use native.Mathlib.Omega.{arith}
use lib.ListN.{length, take, drop}
use lib.Seq.{take_at}
use lib.Dec.{T, ltb, leb}
use borrow.Author.Tests.{leb-true, leb-false, ltb-true, ltb-false, le-leb}
use Rattle.decimal.specs.Decimal.{line_room}
use Rattle.decimal.specs.Written.{written, Puts}
use Rattle.script.specs.declared.Event.{Event}
use Rattle.script.specs.Script.{Script}
use Rattle.numbers.specs.NumberLaws.{Bytes}
use Rattle.bools.specs.Tests.{is_true, true_is}
use Rattle.rules.specs.declared.Chip.{Chip}
use Rattle.rules.specs.Chip.{fits}
use Rattle.rules.specs.Model.{Model, Answer}
use Rattle.rules.specs.Sound.{is_sound, Sound}
use Rattle.rules.specs.Step.{act_of, run_of}
use Rattle.rules.proofs.PriorityBits.{misfit_first}
use Rattle.demand3.proofs.Check.{sound_of, step_sound}
use Rattle.demand3.proofs.Steps.{act_sound}
use Rattle.text.specs.Text.{line_of, lines_of, script_text, admitted_text}
use Rattle.pieces.specs.declared.Course.{Course}
use Rattle.pieces.specs.Pieces.{script_at, is_usable, Usable, Piece, gone_on, unadmitted, piece_of, course_of, Ran, rest_text, rest_of}
use Rattle.pieces.proofs.Laws.{script_long, One, View, over, one, view}
use Rattle.pieces.proofs.Pieces.{prefixed, gone_full, gone_closed, gone_next}
use Rattle.pieces.proofs.Promise.{usable_of, piece_ended, piece_unadmitted, piece_long, piece_usable, piece_refused}

-- ---- a call that goes on

-- the model that all events left in the script leave
unfoldable pub last_of : Chip → List ℕ → Bool → Model → ℕ → Model
last_of c script ended m at = cond ended m (run_of c m (script_at script at).events)

-- from one offset to another in a script of this size, or to its end
abbrev pub Moves : ℕ → ℕ → Bool → ℕ → Type 0
Moves size at ended next = (ended ≡ true) ⊎ ((at < next) × (next ≤ size))

pub record Gone (c : Chip) (script : List ℕ) (m : Model) (at events room : ℕ) (q : Piece) : Type 0 where
  pub told : q.text ++ cond q.ended [] (rest_text c script q.model q.at q.events) ≡ rest_text c script m at events
  pub last : last_of c script q.ended q.model q.at ≡ last_of c script false m at
  pub sound : Sound c q.model
  pub counted : events ≤ at → q.events ≤ q.at
  pub ahead : at ≤ q.at
  pub inside : at ≤ length script → q.at ≤ length script
  pub moves : line_room ≤ room → Moves (length script) at q.ended q.at

module _ {c : Chip} {script : List ℕ} {m : Model} (f : T (fits c)) (s : Sound c m) (at events room : ℕ) where
  gone_none : room < line_room → Gone c script m at events room (gone_on c script m at events room)
  gone_none h =
      rw (gone_full c script m at events room h)
      (record { told = refl; last = refl; sound = s; counted = λ k. k; ahead = omega arith; inside = λ k. k; moves = λ k. let z : ⊥ = omega arith in absurd z })

  gone_over : line_room ≤ room → (script_at script at).events ≡ [] → Gone c script m at events room (gone_on c script m at events room)
  unfolding rest_text admitted_text script_text lines_of last_of
  gone_over h n =
      rw (gone_closed c script m at events room n h)
      (record { told = rw (true_is (fits c) f, n, append-nil); last = rw n; sound = s; counted = λ k. k; ahead = omega arith; inside = λ k. k; moves = λ _. inl refl })

  module _ (h : line_room ≤ room) (e : Event) (next : ℕ) (o : One script at e next) where
    rest_found : rest_text c script m at events ≡ line_of (suc events) (act_of c m e) ++ rest_text c script (act_of c m e).next next (suc events)
    unfolding rest_text admitted_text script_text lines_of
    rest_found = rw (true_is (fits c) f, o.rest, step_sound f s e, append_assoc)

    last_found : last_of c script false (act_of c m e).next next ≡ last_of c script false m at
    unfolding last_of
    last_found = rw o.rest (ap (λ (a : Answer). run_of c a.next (script_at script next).events) (sym (step_sound f s e)))

    gone_one : (q : Piece) → (n : ℕ) → Gone c script (act_of c m e).next next (suc events) n q → gone_on c script m at events room ≡ prefixed (line_of (suc events) (act_of c m e)) q → Gone c script m at events room (gone_on c script m at events room)
    gone_one q n g d =
        let f = o.forward in
        let a = g.ahead in
        let i = g.inside o.inside in
        rw d
        (record {
          told = rw (append_assoc, g.told, rest_found);
          last = g.last ∙ last_found;
          sound = g.sound;
          counted = λ k. g.counted (omega arith);
          ahead = omega arith;
          inside = λ _. i;
          moves = λ _. inr (omega arith, i);
        })

  -- what stands at the offset decides
  gone_by : Bytes script → ((e : Event) (next : ℕ) → One script at e next → line_room ≤ room → Gone c script m at events room (gone_on c script m at events room)) → Gone c script m at events room (gone_on c script m at events room)
  gone_by small first = fit (leb line_room room) refl
    where
      seen : line_room ≤ room → View script at → Gone c script m at events room (gone_on c script m at events room)
      seen h (over n) = gone_over h n
      seen h (one e next o) = first e next o h

      fit : (b : Bool) → leb line_room room ≡ b → Gone c script m at events room (gone_on c script m at events room)
      fit false q = gone_none (leb-false line_room room q)
      fit true q = seen (leb-true line_room room q) (view script small at)

module _ {script : List ℕ} {at : ℕ} {e : Event} {next : ℕ} (o : One script at e next) where
  event_first : (es : List Event) → (script_at script at).events ≡ es → e ∷ (script_at script next).events ≡ es
  event_first es d = sym (ap (λ (s : Script). s.events) o.rest) ∙ d

  some_event : (script_at script at).events ≡ [] → ⊥
  some_event d = let f = event_first [] d in let z : ◌≡◌ {A = ℕ} 0 1 = cc in omega arith

  events_after : (x : Event) (es : List Event) → (script_at script at).events ≡ x ∷ es → (script_at script next).events ≡ es
  events_after x es d = let f = event_first (x ∷ es) d in cc

gone : {c : Chip} {script : List ℕ} → T (fits c) → Bytes script → (es : List Event) {m : Model} (at events room : ℕ) → (script_at script at).events ≡ es → Sound c m → Gone c script m at events room (gone_on c script m at events room)
gone f small [] at events room d s = gone_by f s at events room small (λ e next o h. absurd (some_event o d))
gone {c} {script} f small (x ∷ es) {m} at events room d s =
    gone_by f s at events room small
    (λ e next o h. gone_one f s at events room h e next o _ _ (gone f small es {m = (act_of c m e).next} next (suc events) _ (events_after o x es d) (act_sound s e)) (gone_next c script m at events room e next o f s h))

-- ---- a call

usable_true : (c : Chip) (m : Model) (p : Course) → Usable c m p → is_usable c m p ≡ true
unfolding is_usable
usable_true c m p u = rw (T_true (is_sound c m) (sound_of u.sound), le-leb p.events p.at u.counted)
  where
    T_true : (b : Bool) → T b → b ≡ true
    T_true true t = refl
    T_true false t = absurd t

puts_text : {text old : List ℕ} {next : ℕ} {new : List ℕ} → Puts 0 text old next new → take next new ≡ text
unfolding written
puts_text {text} {old} {next} p = ap (take next) p.bytes ∙ take_at text (drop (0 + length text) old) next (omega (arith, p.next_is))

-- what a call that can be made hands on
pub record Onward (c : Chip) (script : List ℕ) (m : Model) (p : Course) (t : Model) (r : Course) (piece : List ℕ) : Type 0 where
  pub told : piece ++ rest_of c script t r ≡ rest_of c script m p
  pub last : last_of c script r.ended t r.at ≡ last_of c script p.ended m p.at
  pub usable : Usable c t r

-- on a chip that does not fit nothing moves
run_still : (c : Chip) → fits c ≡ false → (m : Model) (es : List Event) → run_of c m es ≡ m
run_still c f m [] = refl
run_still c f m (e ∷ es) = ap (λ (a : Answer). run_of c a.next es) (misfit_first c m e f) ∙ run_still c f m es

module _ {c : Chip} {script : List ℕ} (small : Bytes script) {m : Model} {p : Course} {old : List ℕ} {t : Model} {r : Course} {new : List ℕ} (n : Ran c script m p old t r new) where
  abbrev room : ℕ
  room = length old

  abbrev piece : Piece
  piece = piece_of c script m p room

  -- goes on, which is what a call does on a chip that fits where the script is too long or the course usable
  module _ (e : p.ended ≡ false) (f : T (fits c)) where
    piece_on : Usable c m p → piece ≡ gone_on c script m p.at p.events room
    piece_on u = size (ltb 65536 (length script)) refl
      where
        size : (b : Bool) → ltb 65536 (length script) ≡ b → piece ≡ gone_on c script m p.at p.events room
        size true q = piece_long c script m p room e f (ltb-true 65536 (length script) q)
        size false q = piece_usable c script m p room e f (ltb-false 65536 (length script) q) (usable_true c m p u)

  module _ (u : Usable c m p) where
    abbrev Next : Piece → Type 0
    Next q = Onward c script m p q.model (course_of q) q.text

    onward_unadmitted : p.ended ≡ false → fits c ≡ false → (b : Bool) → leb line_room room ≡ b → Next (unadmitted m p room)
    unfolding rest_of rest_text admitted_text last_of
    onward_unadmitted e f true q =
        rw q (record { told = rw (e, f, append-nil); last = rw e (sym (run_still c f m (script_at script p.at).events)); usable = record { sound = u.sound; counted = u.counted } })
    onward_unadmitted e f false q =
        rw q (record { told = rw e; last = rw e; usable = record { sound = u.sound; counted = u.counted } })

    onward_fits : p.ended ≡ false → (b : Bool) → fits c ≡ b → Next piece
    unfolding rest_of
    onward_fits e false f = rw (piece_unadmitted c script m p room e f) (onward_unadmitted e f (leb line_room room) refl)
    onward_fits e true f =
        let t = is_true f in
        let g = gone t small (script_at script p.at).events p.at p.events room refl u.sound in
        rw (piece_on e t u) (record { told = rw e g.told; last = rw e g.last; usable = record { sound = g.sound; counted = g.counted u.counted } })

    onward_piece : (b : Bool) → p.ended ≡ b → Next piece
    unfolding rest_of
    onward_piece true e = rw (piece_ended c script m p room e) (record { told = rw e; last = rw e; usable = record { sound = u.sound; counted = u.counted } })
    onward_piece false e = onward_fits e (fits c) refl

    pub onward : Onward c script m p t r (take r.wrote new)
    onward = rw (puts_text n.bytes, n.model, n.course) (onward_piece p.ended refl)

  -- a script that has ended stays so
  pub ended_stays : p.ended ≡ true → r.ended ≡ true
  ended_stays e = rw (n.course, piece_ended c script m p room e)

  pub headway : line_room ≤ room → Moves (length script) p.at r.ended r.at
  headway h = rw n.course (ways p.ended refl)
    where
      Way : Piece → Type 0
      Way q = Moves (length script) p.at q.ended q.at

      tests : (b : Bool) → is_usable c m p ≡ b → p.ended ≡ false → T (fits c) → length script ≤ 65536 → Way piece
      tests true u e f k = rw (piece_usable c script m p room e f k u) ((gone f small (script_at script p.at).events p.at p.events room refl (usable_of c m p u).sound).moves h)
      tests false u e f k = rw (piece_refused c script m p room e f k u) (inl refl)

      sizes : (b : Bool) → ltb 65536 (length script) ≡ b → p.ended ≡ false → T (fits c) → Way piece
      sizes true q e f =
          let l = ltb-true 65536 (length script) q in
          rw (piece_long c script m p room e f l, gone_closed c script m p.at p.events room (rw (script_long script p.at l)) h) (inl refl)
      sizes false q e f = tests (is_usable c m p) refl e f (ltb-false 65536 (length script) q)

      fitting : (b : Bool) → fits c ≡ b → p.ended ≡ false → Way piece
      fitting true f e = sizes (ltb 65536 (length script)) refl e (is_true f)
      fitting false f e = rw (piece_unadmitted c script m p room e f) (inl (le-leb line_room room h))

      ways : (b : Bool) → p.ended ≡ b → Way piece
      ways true e = rw (piece_ended c script m p room e) (inl refl)
      ways false e = fitting (fits c) refl e

-- ---- a caller's loop

-- how many calls there may be yet, with so many bytes ahead
abbrev pub left : Bool → ℕ → ℕ
left true ahead = 0
left false ahead = suc ahead

pub left_falls : (was is : Bool) (n a b : ℕ) → not was ≡ true → Moves n a is b → left is (n - b) < left was (n - a)
left_falls true is n a b e w = let z : ◌≡◌ {A = ℕ} 0 1 = cc in let x : ⊥ = omega arith in absurd x
left_falls false true n a b e w = omega arith
left_falls false false n a b e (inl d) = let z : ◌≡◌ {A = ℕ} 0 1 = cc in let x : ⊥ = omega arith in absurd x
left_falls false false n a b e (inr w) = omega (arith, w.0, w.1)
