-- What each way out of a call gives is what the call promises.
use Prim.Native.Nat.{ℕ, ◌-◌, ◌≤◌, ◌<◌}
use mathlib.Core.Path.{◌≡◌, refl, ap, ◌∙◌}
use mathlib.Core.List.{List, [], ◌++◌, append-nil}
use mathlib.Core.Bool.{Bool, true, false, cond}
use native.Mathlib.Omega.{arith}
use lib.ListN.{length}
use lib.Dec.{T, leb, leb→le}
use borrow.Author.Tests.{lt-ltb, le-ltb, le-leb, lt-leb, leb-true, leb-false}
use Rattle.refusals.specs.declared.Refusal.{Refusal}
use Rattle.refusals.specs.Refusals.{number_of}
use Rattle.bools.specs.Tests.{is_true, true_is, both}
use Rattle.decimal.specs.Decimal.{broken_text, line_room}
use Rattle.decimal.specs.Written.{Puts, puts_append}
use Rattle.rules.specs.declared.Chip.{Chip}
use Rattle.rules.specs.declared.Core.{Core}
use Rattle.rules.specs.Chip.{fits}
use Rattle.rules.specs.Model.{Model}
use Rattle.rules.specs.Sound.{is_sound}
use Rattle.demand3.proofs.Check.{of_sound}
use Rattle.text.specs.Text.{end_text}
use Rattle.pieces.specs.declared.Course.{Course}
use Rattle.pieces.specs.Pieces.{script_at, is_usable, Usable, Piece, gone_on, line_alone, unadmitted, stopped, piece_of, course_of, Ran}
use Rattle.pieces.specs.Steps.{unmoved, refused, going, finished, Underway, Unrun, Stuck, Closed}
use Rattle.pieces.proofs.Laws.{script_end, script_refused, script_long}
use Rattle.pieces.proofs.Pieces.{prefixed, still, gone_full, gone_closed}
use Rattle.pieces.proofs.Loop.{puts_length, puts_none, Going}

-- ---- a course that is usable

pub usable_of : (c : Chip) (m : Model) (p : Course) → is_usable c m p ≡ true → Usable c m p
unfolding is_usable
usable_of c m p e =
    let b = both (is_sound c m) (leb p.events p.at) (is_true e) in
    record { sound = of_sound c m b.0; counted = leb→le p.events p.at b.1 }

-- ---- which piece it is

module _ (c : Chip) (script : List ℕ) (m : Model) (p : Course) (room : ℕ) where
  pub piece_ended : p.ended ≡ true → piece_of c script m p room ≡ stopped p.refusal m p
  unfolding piece_of
  piece_ended e = rw e

  pub piece_unadmitted : p.ended ≡ false → fits c ≡ false → piece_of c script m p room ≡ unadmitted m p room
  unfolding piece_of
  piece_unadmitted e f = rw (e, f)

  module _ (e : p.ended ≡ false) (f : T (fits c)) where
    pub piece_long : 65536 < length script → piece_of c script m p room ≡ gone_on c script m p.at p.events room
    unfolding piece_of
    piece_long h = rw (e, true_is (fits c) f, lt-ltb 65536 (length script) h)

    pub piece_usable : length script ≤ 65536 → is_usable c m p ≡ true → piece_of c script m p room ≡ gone_on c script m p.at p.events room
    unfolding piece_of
    piece_usable h u = simp (e, true_is (fits c) f, le-ltb 65536 (length script) h, u)

    pub piece_refused : length script ≤ 65536 → is_usable c m p ≡ false → piece_of c script m p room ≡ stopped 16 m p
    unfolding piece_of
    piece_refused h u = simp (e, true_is (fits c) f, le-ltb 65536 (length script) h, u)

-- a script that is too long: its line, where it has room
gone_long : (c : Chip) (script : List ℕ) (m : Model) (p : Course) (room : ℕ) → 65536 < length script → (b : Bool) → leb line_room room ≡ b → gone_on c script m p.at p.events room ≡ still b m p.at p.events (cond b (broken_text 15 65536) [])
unfolding end_text
gone_long c script m p room long true q =
    let s = script_long script p.at long in
    gone_closed c script m p.at p.events room (rw s) (leb-true line_room room q) ∙ rw s
gone_long c script m p room long false q = gone_full c script m p.at p.events room (leb-false line_room room q)

-- ---- ways out

module _ {c : Chip} {script : List ℕ} {m : Model} {p : Course} {old : List ℕ} where
  -- a piece in plain sight
  ran_by : (q : Piece) → piece_of c script m p (length old) ≡ q → (r : Course) → r ≡ course_of q → (new : List ℕ) → Puts 0 q.text old r.wrote new → r.wrote ≤ length old → Ran c script m p old q.model r new
  ran_by q e r d new w h = record { model = rw e; course = rw e d; bytes = rw e w; within = omega (arith, puts_length w h) }

  pub ran_ended : p.ended ≡ true → p.core ≡ m.core → Ran c script m p old m (unmoved p) old
  ran_ended e k = ran_by _ (piece_ended c script m p (length old) e) _ (rw (e, k)) old (puts_none 0 old) (omega arith)

  pub ran_refused : p.ended ≡ false → T (fits c) → length script ≤ 65536 → is_usable c m p ≡ false → p.core ≡ m.core → Ran c script m p old m (refused p) old
  ran_refused e f h u k = ran_by _ (piece_refused c script m p (length old) e f h u) _ (rw k) old (puts_none 0 old) (omega arith)

-- What a call does hangs on no core but the model's.
pub ran_with : {c : Chip} {script : List ℕ} {m : Model} {p : Course} {old : List ℕ} {t : Model} {r : Course} {new : List ℕ} (k : Core) → Ran c script m (record { core = k; at = p.at; events = p.events; wrote = p.wrote; ended = p.ended; refusal = p.refusal }) old t r new → Ran c script m p old t r new
unfolding piece_of is_usable
ran_with k h = record { model = h.model; course = h.course; bytes = h.bytes; within = h.within }

-- a call of which no event runs
module _ {c : Chip} {script : List ℕ} {m : Model} {p : Course} {old : List ℕ} {r : Course} {new : List ℕ} where
  unrun_by : {refusal number offset : ℕ} → p.core ≡ m.core → piece_of c script m p (length old) ≡ record { model = m; at = p.at; events = p.events; ended = leb line_room (length old); refusal = refusal; text = line_alone number offset (length old) } → Unrun p refusal number offset old r new → Ran c script m p old m r new
  unrun_by k q n = ran_by _ q r (rw k at n.course) new n.puts n.within

  pub ran_unadmitted : p.core ≡ m.core → p.ended ≡ false → fits c ≡ false → Unrun p 17 17 0 old r new → Ran c script m p old m r new
  ran_unadmitted k e f n = unrun_by k (piece_unadmitted c script m p (length old) e f) n

  pub ran_long : p.core ≡ m.core → p.ended ≡ false → T (fits c) → 65536 < length script → Unrun p 0 15 65536 old r new → Ran c script m p old m r new
  ran_long k e f long n = unrun_by k (piece_long c script m p (length old) e f long ∙ gone_long c script m p (length old) long (leb line_room (length old)) refl) n

-- a run of which no event runs: no room for its line, and its line
module _ {p : Course} {number offset : ℕ} {old : List ℕ} where
  pub unrun_full : length old < line_room → Unrun p 0 number offset old (going p.core p.at p.events 0) old
  unrun_full h = let e = lt-leb line_room (length old) h in record { course = rw e; puts = rw e (puts_none 0 old); within = omega arith }

  pub unrun_line : line_room ≤ length old → (wrote : ℕ) (new : List ℕ) → Puts 0 (broken_text number offset) old wrote new → wrote ≤ length old → Unrun p 0 number offset old (finished p wrote) new
  unrun_line h wrote new w l =
      let e = le-leb line_room (length old) h in
      let n = w.next_is in
      let d : wrote ≡ length (broken_text number offset) = omega arith in
      record { course = rw (e, d); puts = rw e w; within = l }

  -- .. with a refusal
  pub unrun_refused : {r : Course} {new : List ℕ} → Unrun p 0 number offset old r new → (n : ℕ) → Unrun p n number offset old (record { core = r.core; at = r.at; events = r.events; wrote = r.wrote; ended = r.ended; refusal = n }) new
  unrun_refused h n =
      record {
        course = ap (λ (x : Course). record { core = x.core; at = x.at; events = x.events; wrote = x.wrote; ended = x.ended; refusal = n }) h.course;
        puts = h.puts;
        within = h.within;
      }

-- where no event can be read: at the end, and before it
module _ {script : List ℕ} {p : Course} {refusal : Refusal} {out : List ℕ} (k : Stuck script p refusal out) where
  pub closed_end : length script ≤ p.at → Closed script p out (finished p p.wrote) out
  unfolding end_text
  closed_end h =
      let s = script_end script k.short p.at h in
      record { none = rw s; done = refl; puts = rw s (puts_none p.wrote out); within = omega (arith, k.room) }

  pub closed_broken : p.at < length script → (wrote : ℕ) (new : List ℕ) → Puts p.wrote (broken_text (number_of refusal) p.at) out wrote new → wrote ≤ length out → Closed script p out (finished p wrote) new
  unfolding end_text
  closed_broken h wrote new w l =
      let s = script_refused script k.short p.at refusal h k.refused in
      record { none = rw s; done = refl; puts = rw s w; within = l }

module _ {c : Chip} {script : List ℕ} {m : Model} {p : Course} {old : List ℕ} {t : Model} {at events wrote : ℕ} {new : List ℕ} (y : Underway c script m p) (g : Going c script m p.at p.events old t at events wrote new) where
  on_from : piece_of c script m p (length old) ≡ prefixed g.lines (gone_on c script t at events (length old - wrote))
  on_from = piece_usable c script m p (length old) y.going y.fit y.short y.tested ∙ g.whole

  -- no room for another line
  pub ran_full : length old - wrote < line_room → Ran c script m p old t (going t.core at events wrote) new
  ran_full h =
      let q : piece_of c script m p (length old) ≡ still false t at events g.lines = on_from ∙ rw (gone_full c script t at events (length old - wrote) h, append-nil) in
      let n = g.puts.next_is in
      let d : wrote ≡ length g.lines = omega arith in
      ran_by _ q _ (rw d) new g.puts g.within

  -- the script is at its end, or broken
  pub ran_closed : line_room ≤ length old - wrote → (r : Course) (newer : List ℕ) → Closed script (going t.core at events wrote) new r newer → Ran c script m p old t r newer
  ran_closed h r newer d =
      let z = g.sized in
      let n = puts_append (omega arith) g.puts d.puts in
      let q : piece_of c script m p (length old) ≡ still true t at events (g.lines ++ end_text (script_at script at).end) = on_from ∙ rw (gone_closed c script t at events (length old - wrote) d.none h) in
      let l : r.wrote ≡ length (g.lines ++ end_text (script_at script at).end) = omega (arith, n.next_is) in
      ran_by _ q r (d.done ∙ rw l) newer n (omega (arith, d.within))
