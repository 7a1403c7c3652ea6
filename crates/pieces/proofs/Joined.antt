-- From call to call what is written, followed by what is left, stays the same; and each call with room for a line passes a byte or more.
use Prim.Native.Nat.{ℕ, suc, ◌+◌, ◌≤◌, ◌<◌}
use mathlib.Core.Path.{◌≡◌, refl, sym, ◌∙◌}
use mathlib.Core.Logic.{inl, inr}
use mathlib.Core.List.{List, append_assoc, append-nil}
use mathlib.Core.Bool.{Bool, true}
use native.Mathlib.Omega.{arith}
use lib.ListN.{length}
use Rattle.script.specs.Script.{script_of}
use Rattle.numbers.specs.NumberLaws.{Bytes}
use Rattle.rules.specs.declared.Chip.{Chip}
use Rattle.rules.specs.Model.{Model, fresh}
use Rattle.rules.specs.Step.{run_of}
use Rattle.demand3.proofs.Steps.{sound_fresh}
use Rattle.text.specs.Text.{admitted_text, text_of}
use Rattle.pieces.specs.declared.Course.{Course}
use Rattle.pieces.specs.Pieces.{script_at, started, Usable, rest_text, rest_of}
use Rattle.pieces.specs.Joined.{Resumed, stop, call, joined, Roomy, Joined}
use Rattle.pieces.proofs.Headway.{last_of, Moves, Onward, onward, ended_stays, headway}

pub started_usable : (c : Chip) → Usable c (fresh c) (started c)
started_usable c = record { sound = sound_fresh c; counted = omega arith }

pub started_rest : (c : Chip) (script : List ℕ) → rest_of c script (fresh c) (started c) ≡ text_of c script
unfolding text_of rest_of rest_text admitted_text script_at script_of
started_rest c script = refl

started_last : (c : Chip) (script : List ℕ) → last_of c script (started c).ended (fresh c) (started c).at ≡ run_of c (fresh c) (script_of script).events
unfolding last_of script_at script_of
started_last c script = refl

-- so many calls from an offset on: the script has ended, or each passed a byte or more
data Far (size at calls : ℕ) (ended : Bool) (next : ℕ) : Type 0 where
  over : ended ≡ true → Far size at calls ended next
  passed : at + calls ≤ next → next ≤ size → Far size at calls ended next

far_on : {size at mid next calls : ℕ} {was is : Bool} → Moves size at was mid → (was ≡ true → is ≡ true) → (mid ≤ size → Far size mid calls is next) → Far size at (suc calls) is next
far_on (inl e) f g = over (f e)
far_on {size} {at} {mid} {next} {calls} {was} {is} (inr v) f g = more (g v.1)
  where
    more : Far size mid calls is next → Far size at (suc calls) is next
    more (over e) = over e
    more (passed w h) = passed (omega (arith, v.0)) h

far_end : {size at next calls : ℕ} {is : Bool} → Far size at calls is next → size < calls → is ≡ true
far_end (over e) h = e
far_end (passed w k) h = let z : ⊥ = omega arith in absurd z

module _ {c : Chip} {script : List ℕ} (small : Bytes script) where
  calls_onward : {m t : Model} {p r : Course} {outs pieces : List (List ℕ)} → Resumed c script m p outs pieces t r → Usable c m p → Onward c script m p t r (joined pieces)
  calls_onward stop u = record { told = refl; last = refl; usable = u }
  calls_onward (call n k) u =
      let o = onward small n u in
      let i = calls_onward k o.usable in
      record { told = rw (append_assoc, i.told) o.told; last = i.last ∙ o.last; usable = i.usable }

  calls_ended : {m t : Model} {p r : Course} {outs pieces : List (List ℕ)} → Resumed c script m p outs pieces t r → p.ended ≡ true → r.ended ≡ true
  calls_ended stop e = e
  calls_ended (call n k) e = calls_ended k (ended_stays small n e)

  calls_move : {m t : Model} {p r : Course} {outs pieces : List (List ℕ)} → Resumed c script m p outs pieces t r → Roomy outs → p.at ≤ length script → Far (length script) p.at (length outs) r.ended r.at
  calls_move stop w h = passed (omega arith) h
  calls_move (call n k) w h = far_on (headway small n w.0) (λ e. calls_ended k e) (λ i. calls_move k w.1 i)

  calls_end : {m t : Model} {p r : Course} {outs pieces : List (List ℕ)} → Resumed c script m p outs pieces t r → Roomy outs → length script < length outs → r.ended ≡ true
  calls_end stop w h = let z : ⊥ = omega arith in absurd z
  calls_end (call n k) w h = far_end (far_on (headway small n w.0) (λ e. calls_ended k e) (λ i. calls_move k w.1 i)) h

pub pieces_joined : (c : Chip) (script : List ℕ) → Bytes script → Joined c script
unfolding rest_of last_of
pieces_joined c script small = record {
  prefix = λ outs pieces t r k. (all k).told ∙ started_rest c script;
  whole = λ outs pieces t r k e. sym (append-nil _) ∙ rw e at ((all k).told ∙ started_rest c script);
  left = λ outs pieces t r k e. rw e at ((all k).last ∙ started_last c script);
  ends = λ m p outs pieces t r k w h. calls_end small k w h;
}
  where
    all : {t : Model} {r : Course} {outs pieces : List (List ℕ)} → Resumed c script (fresh c) (started c) outs pieces t r → Onward c script (fresh c) (started c) t r (joined pieces)
    all k = calls_onward small k (started_usable c)
