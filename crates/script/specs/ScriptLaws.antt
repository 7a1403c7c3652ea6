-- A script and its events are worth the same: a list of events is what its own script reads as, and a script that reads whole is
-- the script of its events.
use Rattle.std.specs.Prelude.{ℕ, zero, suc, ◌+◌, ◌≤◌, ◌≡◌, refl, List, [], ◌∷◌, ◌++◌, map, Result, Ok, Err, Bool, true, false, cond, length, ltb}
use Rattle.std.proofs.Common.{sym, ap, subst, ◌∙◌, append_assoc, append-nil, arith, length-append, lt-ltb, le-ltb, ltb-false}
use Rattle.std.proofs.Math.Seq.{drop-length}
use Rattle.refusals.specs.declared.Refusal.{Refusal}
use Rattle.refusals.specs.Refusals.{number_of}
use Rattle.script.specs.declared.Event.{Event}
use Rattle.script.specs.Event.{normal, Normal}
use Rattle.script.specs.EventLaws.{InRange, event_some, event_written, event_read}
use Rattle.numbers.specs.NumberLaws.{Bytes, Spells, spells_append, spells_nothing}
use Rattle.script.specs.Reading.{read_event}
use Rattle.script.specs.Script.{End, ended, broken_by, Script, whole, followed, script_from, script_of, bytes_of}
use Rattle.script.specs.Writing.{event_bytes}

unfoldable pub Each : (Event → Type 0) → List Event → Type 0
Each P [] = Unit {0}
Each P (e ∷ es) = P e × Each P es

-- ---- the script of a list of events

nothing_left : (bytes : List ℕ) (at count : ℕ) → length bytes ≤ at → script_from bytes at count ≡ whole []
unfolding script_from
nothing_left bytes at zero h = refl
nothing_left bytes at (suc count) h = simp (le-ltb at (length bytes) h)

written_from : (es : List Event) (pre : List ℕ) (count : ℕ) → Each InRange es → length (pre ++ bytes_of es) ≤ 65536 → length (bytes_of es) ≤ count → script_from (pre ++ bytes_of es) (length pre) count ≡ whole (map normal es)
unfolding Each bytes_of script_from followed
written_from [] pre count w h k = nothing_left (pre ++ []) (length pre) count (omega (arith, ap length (append-nil pre)))
written_from (e ∷ es) pre zero w h k =
    let z : ⊥ = omega (arith, event_some e, length-append (event_bytes e) (bytes_of es)) in absurd z
written_from (e ∷ es) pre (suc count) w h k =
    let some = event_some e in
    let sizes = length-append (event_bytes e) (bytes_of es) in
    let all = length-append pre (event_bytes e ++ bytes_of es) in
    let ih = simp (append_assoc, length-append) at (written_from es (pre ++ event_bytes e) count w.1 (rw append_assoc h) (omega arith)) in
    let more = lt-ltb (length pre) (length (pre ++ (event_bytes e ++ bytes_of es))) (omega arith) in
    simp (more, event_written e pre (bytes_of es) w.0 h, ih)

-- what a list of events reads back as: the events in normal form
pub script_written : (es : List Event) → Each InRange es → length (bytes_of es) ≤ 65536 → script_of (bytes_of es) ≡ whole (map normal es)
unfolding script_of
script_written es w h = simp (le-ltb 65536 (length (bytes_of es)) h) (written_from es [] (length (bytes_of es)) w h (omega arith))

normal_map : (es : List Event) → Each Normal es → map normal es ≡ es
unfolding Each
normal_map [] n = refl
normal_map (e ∷ es) n = rw (n.0, normal_map es n.1)

-- every list of events in normal form is the reading of its own script
pub script_own : (es : List Event) → Each InRange es → Each Normal es → length (bytes_of es) ≤ 65536 → script_of (bytes_of es) ≡ whole es
script_own es w n h = script_written es w h ∙ ap whole (normal_map es n)

-- ---- the events of a script

-- the offset where a script ends or breaks
unfoldable pub stop_at : List ℕ → End → ℕ
stop_at bytes ended = length bytes
stop_at bytes (broken_by number at) = at

-- The bytes from `at` to where the script stops are those of its events. Where it breaks, that event is refused by that number.
pub record ScriptRead (bytes : List ℕ) (at : ℕ) (s : Script) : Type 0 where
  pub spelled : Spells bytes at (bytes_of s.events) (stop_at bytes s.end)
  pub in_range : Each InRange s.events
  pub normal : Each Normal s.events
  pub refused : (number stop : ℕ) → s.end ≡ broken_by number stop → (r : Refusal) × ((read_event bytes stop ≡ Err r) × (number_of r ≡ number))

read_end : (bytes : List ℕ) (at : ℕ) → at ≡ length bytes → ScriptRead bytes at (whole [])
unfolding bytes_of Each stop_at
read_end bytes at e = record {
  spelled = subst (Spells bytes at []) e (spells_nothing bytes at);
  in_range = tt;
  normal = tt;
  refused = λ number stop q. let z : ◌≡◌ {A = ℕ} 0 1 = cc in let x : ⊥ = omega arith in absurd x;
}

read_from : (count : ℕ) (bytes : List ℕ) (at : ℕ) → Bytes bytes → at ≤ length bytes → length bytes ≤ at + count → ScriptRead bytes at (script_from bytes at count)
unfolding script_from followed bytes_of Each stop_at
read_from zero bytes at small h k = read_end bytes at (omega arith)
read_from (suc count) bytes at small h k =
    more (ltb at (length bytes)) refl (λ next. read_from count bytes next small)
  where
    one : (r : Result (Event × ℕ) Refusal) → read_event bytes at ≡ r → ((next : ℕ) → next ≤ length bytes → length bytes ≤ next + count → ScriptRead bytes next (script_from bytes next count)) → ScriptRead bytes at (followed at r (λ next. script_from bytes next count))
    one (Err r) p ih = record {
      spelled = spells_nothing bytes at;
      in_range = tt;
      normal = tt;
      refused = λ n stop q. let a : number_of r ≡ n = cc in let b : at ≡ stop = cc in (r, (rw (← b) p, a));
    }
    one (Ok (e, next)) p ih =
        let r = event_read bytes at e next small p in
        let f = r.forward in
        let i = r.inside in
        let s = ih next (omega arith) (omega arith) in
        let events = (script_from bytes next count).events in
        record {
          spelled = spells_append bytes at next _ (event_bytes e) (bytes_of events) r.spelled s.spelled;
          in_range = (r.in_range, s.in_range);
          normal = (r.normal, s.normal);
          refused = s.refused;
        }

    more : (b : Bool) → ltb at (length bytes) ≡ b → ((next : ℕ) → next ≤ length bytes → length bytes ≤ next + count → ScriptRead bytes next (script_from bytes next count)) → ScriptRead bytes at (cond b (followed at (read_event bytes at) (λ next. script_from bytes next count)) (whole []))
    more false p ih = read_end bytes at (omega (arith, ltb-false at (length bytes) p))
    more true p ih = one (read_event bytes at) refl ih

pub script_read : (bytes : List ℕ) → Bytes bytes → length bytes ≤ 65536 → ScriptRead bytes 0 (script_of bytes)
unfolding script_of
script_read bytes small h = rw (le-ltb 65536 (length bytes) h) (read_from (length bytes) bytes 0 small (omega arith) (omega arith))

-- a script that reads whole is the script of its events
pub script_spelling : (bytes : List ℕ) (es : List Event) → Bytes bytes → script_of bytes ≡ whole es → bytes ≡ bytes_of es
unfolding script_of stop_at
script_spelling bytes es small d = size (ltb 65536 (length bytes)) refl
  where
    size : (b : Bool) → ltb 65536 (length bytes) ≡ b → bytes ≡ bytes_of es
    size true p =
        let f = simp p at (ap (λ (s : Script). s.end) d) in
        let z : ◌≡◌ {A = ℕ} 0 1 = cc in let x : ⊥ = omega arith in absurd x
    size false p =
        let r = rw d at (script_read bytes small (ltb-false 65536 (length bytes) p)) in
        r.spelled.here ∙ rw drop-length (append-nil (bytes_of es))

-- two scripts that read whole as the same events are the same bytes
pub one_spelling : (a b : List ℕ) (es : List Event) → Bytes a → Bytes b → script_of a ≡ whole es → script_of b ≡ whole es → a ≡ b
one_spelling a b es p q d f = script_spelling a es p d ∙ sym (script_spelling b es q f)
