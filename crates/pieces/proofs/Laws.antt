-- A script from an offset on is its next event and the script after that, or no event and how it ends.
use Prim.Native.Nat.{ℕ, zero, suc, ◌+◌, ◌≤◌, ◌<◌}
use mathlib.Core.Path.{◌≡◌, refl, sym, ap, ◌∙◌}
use mathlib.Core.List.{List, [], ◌∷◌}
use mathlib.Core.Bool.{Bool, true, false}
use native.Mathlib.Omega.{arith}
use Rattle.std.specs.Prelude.{Result, Ok, Err}
use lib.ListN.{length}
use lib.Dec.{ltb, leb}
use borrow.Author.Tests.{lt-ltb, le-ltb, ltb-true, ltb-false, leb-true, leb-false}
use Rattle.script.specs.declared.Event.{Event}
use Rattle.refusals.specs.declared.Refusal.{Refusal}
use Rattle.refusals.specs.Refusals.{number_of}
use Rattle.script.specs.EventLaws.{event_read}
use Rattle.numbers.specs.NumberLaws.{Bytes}
use Rattle.script.specs.Reading.{read_event}
use Rattle.script.specs.Script.{Script, whole, broken_by, followed, script_from}
use Rattle.pieces.specs.Pieces.{script_at}

module _ (script : List ℕ) where
  nothing_left : (at count : ℕ) → length script ≤ at → script_from script at count ≡ whole []
  unfolding script_from
  nothing_left at zero h = refl
  nothing_left at (suc count) h = simp (le-ltb at (length script) h)

  -- an event takes a byte or more, so a count that reaches the end is as good as any other
  enough : (small : Bytes script) (a b at : ℕ) → length script ≤ at + a → length script ≤ at + b → script_from script at a ≡ script_from script at b
  unfolding script_from followed
  enough small zero b at h k = sym (nothing_left at b (omega arith))
  enough small (suc a) zero at h k = nothing_left at (suc a) (omega arith)
  enough small (suc a) (suc b) at h k = cases (read_event script at) refl (λ next l. enough small a b next (omega arith) (omega arith))
    where
      cases : (r : Result (Event × ℕ) Refusal) → read_event script at ≡ r → ((next : ℕ) → at < next → script_from script next a ≡ script_from script next b) → script_from script at (suc a) ≡ script_from script at (suc b)
      cases (Err r) p ih = rw p
      cases (Ok (e, next)) p ih = let l = (event_read script at e next small p).forward in rw (p, ih next l)

module _ (script : List ℕ) (short : length script ≤ 65536) where
  at_short : (at : ℕ) → script_at script at ≡ script_from script at (length script)
  unfolding script_at
  at_short at = simp (le-ltb 65536 (length script) short)

  -- the first step, where the script is not at its end
  unrolled : (at n : ℕ) → length script ≡ suc n → at < length script → script_at script at ≡ followed at (read_event script at) (λ next. script_from script next n)
  unfolding script_from
  unrolled at n e h = at_short at ∙ rw e (simp (lt-ltb at (length script) h))

  pub script_end : (at : ℕ) → length script ≤ at → script_at script at ≡ whole []
  script_end at h = at_short at ∙ nothing_left script at (length script) h

  pub script_refused : (at : ℕ) (r : Refusal) → at < length script → read_event script at ≡ Err r → script_at script at ≡ record { events = []; end = broken_by (number_of r) at }
  unfolding followed
  script_refused at r h p = go (length script) refl
    where
      go : (n : ℕ) → length script ≡ n → script_at script at ≡ record { events = []; end = broken_by (number_of r) at }
      go zero e = let z : ⊥ = omega arith in absurd z
      go (suc n) e = unrolled at n e h ∙ rw p

  pub script_found : (small : Bytes script) (at : ℕ) (event : Event) (next : ℕ) → read_event script at ≡ Ok (event, next) → script_at script at ≡ record { events = event ∷ (script_at script next).events; end = (script_at script next).end }
  unfolding followed
  script_found small at event next p = go (length script) refl
    where
      go : (n : ℕ) → length script ≡ n → script_at script at ≡ record { events = event ∷ (script_at script next).events; end = (script_at script next).end }
      go zero e = let r = event_read script at event next small p in let f = r.forward in let i = r.inside in let z : ⊥ = omega arith in absurd z
      go (suc n) e =
          let r = event_read script at event next small p in
          let f = r.forward in
          let i = r.inside in
          let rest : script_at script next ≡ script_from script next n = at_short next ∙ enough script small (length script) n next (omega arith) (omega arith) in
          unrolled at n e (omega arith) ∙ rw (p, rest)

-- a script that is too long
pub script_long : (script : List ℕ) (at : ℕ) → 65536 < length script → script_at script at ≡ record { events = []; end = broken_by 15 65536 }
unfolding script_at
script_long script at h = simp (lt-ltb 65536 (length script) h)

-- ---- what stands at an offset

pub record One (script : List ℕ) (at : ℕ) (e : Event) (next : ℕ) : Type 0 where
  pub found : read_event script at ≡ Ok (e, next)
  pub forward : at < next
  pub inside : next ≤ length script
  pub rest : script_at script at ≡ record { events = e ∷ (script_at script next).events; end = (script_at script next).end }

pub one_of : (script : List ℕ) → length script ≤ 65536 → Bytes script → (at : ℕ) (e : Event) (next : ℕ) → read_event script at ≡ Ok (e, next) → One script at e next
one_of script short small at e next p =
    let r = event_read script at e next small p in
    let i = r.inside in
    record { found = p; forward = r.forward; inside = omega arith; rest = script_found script short small at e next p }

pub data View (script : List ℕ) (at : ℕ) : Type 0 where
  over : (script_at script at).events ≡ [] → View script at
  one : (e : Event) (next : ℕ) → One script at e next → View script at

abbrev events_of : Script → List Event
events_of s = s.events

pub view : (script : List ℕ) → Bytes script → (at : ℕ) → View script at
view script small at = size (ltb 65536 (length script)) refl
  where
    ends : (b : Bool) → leb (length script) at ≡ b → length script ≤ 65536 → (r : Refusal) → read_event script at ≡ Err r → View script at
    ends true q short r p = over (ap events_of (script_end script short at (leb-true _ _ q)))
    ends false q short r p = over (ap events_of (script_refused script short at r (leb-false _ _ q) p))

    reads : length script ≤ 65536 → (r : Result (Event × ℕ) Refusal) → read_event script at ≡ r → View script at
    reads short (Err r) p = ends (leb (length script) at) refl short r p
    reads short (Ok (e, next)) p = one e next (one_of script short small at e next p)

    size : (b : Bool) → ltb 65536 (length script) ≡ b → View script at
    size true q = over (ap events_of (script_long script at (ltb-true 65536 (length script) q)))
    size false q = reads (ltb-false 65536 (length script) q) (read_event script at) refl
