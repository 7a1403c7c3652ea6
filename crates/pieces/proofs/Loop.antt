-- The loop's invariant: the lines so far and what a call does from here are what the call does.
use Prim.Native.Nat.{ℕ, ◌+◌, ◌-◌, ◌≤◌}
use mathlib.Core.Path.{◌≡◌, refl, sym, ap, ◌∙◌}
use mathlib.Core.List.{List, [], ◌++◌, append_assoc}
use native.Mathlib.Nat.{sub-zero}
use native.Mathlib.Numerals.{add-one}
use native.Mathlib.Omega.{arith}
use lib.ListN.{length}
use lib.Dec.{T}
use lib.IntN.{ℤ}
use Rattle.decimal.specs.Decimal.{line_text, line_room}
use Rattle.decimal.specs.Written.{written_nil, written_length, Puts, puts_append}
use Rattle.script.specs.declared.Event.{Event}
use Rattle.rules.specs.declared.Chip.{Chip}
use Rattle.rules.specs.Chip.{fits}
use Rattle.rules.specs.Model.{Model, Answer, stack, top}
use Rattle.rules.specs.Priorities.{execution}
use Rattle.rules.specs.Sound.{Sound}
use Rattle.rules.specs.Step.{act_of}
use Rattle.demand3.proofs.Steps.{act_sound}
use Rattle.text.specs.Text.{line_of}
use Rattle.pieces.specs.Pieces.{gone_on}
use Rattle.pieces.proofs.Laws.{One}
use Rattle.pieces.proofs.Pieces.{prefixed, gone_next}

pub puts_length : {at next : ℕ} {text old new : List ℕ} → Puts at text old next new → next ≤ length old → length new ≡ length old
puts_length {at} {next} {text} {old} p k = ap length p.bytes ∙ written_length at text old (omega (arith, p.next_is))

pub puts_none : (at : ℕ) (old : List ℕ) → Puts at [] old at old
puts_none at old = record { next_is = omega arith; bytes = sym (written_nil at old) }

-- From the model m₀, so many events and that offset a call has come so far: it wrote `lines`.
pub record Going (c : Chip) (script : List ℕ) (m₀ : Model) (at₀ events₀ : ℕ) (old : List ℕ) (m : Model) (at events wrote : ℕ) (new : List ℕ) : Type 0 where
  pub lines : List ℕ
  pub puts : Puts 0 lines old wrote new
  pub whole : gone_on c script m₀ at₀ events₀ (length old) ≡ prefixed lines (gone_on c script m at events (length old - wrote))
  pub within : wrote ≤ length old
  pub sized : length new ≡ length old
  pub sound : Sound c m
  pub counted : events ≤ at

pub going_first : (c : Chip) (script : List ℕ) (m : Model) (at events : ℕ) (old : List ℕ) → Sound c m → events ≤ at → Going c script m at events old m at events 0 old
going_first c script m at events old s h = record {
  lines = [];
  puts = puts_none 0 old;
  whole = rw (sub-zero (length old));
  within = omega arith;
  sized = refl;
  sound = s;
  counted = h;
}

module _ {c : Chip} {script : List ℕ} {m₀ : Model} {at₀ events₀ : ℕ} {old : List ℕ} {m : Model} {at events wrote : ℕ} {new : List ℕ} (g : Going c script m₀ at₀ events₀ old m at events wrote new) where
  -- one event: a is its answer, t and x the top and the execution priority after it
  pub going_next : T (fits c) → (e : Event) (next : ℕ) → One script at e next → (a : Answer) → a ≡ act_of c m e → (t : ℕ) → t ≡ top (stack a.next) → (x : ℤ) → x ≡ execution a.next → (end : ℕ) (newer : List ℕ) → wrote + line_room ≤ length new → Puts wrote (line_text (events + 1) a.refusal a.value t x) new end newer → end ≤ wrote + line_room → Going c script m₀ at₀ events₀ old a.next next (events + 1) end newer
  unfolding line_of
  going_next fit e next o a q t tq x xq end newer room w h =
      let z = g.sized in
      let n = w.next_is in
      let b = g.counted in
      let f = o.forward in
      let line = line_text (events + 1) a.refusal a.value t x in
      let step : gone_on c script m at events (length old - wrote) ≡ prefixed line (gone_on c script a.next next (events + 1) (length old - wrote - length line))
      = rw (tq, xq, q, add-one) (gone_next c script m at events (length old - wrote) e next o fit g.sound (omega arith)) in
      let left : length old - wrote - length line ≡ length old - end = omega arith in
      record {
        lines = g.lines ++ line;
        puts = puts_append (omega arith) g.puts w;
        whole = g.whole ∙ ap (prefixed g.lines) step ∙ rw (append_assoc, left);
        within = omega arith;
        sized = puts_length w (omega arith) ∙ z;
        sound = rw q (act_sound g.sound e);
        counted = omega arith;
      }
