-- One turn of the loop over words, and the end of a frame as an offset.
use Prim.Native.Nat.{ℕ, ◌+◌, ◌-◌, ◌*◌, ◌≤◌, ◌<◌}
use mathlib.Core.Path.{◌≡◌, refl, sym, ◌∙◌}
use mathlib.Core.List.{List, [], ◌∷◌, ◌++◌}
use mathlib.Core.Bool.{Bool, true, false}
use native.Mathlib.Omega.{arith}
use native.Mathlib.Numerals.{add-one}
use lib.ListN.{length, get_or, take, drop, length-append, length-drop}
use lib.Seq.{sets, sets-eq, take_at, take-suc, length-take-le, drop-append-add, drop-drop}
use lib.Dec.{leb}
use borrow.Author.Tests.{leb-true, leb-false, le-leb, lt-leb}
use Rattle.frame.specs.Frame.{word_bytes, frame_bytes}
use Rattle.frame.specs.FrameLaws.{frame_append, frame_length}

pub by_offset : (base frame len : ℕ) → base ≤ frame → leb (frame - base + 32) len ≡ leb (frame + 32) (base + len)
by_offset base frame len h = cases (leb (frame - base + 32) len) refl
  where
    cases : (b : Bool) → leb (frame - base + 32) len ≡ b → leb (frame - base + 32) len ≡ leb (frame + 32) (base + len)
    cases true e = let k = leb-true (frame - base + 32) len e in e ∙ sym (le-leb (frame + 32) (base + len) (omega arith))
    cases false e = let k = leb-false (frame - base + 32) len e in e ∙ sym (lt-leb (frame + 32) (base + len) (omega arith))

pub frame_step : (words part : List ℕ) (k : ℕ) → length words ≡ 8 → length part ≡ 32 → k < 8 → sets (frame_bytes (take k words) ++ drop (4 * k) part) (4 * k) (word_bytes (get_or words k 0)) ≡ frame_bytes (take (k + 1) words) ++ drop (4 * (k + 1)) part
unfolding frame_bytes
frame_step words part k n h q =
    let f = frame_bytes (take k words) in
    let w = word_bytes (get_or words k 0) in
    let t : length (take k words) ≡ k = length-take-le k words (omega arith) in
    let l : length f ≡ 4 * k = frame_length (take k words) ∙ omega arith in
    let m : length (f ++ drop (4 * k) part) ≡ 32 = length-append f (drop (4 * k) part) ∙ simp (length-drop, l) (omega arith) in
    let d : drop (4 * k + 4) (f ++ drop (4 * k) part) ≡ drop (4 * k + 4) part = rw (← l) (drop-append-add f (drop (length f) part) 4 ∙ drop-drop 4 (length f) part) in
    let e : 4 * k + 4 ≡ 4 * (k + 1) = omega arith in
    let g : frame_bytes (take (k + 1) words) ≡ f ++ w = rw (add-one, take-suc words k 0 (omega arith)) (frame_append (take k words) (get_or words k 0 ∷ [])) in
    sets-eq w (f ++ drop (4 * k) part) (4 * k) (omega arith)
    ∙ rw (take_at f (drop (4 * k) part) (4 * k) l, d, e, g)
