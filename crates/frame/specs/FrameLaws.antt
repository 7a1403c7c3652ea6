-- The bytes of a frame, and what writing one leaves of a window.
use Rattle.std.specs.Prelude.{ℕ, zero, suc, ◌+◌, ◌-◌, ◌*◌, ◌^◌, ◌≤◌, ◌<◌, ◌≡◌, refl, List, [], ◌∷◌, ◌++◌, get_or, take}
use Rattle.std.proofs.Common.{sym, ap, ◌∙◌, add-zero, add_assoc, length-append, length-take-le, take_at, drop_at, get_or-drop}
use native.Mathlib.Omega.{arith}
use Rattle.std.proofs.Math.ListN.{length, drop, length-drop, get_or-append}
use Rattle.std.proofs.Math.Seq.{get_or-take, get_or-append-add}
use Rattle.bits.specs.WordLaws.{word_of_its_bytes}
use Rattle.frame.specs.declared.Words.{Words}
use Rattle.frame.specs.Frame.{listed, word_bytes, frame_bytes, written, word_at, words_at}

pub frame_length : (ws : List ℕ) → length (frame_bytes ws) ≡ 4 * length ws
unfolding frame_bytes
frame_length [] = refl
frame_length (w ∷ ws) = omega (arith, frame_length ws)

pub frame_append : (vs ws : List ℕ) → frame_bytes (vs ++ ws) ≡ frame_bytes vs ++ frame_bytes ws
unfolding frame_bytes
frame_append [] ws = refl
frame_append (v ∷ vs) ws = ap (λ (l : List ℕ). word_bytes v ++ l) (frame_append vs ws)

-- word k of a frame's bytes is word k
frame_word : (ws : List ℕ) (k : ℕ) → k < length ws → get_or ws k 0 < 2 ^ 32 → word_at (frame_bytes ws) (4 * k) ≡ get_or ws k 0
unfolding word_at frame_bytes
frame_word [] k h l = let z : ⊥ = omega arith in absurd z
frame_word (w ∷ ws) zero h l = word_of_its_bytes w l
frame_word (w ∷ ws) (suc k) h l =
    let e0 : 4 * suc k ≡ suc (suc (suc (suc (4 * k)))) = omega arith in
    let e1 : suc (suc (suc (suc (4 * k)))) + 1 ≡ suc (suc (suc (suc (4 * k + 1)))) = omega arith in
    let e2 : suc (suc (suc (suc (4 * k)))) + 2 ≡ suc (suc (suc (suc (4 * k + 2)))) = omega arith in
    let e3 : suc (suc (suc (suc (4 * k)))) + 3 ≡ suc (suc (suc (suc (4 * k + 3)))) = omega arith in
    rw (e0, e1, e2, e3) (frame_word ws k (omega arith) l)

-- a word read in a part of 32 bytes
word_in_part : (s : List ℕ) (at n : ℕ) → n + 4 ≤ 32 → word_at (take 32 (drop at s)) n ≡ word_at s (at + n)
unfolding word_at
word_in_part s at n h = simp (byte n (omega arith), byte (n + 1) (omega arith), byte (n + 2) (omega arith), byte (n + 3) (omega arith), add_assoc)
  where
    byte : (i : ℕ) → i < 32 → get_or (take 32 (drop at s)) i 0 ≡ get_or s (at + i) 0
    byte i k = get_or-take 32 (drop at s) i 0 k ∙ get_or-drop at s i 0

-- every word is below 2 ^ 32, as a u32 is
pub record Fit (w : Words) : Type 0 where
  pub r0 : w.r0 < 2 ^ 32
  pub r1 : w.r1 < 2 ^ 32
  pub r2 : w.r2 < 2 ^ 32
  pub r3 : w.r3 < 2 ^ 32
  pub r12 : w.r12 < 2 ^ 32
  pub lr : w.lr < 2 ^ 32
  pub pc : w.pc < 2 ^ 32
  pub xpsr : w.xpsr < 2 ^ 32

-- eight words whose bytes stand in the window read back
pub words_back : (window : List ℕ) (at : ℕ) (w : Words) → Fit w → take 32 (drop at window) ≡ frame_bytes (listed w) → words_at window at ≡ w
words_back window at w fit e =
    simp (
      rw add-zero at (word 0 (omega arith) fit.r0),
      word 1 (omega arith) fit.r1,
      word 2 (omega arith) fit.r2,
      word 3 (omega arith) fit.r3,
      word 4 (omega arith) fit.r12,
      word 5 (omega arith) fit.lr,
      word 6 (omega arith) fit.pc,
      word 7 (omega arith) fit.xpsr,
    )
  where
    word : (k : ℕ) → k < 8 → get_or (listed w) k 0 < 2 ^ 32 → word_at window (at + 4 * k) ≡ get_or (listed w) k 0
    word k h small =
        sym (word_in_part window at (4 * k) (omega arith))
        ∙ ap (λ (l : List ℕ). word_at l (4 * k)) e
        ∙ frame_word (listed w) k h small

module _ (window : List ℕ) (at : ℕ) (words : Words) (room : at + 32 ≤ length window) where
  front : length (take at window) ≡ at
  front = length-take-le at window (omega arith)

  bytes : length (frame_bytes (listed words)) ≡ 32
  bytes = frame_length (listed words)

  pub length_written : length (written window at words) ≡ length window
  unfolding written
  length_written = simp (length-append, length-drop, front, bytes) (omega arith)

  pub written_there : take 32 (drop at (written window at words)) ≡ frame_bytes (listed words)
  unfolding written
  written_there = rw (drop_at (take at window) (frame_bytes (listed words) ++ drop (at + 32) window) at front) (take_at (frame_bytes (listed words)) (drop (at + 32) window) 32 bytes)

  -- every other byte stays
  pub written_below : (i : ℕ) → i < at → get_or (written window at words) i 0 ≡ get_or window i 0
  unfolding written
  written_below i h =
      get_or-append (take at window) (frame_bytes (listed words) ++ drop (at + 32) window) 0 i (omega (arith, front))
      ∙ get_or-take at window i 0 h

  pub written_above : (i : ℕ) → at + 32 ≤ i → get_or (written window at words) i 0 ≡ get_or window i 0
  unfolding written
  written_above i h =
      let f = front in
      let b = bytes in
      let j = i - (at + 32) in
      let e : length (take at window) + (length (frame_bytes (listed words)) + j) ≡ i = omega arith in
      let g : at + 32 + j ≡ i = omega arith in
      rw e at (get_or-append-add (take at window) (frame_bytes (listed words) ++ drop (at + 32) window) (length (frame_bytes (listed words)) + j) 0)
      ∙ get_or-append-add (frame_bytes (listed words)) (drop (at + 32) window) j 0
      ∙ rw g at (get_or-drop (at + 32) window j 0)
