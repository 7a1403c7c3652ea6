-- A text written into lent bytes from an offset: the bytes before it and after it stay.
use Rattle.std.specs.Prelude.{ℕ, suc, ◌+◌, ◌≤◌, ◌<◌, ◌≡◌, refl, List, [], ◌∷◌, ◌++◌, length, take, drop, set, get_or}
use Rattle.std.proofs.Common.{sym, ap, ◌∙◌, append_assoc, append-nil, add_assoc, add-zero, add-one, arith, length-append, length-take, length-drop, length-set, take-append-drop, length-take-le, take_at, take-suc, drop-cons, drop-drop, drop-set-lt, get_or-set_same}
use Rattle.std.proofs.lemmas.List.{take-set-le}
use Rattle.std.proofs.Math.Seq.{drop-append-add, append_snoc}
use Rattle.std.proofs.lemmas.List.Edits.{sets-eq}

unfoldable pub written : ℕ → List ℕ → List ℕ → List ℕ
written at text old = take at old ++ text ++ drop (at + length text) old

-- What a call leaves that writes a text: the offset after it, and the bytes.
pub record Puts (at : ℕ) (text old : List ℕ) (next : ℕ) (new : List ℕ) : Type 0 where
  pub next_is : next ≡ at + length text
  pub bytes : new ≡ written at text old

pub written_length : (at : ℕ) (text old : List ℕ) → at + length text ≤ length old → length (written at text old) ≡ length old
unfolding written
written_length at text old h = simp (length-append, length-take, length-drop) (omega arith)

-- a text of two parts is the first, and then the second after it
pub written_append : (at : ℕ) (x y old : List ℕ) → at ≤ length old → written at (x ++ y) old ≡ written (at + length x) y (written at x old)
unfolding written
written_append at x y old h =
    let l : length (take at old ++ x) ≡ at + length x = length-append (take at old) x ∙ simp length-take (omega arith) in
    let t = take_at (take at old ++ x) (drop (at + length x) old) (at + length x) l in
    let d : drop (at + length x + length y) (take at old ++ x ++ drop (at + length x) old) ≡ drop (at + length x + length y) old
    = rw (← l) (drop-append-add (take at old ++ x) (drop (length (take at old ++ x)) old) (length y) ∙ drop-drop (length y) (length (take at old ++ x)) old) in
    rw (t, d, length-append, ← append_assoc, add_assoc)

-- one byte
pub written_one : (at : ℕ) (b : ℕ) (old : List ℕ) → at < length old → set old at b ≡ written at (b ∷ []) old
unfolding written
written_one at b old h = sets-eq (b ∷ []) old at (omega arith)

pub written_nil : (at : ℕ) (old : List ℕ) → written at [] old ≡ old
unfolding written
written_nil at old = rw (add-zero, append-nil) (take-append-drop at old)

-- the next byte of a text, where those before it are written
pub written_next : (at i : ℕ) (text old : List ℕ) → i < length text → at + length text ≤ length old → set (written at (take i text) old) (at + i) (get_or text i 0) ≡ written at (take (i + 1) text) old
written_next at i text old h k =
    let l : length (take i text) ≡ i = length-take-le i text (omega arith) in
    let w : length (written at (take i text) old) ≡ length old = written_length at (take i text) old (omega arith) in
    written_one (at + i) (get_or text i 0) (written at (take i text) old) (omega arith)
    ∙ ap (λ (n : ℕ). written (at + n) (get_or text i 0 ∷ []) (written at (take i text) old)) (sym l)
    ∙ sym (written_append at (take i text) (get_or text i 0 ∷ []) old (omega arith))
    ∙ rw (add-one, take-suc text i 0)

-- the last byte of a text, written before the others
pub written_last : (at : ℕ) (text : List ℕ) (b : ℕ) (old : List ℕ) → at + length text < length old → written at text (set old (at + length text) b) ≡ written at (text ++ (b ∷ [])) old
unfolding written
written_last at text b old h =
    let i = at + length text in
    let n = length-set old i b in
    let d : drop i (set old i b) ≡ b ∷ drop (suc i) old = drop-cons (set old i b) i 0 (omega arith) ∙ rw (get_or-set_same old i b 0 h, drop-set-lt (suc i) old i b (omega arith)) in
    let e : at + length (text ++ (b ∷ [])) ≡ suc i = omega (arith, length-append text (b ∷ [])) in
    rw (take-set-le at old i b (omega arith), d, e, ← append_assoc) (sym (append_snoc (take at old ++ text) b (drop (suc i) old)))

-- calls one after the other
pub puts_append : {at next next' : ℕ} {x y old new new' : List ℕ} → at ≤ length old → Puts at x old next new → Puts next y new next' new' → Puts at (x ++ y) old next' new'
puts_append {at} {next} {next'} {x} {y} {old} {new} h p q = record {
  next_is = q.next_is ∙ simp length-append (omega (arith, p.next_is));
  bytes = q.bytes ∙ ap (λ (n : ℕ). written n y new) p.next_is ∙ ap (written (at + length x) y) p.bytes ∙ sym (written_append at x y old h);
}

pub puts_one : (at b : ℕ) (old : List ℕ) → at < length old → Puts at (b ∷ []) old (at + 1) (set old at b)
puts_one at b old h = record { next_is = refl; bytes = written_one at b old h }
