-- Laws of flags as a word, over the place, the number of flags and the index.
use Rattle.std.specs.Prelude.{ℕ, zero, suc, ◌+◌, ◌-◌, ◌*◌, ◌/◌, ◌%◌, ◌^◌, ◌≤◌, ◌<◌, ◌≡◌, refl, ◌⊎◌, List, Bool, true, false, cond, length, T, eqb, ltb}
use Rattle.std.proofs.Common.{sym, ap, subst, ◌∙◌, inl, inr, add-zero, div-one, arith, length-set, get_or-set_same, get_or-set_other, ltb-true, ltb-false}
use Rattle.std.proofs.Math.Nat.{pow-succ'}
use Rattle.std.proofs.Math.ListN.{get_or-eq_default}
use Rattle.std.proofs.Math.Seq.{set_out}
use Rattle.bits.specs.Words.{bit, bit_at}
use Rattle.bits.specs.WordLaws.{bit_le, flag_of_bit, half_bit}
use Rattle.flag_words.specs.Flags.{on, word_of, put_flag, put_flags}

-- n flags make a number below 2 ^ n
pub word_lt : (flags : List Bool) (at n : ℕ) → word_of flags at n < 2 ^ n
unfolding word_of
word_lt flags at zero = omega arith
word_lt flags at (suc n) = rw (pow-succ' 2 n) (omega (arith, word_lt flags (at + 1) n, bit_le (on flags at)))

-- bit i of the word is flag at + i
pub word_digit : (flags : List Bool) (at n i : ℕ) → i < n → word_of flags at n / 2 ^ i % 2 ≡ bit (on flags (at + i))
unfolding word_of
word_digit flags at zero i h = let z : ⊥ = omega arith in absurd z
word_digit flags at (suc n) zero h = rw add-zero (omega (arith, bit_le (on flags at)))
word_digit flags at (suc n) (suc i) h =
    let e : (bit (on flags at) + 2 * word_of flags (at + 1) n) / 2 ≡ word_of flags (at + 1) n = omega (arith, bit_le (on flags at)) in
    let f : at + suc i ≡ at + 1 + i = omega arith in
    rw (← half_bit _ i, e, f) (word_digit flags (at + 1) n i (omega arith))

pub word_bit : (flags : List Bool) (at n i : ℕ) → i < n → bit_at i (word_of flags at n) ≡ on flags (at + i)
word_bit flags at n i h = rw (word_digit flags at n i h) (flag_of_bit (on flags (at + i)))

-- past the end there is nothing to read
pub word_past_end : (flags : List Bool) (at n : ℕ) → length flags ≤ at → word_of flags at n ≡ 0
unfolding word_of
word_past_end flags at zero h = refl
word_past_end flags at (suc n) h = rw (get_or-eq_default flags false h, word_past_end flags (at + 1) n (omega arith))

abbrev odd : ℕ → Bool
odd w = eqb (w % 2) 1

-- one store: the length, its own place, every other place
pub length_put_flag : (v : Bool) (flags : List Bool) (i : ℕ) (b : Bool) → length (put_flag v flags i b) ≡ length flags
unfolding put_flag
length_put_flag v flags i true = length-set flags i v
length_put_flag v flags i false = refl

pub put_flag_same : (v : Bool) (flags : List Bool) (i : ℕ) (b : Bool) → i < length flags → on (put_flag v flags i b) i ≡ cond b v (on flags i)
unfolding put_flag
put_flag_same v flags i true h = get_or-set_same flags i v false h
put_flag_same v flags i false h = refl

pub put_flag_other : (v : Bool) (flags : List Bool) (i j : ℕ) (b : Bool) → (j ≡ i → ⊥) → on (put_flag v flags i b) j ≡ on flags j
unfolding put_flag
put_flag_other v flags i j true h = get_or-set_other flags i j v false h
put_flag_other v flags i j false h = refl

pub length_put_flags : (v : Bool) (n : ℕ) (flags : List Bool) (at w : ℕ) → length (put_flags v n flags at w) ≡ length flags
unfolding put_flags
length_put_flags v zero flags at w = refl
length_put_flags v (suc n) flags at w = length_put_flags v n (put_flag v flags at (odd w)) (at + 1) (w / 2) ∙ length_put_flag v flags at (odd w)

-- a word of 0 changes nothing, nor does one past the end
pub put_none : (v : Bool) (n : ℕ) (flags : List Bool) (at : ℕ) → put_flags v n flags at 0 ≡ flags
unfolding put_flags put_flag
put_none v zero flags at = refl
put_none v (suc n) flags at = put_none v n flags (at + 1)

put_flag_past_end : (v : Bool) (flags : List Bool) (i : ℕ) (b : Bool) → length flags ≤ i → put_flag v flags i b ≡ flags
unfolding put_flag
put_flag_past_end v flags i true h = set_out flags i v h
put_flag_past_end v flags i false h = refl

pub put_past_end : (v : Bool) (n : ℕ) (flags : List Bool) (at w : ℕ) → length flags ≤ at → put_flags v n flags at w ≡ flags
unfolding put_flags
put_past_end v zero flags at w h = refl
put_past_end v (suc n) flags at w h = rw (put_flag_past_end v flags at (odd w) h) (put_past_end v n flags (at + 1) (w / 2) (omega arith))

-- a flag before the word's stays
pub put_before : (v : Bool) (n : ℕ) (flags : List Bool) (at w j : ℕ) → j < at → on (put_flags v n flags at w) j ≡ on flags j
unfolding put_flags
put_before v zero flags at w j h = refl
put_before v (suc n) flags at w j h =
    put_before v n (put_flag v flags at (odd w)) (at + 1) (w / 2) j (omega arith) ∙ put_flag_other v flags at j (odd w) (λ e. omega arith)

-- a flag past the word's stays
pub put_past : (v : Bool) (n : ℕ) (flags : List Bool) (at w j : ℕ) → at + n ≤ j → on (put_flags v n flags at w) j ≡ on flags j
unfolding put_flags
put_past v zero flags at w j h = refl
put_past v (suc n) flags at w j h =
    put_past v n (put_flag v flags at (odd w)) (at + 1) (w / 2) j (omega arith) ∙ put_flag_other v flags at j (odd w) (λ e. omega arith)

-- flag at + i takes the value exactly where bit i is 1
pub put_at : (v : Bool) (n : ℕ) (flags : List Bool) (at w i : ℕ) → i < n → at + i < length flags → on (put_flags v n flags at w) (at + i) ≡ cond (bit_at i w) v (on flags (at + i))
unfolding put_flags
put_at v zero flags at w i h k = let z : ⊥ = omega arith in absurd z
put_at v (suc n) flags at w zero h k =
    rw (add-zero, div-one)
    (put_before v n (put_flag v flags at (odd w)) (at + 1) (w / 2) at (omega arith) ∙ put_flag_same v flags at (odd w) (omega arith))
put_at v (suc n) flags at w (suc i) h k =
    let f : at + suc i ≡ at + 1 + i = omega arith in
    let g = put_flag v flags at (odd w) in
    let l : length g ≡ length flags = length_put_flag v flags at (odd w) in
    rw (f, ← half_bit w i)
    (put_at v n g (at + 1) (w / 2) i (omega arith) (omega arith)
    ∙ ap (cond (bit_at i (w / 2)) v) (put_flag_other v flags at (at + 1 + i) (odd w) (λ e. omega arith)))

-- flag j is one of the n from `at` on, is named by a 1 bit of w, and the value is on
pub record Named (v : Bool) (n : ℕ) (flags : List Bool) (at w j : ℕ) : Type 0 where
  pub from : at ≤ j
  pub below : j < at + n
  pub within : j < length flags
  pub named : T (bit_at (j - at) w)
  pub value : T v

-- a flag that is on after the word was written was on before, or the word turned it on
pub put_on : (v : Bool) (n : ℕ) (flags : List Bool) (at w j : ℕ) → T (on (put_flags v n flags at w) j) → T (on flags j) ⊎ Named v n flags at w j
put_on v n flags at w j t = before (ltb j at) refl
  where
    chosen : (b : Bool) → bit_at (j - at) w ≡ b → at ≤ j → j < at + n → j < length flags → T (cond b v (on flags j)) → T (on flags j) ⊎ Named v n flags at w j
    chosen true e l m k u = inr (record { from = l; below = m; within = k; named = subst T (sym e) tt; value = u })
    chosen false e l m k u = inl u

    within : (b : Bool) → ltb j (length flags) ≡ b → at ≤ j → j < at + n → T (on flags j) ⊎ Named v n flags at w j
    within true e l m =
        let k = ltb-true j (length flags) e in
        let f : at + (j - at) ≡ j = omega arith in
        chosen (bit_at (j - at) w) refl l m k (subst T (rw f at (put_at v n flags at w (j - at) (omega arith) (omega arith))) t)
    within false e l m =
        let k = ltb-false j (length flags) e in
        let f = length_put_flags v n flags at w in
        let z : ⊥ = subst T (get_or-eq_default (put_flags v n flags at w) false (omega arith)) t in
        absurd z

    past : (b : Bool) → ltb j (at + n) ≡ b → at ≤ j → T (on flags j) ⊎ Named v n flags at w j
    past true e l = within (ltb j (length flags)) refl l (ltb-true j (at + n) e)
    past false e l = inl (subst T (put_past v n flags at w j (ltb-false j (at + n) e)) t)

    before : (b : Bool) → ltb j at ≡ b → T (on flags j) ⊎ Named v n flags at w j
    before true e = inl (subst T (put_before v n flags at w j (ltb-true j at e)) t)
    before false e = past (ltb j (at + n)) refl (ltb-false j at e)
