-- Past its reach an array is clear: either nothing stands there, or there is nothing past it.
use Prim.Native.Nat.{ℕ, zero, suc, ◌+◌, ◌-◌, ◌≤◌, ◌<◌}
use mathlib.Core.Path.{◌≡◌, refl, sym, ap, ◌∙◌, subst}
use mathlib.Core.Logic.{inl, inr}
use mathlib.Core.List.{List, ◌∷◌, ◌++◌}
use mathlib.Core.Bool.{Bool, true, false, not, cond, ◌||◌}
use native.Mathlib.Omega.{arith}
use lib.ListN.{length, get_or, take, drop, replicate, take-append-drop, drop_of_length-le}
use lib.Seq.{length-take-le, drop-cons, drop-length, take_at, get_or-append-add}
use lib.Dec.{T, eqb, eqb→eq}
use Rattle.bools.specs.Tests.{by_cases}
use Rattle.flag_words.specs.Flags.{on}
use Rattle.demand3.proofs.Parts.{get_d_fresh}
use Rattle.places.specs.Places.{some_past, reach, nonzero, occupied, InBlocks, padded}

-- ---- the scan

pub in_size : {n size : ℕ} → InBlocks n size → n ≤ size
in_size (inl h) = omega arith
in_size (inr e) = omega arith

-- a chip that has not all of an array leaves a block of it
pub has_block : {n size : ℕ} → InBlocks n size → (n ≡ size → ⊥) → n + 64 ≤ size
has_block (inl h) k = h
has_block (inr e) k = absurd (k e)

or_assoc : (a b c : Bool) → ((a || b) || c) ≡ (a || (b || c))
or_assoc true b c = refl
or_assoc false b c = refl

-- the places from n on, and those from n + a on
split : (holds : ℕ → Bool) (n a b : ℕ) → some_past holds n (a + b) ≡ (some_past holds (n + a) b || some_past holds n a)
unfolding some_past
split holds n a zero =
    let e : a + 0 ≡ a = omega arith in
    ap (some_past holds n) e
split holds n a (suc b) =
    let e : a + suc b ≡ suc (a + b) = omega arith in
    let f : n + (a + b) ≡ n + a + b = omega arith in
    ap (some_past holds n) e ∙ (λ i. holds (f i) || split holds n a b i) ∙ sym (or_assoc (holds (n + a + b)) (some_past holds (n + a) b) (some_past holds n a))

-- what is in a block counts once
absorbed : (a b c : Bool) → ((a || b) || (b || c)) ≡ ((a || b) || c)
absorbed true b c = refl
absorbed false true c = refl
absorbed false false c = refl

-- one block further
pub further : (holds : ℕ → Bool) (n i : ℕ) (found : Bool) → n ≤ i → found ≡ some_past holds n (i - n) → (some_past holds i 64 || found) ≡ some_past holds n (i + 64 - n)
further holds n i found h q =
    let e : i + 64 - n ≡ (i - n) + 64 = omega arith in
    let f : n + (i - n) ≡ i = omega arith in
    sym (ap (some_past holds n) e ∙ split holds n (i - n) 64 ∙ (λ k. some_past holds (f k) 64 || sym q k))

-- the last block, which overlaps the one that ends at i
overlapped : (holds : ℕ → Bool) (n i last : ℕ) (found : Bool) → n ≤ last → last ≤ i → i ≤ last + 64 → found ≡ some_past holds n (i - n) → (some_past holds last 64 || found) ≡ some_past holds n (last + 64 - n)
overlapped holds n i last found h low high q =
    let e : last + 64 - n ≡ (last - n) + 64 = omega arith in
    let f : n + (last - n) ≡ last = omega arith in
    let g : i - n ≡ (last - n) + (i - last) = omega arith in
    let d : 64 ≡ (i - last) + (last + 64 - i) = omega arith in
    let before : some_past holds n (i - n) ≡ (some_past holds last (i - last) || some_past holds n (last - n)) =
    ap (some_past holds n) g ∙ split holds n (last - n) (i - last) ∙ ap (λ (k : ℕ). some_past holds k (i - last) || some_past holds n (last - n)) f in
    let block : some_past holds last 64 ≡ (some_past holds (last + (i - last)) (last + 64 - i) || some_past holds last (i - last)) =
    ap (some_past holds last) d ∙ split holds last (i - last) (last + 64 - i) in
    (λ k. block k || (q ∙ before) k)
    ∙ absorbed (some_past holds (last + (i - last)) (last + 64 - i)) (some_past holds last (i - last)) (some_past holds n (last - n))
    ∙ (λ k. sym block k || some_past holds n (last - n))
    ∙ sym (ap (some_past holds n) e ∙ split holds n (last - n) 64 ∙ ap (λ (k : ℕ). some_past holds k 64 || some_past holds n (last - n)) f)

-- the last block of an array
pub covered : (holds : ℕ → Bool) (n i size : ℕ) → n + 64 ≤ size → size - 64 ≤ i → i ≤ size → (some_past holds (size - 64) 64 || some_past holds n (i - n)) ≡ some_past holds n (size - n)
covered holds n i size h low high =
    let end : size - 64 + 64 ≡ size = omega arith in
    overlapped holds n i (size - 64) (some_past holds n (i - n)) (omega arith) low (omega arith) refl ∙ ap (λ (k : ℕ). some_past holds n (k - n)) end

pub begun : (holds : ℕ → Bool) (n : ℕ) → false ≡ some_past holds n (n - n)
unfolding some_past
begun holds n =
    let e : n - n ≡ 0 = omega arith in
    sym (ap (some_past holds n) e)

-- ---- the places past it

left_false : (a b : Bool) → (a || b) ≡ false → a ≡ false
left_false true b q = q
left_false false b q = refl

right_false : (a b : Bool) → (a || b) ≡ false → b ≡ false
right_false true b q = absurd (subst T q tt)
right_false false b q = q

pub reach_fits : (holds : ℕ → Bool) (n size : ℕ) → n ≤ size → reach holds n size ≤ size
unfolding reach
reach_fits holds n size h = by_cases (λ (k : ℕ). k ≤ size) (some_past holds n (size - n)) (λ _. omega arith) (λ _. h)

pub reach_least : (holds : ℕ → Bool) (n size : ℕ) → n ≤ size → n ≤ reach holds n size
unfolding reach
reach_least holds n size h = by_cases (λ (k : ℕ). n ≤ k) (some_past holds n (size - n)) (λ _. h) (λ _. omega arith)

module _ {A : Type 0} (clear : A) (l : List A) (holds : ℕ → Bool) (free : (i : ℕ) → holds i ≡ false → get_or l i clear ≡ clear) where
  -- where nothing stands past n the list is clear there
  past : (n k : ℕ) → n + k ≤ length l → some_past holds n k ≡ false → drop (n + k) l ≡ replicate (length l - (n + k)) clear → drop n l ≡ replicate (length l - n) clear
  unfolding some_past
  past n zero fits q h =
      let e : n + 0 ≡ n = omega arith in
      subst (λ (j : ℕ). drop j l ≡ replicate (length l - j) clear) e h
  past n (suc k) fits q h =
      let e : suc (n + k) ≡ n + suc k = omega arith in
      let f : suc (length l - (n + suc k)) ≡ length l - (n + k) = omega arith in
      past n k (omega arith) (right_false (holds (n + k)) (some_past holds n k) q)
      (drop-cons l (n + k) clear (omega arith) ∙ (λ i. free (n + k) (left_false (holds (n + k)) (some_past holds n k) q) i ∷ drop (e i) l) ∙ ap (λ (r : List A). clear ∷ r) h ∙ ap (λ (j : ℕ). replicate j clear) f)

  rest : (n : ℕ) → n ≤ length l → drop (reach holds n (length l)) l ≡ replicate (length l - reach holds n (length l)) clear
  unfolding reach
  rest n fits = side (some_past holds n (length l - n)) refl
    where
      side : (b : Bool) → some_past holds n (length l - n) ≡ b → drop (cond b (length l) n) l ≡ replicate (length l - cond b (length l) n) clear
      side true q =
          let e : length l - length l ≡ 0 = omega arith in
          drop-length l ∙ ap (λ (j : ℕ). replicate j clear) (sym e)
      side false q =
          let e : length l - (n + (length l - n)) ≡ 0 = omega arith in
          past n (length l - n) (omega arith) q (drop_of_length-le l {i = n + (length l - n)} (omega arith) ∙ ap (λ (j : ℕ). replicate j clear) (sym e))

  -- the places that were lent as a call leaves them, and the others as they were
  pub put : (size n : ℕ) (x : List A) → length l ≡ size → n ≤ size → length x ≡ length (take (reach holds n size) l) → x ++ drop (reach holds n size) l ≡ padded size clear x
  put size n x e fits h =
      ap (λ (r : List A). x ++ r) (subst (λ (k : ℕ). drop (reach holds n k) l ≡ replicate (k - reach holds n k) clear) e (rest n (omega arith)))
      ∙ ap (λ (k : ℕ). x ++ replicate (size - k) clear) (sym (h ∙ length-take-le (reach holds n size) l (subst (λ (k : ℕ). reach holds n size ≤ k) (sym e) (reach_fits holds n size fits))))

  -- none changed
  pub whole : (size n : ℕ) → length l ≡ size → n ≤ size → padded size clear (take (reach holds n size) l) ≡ l
  whole size n e fits = sym (put size n (take (reach holds n size) l) e fits refl) ∙ take-append-drop (reach holds n size) l

-- ---- nothing stands at a place: each array is clear there

pub free_byte : (l : List ℕ) (i : ℕ) → nonzero l i ≡ false → get_or l i 0 ≡ 0
free_byte l i e = eqb→eq (get_or l i 0) 0 (zero_of (eqb (get_or l i 0) 0) e)
  where
    zero_of : (b : Bool) → not b ≡ false → T b
    zero_of true q = tt
    zero_of false q = subst T q tt

module _ (pending active enabled level : List Bool) (priority : List ℕ) (i : ℕ) (none : occupied pending active enabled level priority i ≡ false) where
  no_flags : ((on pending i || on active i) || (on enabled i || on level i)) ≡ false
  no_flags = left_false ((on pending i || on active i) || (on enabled i || on level i)) (nonzero priority i) none

  pub free_pending : on pending i ≡ false
  free_pending = left_false (on pending i) (on active i) (left_false (on pending i || on active i) (on enabled i || on level i) no_flags)

  pub free_active : on active i ≡ false
  free_active = right_false (on pending i) (on active i) (left_false (on pending i || on active i) (on enabled i || on level i) no_flags)

  pub free_enabled : on enabled i ≡ false
  free_enabled = left_false (on enabled i) (on level i) (right_false (on pending i || on active i) (on enabled i || on level i) no_flags)

  pub free_level : on level i ≡ false
  free_level = right_false (on enabled i) (on level i) (right_false (on pending i || on active i) (on enabled i || on level i) no_flags)

  pub free_priority : get_or priority i 0 ≡ 0
  free_priority = free_byte priority i (right_false ((on pending i || on active i) || (on enabled i || on level i)) (nonzero priority i) none)

-- ---- lists with clear places after them

some_clear : (holds : ℕ → Bool) (n : ℕ) → ((j : ℕ) → holds (n + j) ≡ false) → (k : ℕ) → some_past holds n k ≡ false
unfolding some_past
some_clear holds n f zero = refl
some_clear holds n f (suc k) = ap (λ (b : Bool). b || some_past holds n k) (f k) ∙ some_clear holds n f k

pub reach_clear : (holds : ℕ → Bool) (n size : ℕ) → ((j : ℕ) → holds (n + j) ≡ false) → reach holds n size ≡ n
unfolding reach
reach_clear holds n size f = ap (λ (b : Bool). cond b size n) (some_clear holds n f (size - n))

pub clear_past : {A : Type 0} (n size : ℕ) (x : List A) (d : A) → length x ≡ n → (j : ℕ) → get_or (padded size d x) (n + j) d ≡ d
clear_past n size x d e j =
    subst (λ (i : ℕ). get_or (padded size d x) (i + j) d ≡ d) e (get_or-append-add x (replicate (size - length x) d) j d ∙ get_d_fresh (size - length x) j d)

pub first : {A : Type 0} (n size : ℕ) (x : List A) (d : A) → length x ≡ n → take n (padded size d x) ≡ x
first n size x d e = take_at x (replicate (size - length x) d) n e
