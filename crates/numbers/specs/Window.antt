-- A number read from a window of five bytes. An offset past the end shows 128, a group that more must follow, so a number that is cut
-- short is none there too.
use Rattle.std.specs.Prelude.{ℕ, zero, suc, ◌+◌, ◌-◌, ◌*◌, ◌^◌, ◌≤◌, ◌<◌, ◌≡◌, List, [], ◌∷◌, ◌++◌, Option, Some, None, Bool, true, false, cond, get_or, eqb, ltb}
use Rattle.std.proofs.Math.Path.{refl, ap}
use Rattle.std.proofs.Common.{sym, ◌∙◌, arith, lt-ltb, le-ltb, ltb-true, ltb-false}
use Rattle.std.proofs.Math.ListN.{length}
use Rattle.std.proofs.lemmas.Option.{none-some, same_Some}
use Rattle.numbers.specs.Number.{groups, number_bytes, joined, groups_at, number_at}
use Rattle.numbers.specs.NumberLaws.{Bytes, number_read}

-- a number without the offset after it
abbrev pub word_of : Option (ℕ × ℕ) → Option ℕ
word_of (Some (n, next)) = Some n
word_of None = None

-- `joined` on words: with a group below 128 a number is below 2^32 exactly where its rest is below 2^25
unfoldable pub joined_word : ℕ → Option ℕ → Option ℕ
joined_word group None = None
joined_word group (Some rest) = cond (eqb rest 0) None (cond (ltb rest (2 ^ 25)) (Some (group + 128 * rest)) None)

-- `groups_at` on the bytes of a window
unfoldable pub groups_of : List ℕ → ℕ → Option ℕ
groups_of bytes zero = None
groups_of [] (suc left) = None
groups_of (b ∷ bytes) (suc left) = cond (ltb b 128) (Some b) (joined_word (b - 128) (groups_of bytes left))

unfoldable pub window : List ℕ → ℕ → ℕ → List ℕ
window bytes at zero = []
window bytes at (suc k) = get_or bytes at 128 ∷ window bytes (at + 1) k

-- the clauses at a count that is not 0, as the code has it

pub groups_of_last : (b : ℕ) (bytes : List ℕ) (left : ℕ) → 1 ≤ left → b < 128 → groups_of (b ∷ bytes) left ≡ Some b
unfolding groups_of
groups_of_last b bytes zero h k = absurd (omega arith)
groups_of_last b bytes (suc l) h k = simp (lt-ltb b 128 k)

pub groups_of_join : (b : ℕ) (bytes : List ℕ) (left : ℕ) → 1 ≤ left → 128 ≤ b → groups_of (b ∷ bytes) left ≡ joined_word (b - 128) (groups_of bytes (left - 1))
unfolding groups_of
groups_of_join b bytes zero h k = absurd (omega arith)
groups_of_join b bytes (suc l) h k = let e : suc l - 1 ≡ l = omega arith in simp (le-ltb b 128 k, e)

-- a window may be longer by a 128
pub groups_of_more : (bytes : List ℕ) (left : ℕ) → groups_of (bytes ++ (128 ∷ [])) left ≡ groups_of bytes left
unfolding groups_of joined_word
groups_of_more bytes zero = refl
groups_of_more [] (suc zero) = refl
groups_of_more [] (suc (suc l)) = refl
groups_of_more (b ∷ bytes) (suc l) = ap (λ (x : Option ℕ). cond (ltb b 128) (Some b) (joined_word (b - 128) x)) (groups_of_more bytes l)

joined_word_lem : (g : ℕ) (r : Option (ℕ × ℕ)) → g < 128 → word_of (joined g r) ≡ joined_word g (word_of r)
unfolding joined joined_word
joined_word_lem g None h = refl
joined_word_lem g (Some (v, next)) h = cases (eqb v 0) (ltb v (2 ^ 25)) refl
  where
    cases : (a b : Bool) → ltb v (2 ^ 25) ≡ b → word_of (cond a None (cond (ltb (g + 128 * v) (2 ^ 32)) (Some (g + 128 * v, next)) None)) ≡ cond a None (cond b (Some (g + 128 * v)) None)
    cases true b q = refl
    cases false true q = let l = ltb-true v (2 ^ 25) q in simp (lt-ltb (g + 128 * v) (2 ^ 32) (omega arith))
    cases false false q = let l = ltb-false v (2 ^ 25) q in simp (le-ltb (g + 128 * v) (2 ^ 32) (omega arith))

pub get_d_inside : (l : List ℕ) (i d e : ℕ) → i < length l → get_or l i d ≡ get_or l i e
get_d_inside [] i d e h = absurd (omega arith)
get_d_inside (x ∷ l) zero d e h = refl
get_d_inside (x ∷ l) (suc i) d e h = get_d_inside l i d e (omega arith)

pub get_d_past : (l : List ℕ) (i d : ℕ) → length l ≤ i → get_or l i d ≡ d
get_d_past [] i d h = refl
get_d_past (x ∷ l) zero d h = absurd (omega arith)
get_d_past (x ∷ l) (suc i) d h = get_d_past l i d (omega arith)

joined_none : joined_word 0 None ≡ None
unfolding joined_word
joined_none = refl

-- the window holds the number that the bytes hold
groups_window : (bytes : List ℕ) → Bytes bytes → (left at : ℕ) → groups_of (window bytes at left) left ≡ word_of (groups_at bytes at left)
unfolding groups_of window groups_at
groups_window bytes small zero at = refl
groups_window bytes small (suc l) at = cases (ltb at (length bytes)) refl (ltb (get_or bytes at 0) 128) refl (groups_window bytes small l (at + 1))
  where
    past : (left at : ℕ) → length bytes ≤ at → groups_at bytes at left ≡ None
    past zero at h = refl
    past (suc left) at h = simp (le-ltb at (length bytes) h)

    cases : (a : Bool) → ltb at (length bytes) ≡ a → (b : Bool) → ltb (get_or bytes at 0) 128 ≡ b → groups_of (window bytes (at + 1) l) l ≡ word_of (groups_at bytes (at + 1) l) → cond (ltb (get_or bytes at 128) 128) (Some (get_or bytes at 128)) (joined_word (get_or bytes at 128 - 128) (groups_of (window bytes (at + 1) l) l)) ≡ word_of (cond a (cond b (Some (get_or bytes at 0, at + 1)) (joined (get_or bytes at 0 - 128) (groups_at bytes (at + 1) l))) None)
    cases true p true q e = simp (get_d_inside bytes at 128 0 (ltb-true at (length bytes) p), q)
    cases true p false q e =
        let low : get_or bytes at 0 - 128 < 128 = omega (arith, small at, ltb-false (get_or bytes at 0) 128 q) in
        simp (get_d_inside bytes at 128 0 (ltb-true at (length bytes) p), q, e, joined_word_lem _ (groups_at bytes (at + 1) l) low)
    cases false p b q e =
        let h = ltb-false at (length bytes) p in
        simp (get_d_past bytes at 128 h, e, past l (at + 1) (omega arith)) joined_none

-- the window of the code
pub number_window : (bytes : List ℕ) (at : ℕ) → Bytes bytes → groups_of (get_or bytes at 128 ∷ get_or bytes (at + 1) 128 ∷ get_or bytes (at + 2) 128 ∷ get_or bytes (at + 3) 128 ∷ get_or bytes (at + 4) 128 ∷ []) 5 ≡ word_of (number_at bytes at)
unfolding window number_at
number_window bytes at small =
    let two : at + 1 + 1 ≡ at + 2 = omega arith in
    let three : at + 2 + 1 ≡ at + 3 = omega arith in
    let four : at + 3 + 1 ≡ at + 4 = omega arith in
    simp (two, three, four) at (groups_window bytes small 5 at)

-- a number from its word: it has one spelling, so the word tells its length
module _ (bytes : List ℕ) (at : ℕ) (small : Bytes bytes) where
  pub number_some : (n : ℕ) → Some n ≡ word_of (number_at bytes at) → number_at bytes at ≡ Some (n, at + length (groups 5 n))
  unfolding number_bytes
  number_some n word = cases (number_at bytes at) refl word
    where
      cases : (r : Option (ℕ × ℕ)) → number_at bytes at ≡ r → Some n ≡ word_of r → r ≡ Some (n, at + length (groups 5 n))
      cases None e w = absurd (none-some n (sym w))
      cases (Some (v, next)) e w =
          ap (λ (k : ℕ). Some (v, k)) (number_read bytes at v next small e).spelled.after
          ∙ ap (λ (k : ℕ). Some (k, at + length (groups 5 k))) (sym (same_Some n v w))

  pub number_none : None ≡ word_of (number_at bytes at) → number_at bytes at ≡ None
  number_none word = cases (number_at bytes at) word
    where
      cases : (r : Option (ℕ × ℕ)) → None ≡ word_of r → r ≡ None
      cases None w = refl
      cases (Some (v, next)) w = absurd (none-some v w)
