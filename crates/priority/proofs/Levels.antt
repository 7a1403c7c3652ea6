-- The group numbers that there are: -2, -1 and the first multiples of a power of two. So a strictly rising list of them is short.
use Rattle.std.specs.Prelude.{ℕ, ◌+◌, ◌-◌, ◌*◌, ◌/◌, ◌%◌, ◌^◌, ◌≤◌, ◌<◌, min, max, ◌≡◌, refl, List, [], ◌∷◌, map, Bool, true, false, length, get_or, T, leb, eqb, ℤ, pos, ◌<ℤ◌}
use Rattle.std.proofs.Common.{sym, ap, subst, subst₂, ◌∙◌, div-mul-le_self, shr_lt, leb→le, ltb→lt}
use Rattle.std.proofs.Math.Nat.{zero-mod, mul-mod_left, lt_of_mul-lt-mul_right}
use native.Mathlib.Omega.{arith}
use Rattle.std.proofs.Math.Pow.{split, mod-mod-pow}
use Rattle.std.proofs.Math.Dec.{nleb→lt}
use Rattle.std.specs.Int.Signed.{lt_z}
use Rattle.grouping.specs.Grouping.{kept_byte, group_of, grouped, group_priority}
use Rattle.bools.specs.Tests.{by_cases, is_true, fails}
use Rattle.priority.specs.Order.{few, Rising}
use Rattle.priority.specs.Levels.{Kept, levels, by_setting, Level, two, one, at}

-- for p from 0 to 7, a row for each w from 3 to 8
pub levels_table : map by_setting (3 ∷ 4 ∷ 5 ∷ 6 ∷ 7 ∷ 8 ∷ []) ≡
    (8 ∷ 8 ∷ 8 ∷ 8 ∷ 8 ∷ 4 ∷ 2 ∷ 1 ∷ [])
    ∷ (16 ∷ 16 ∷ 16 ∷ 16 ∷ 8 ∷ 4 ∷ 2 ∷ 1 ∷ [])
    ∷ (32 ∷ 32 ∷ 32 ∷ 16 ∷ 8 ∷ 4 ∷ 2 ∷ 1 ∷ [])
    ∷ (64 ∷ 64 ∷ 32 ∷ 16 ∷ 8 ∷ 4 ∷ 2 ∷ 1 ∷ [])
    ∷ (128 ∷ 64 ∷ 32 ∷ 16 ∷ 8 ∷ 4 ∷ 2 ∷ 1 ∷ [])
    ∷ (128 ∷ 64 ∷ 32 ∷ 16 ∷ 8 ∷ 4 ∷ 2 ∷ 1 ∷ [])
    ∷ []
levels_table = refl

pub kept_byte_lem : (w b : ℕ) → Kept w (kept_byte w b)
kept_byte_lem w b =
    record {
      byte = let l = div-mul-le_self (b % 256) (2 ^ (8 - w)) in omega arith;
      cut = mul-mod_left (b % 256 / 2 ^ (8 - w)) (2 ^ (8 - w));
    }

-- a kept byte is cut to itself
pub kept_same : (w b : ℕ) → Kept w b → kept_byte w b ≡ b
kept_same w b h =
    let e : b % 256 ≡ b = (let l = h.byte in omega arith) in
    rw e (let s = split b (8 - w) in let c = h.cut in omega arith)

carry : {a b x y : ℤ} → a ≡ x → b ≡ y → a <ℤ b → T (lt_z x y)
carry p q h = subst₂ (λ a b. T (lt_z a b)) p q h.lt

module _ {M K : ℕ} where
  place : {z : ℤ} → Level M K z → ℕ
  place (two e) = 0
  place (one e) = 1
  place (at q l e) = 2 + q

  place_below : {z : ℤ} (l : Level M K z) → place l < K + 2
  unfolding place
  place_below (two e) = omega arith
  place_below (one e) = omega arith
  place_below (at q l e) = omega arith

  place_rises : {a b : ℤ} (k : Level M K a) (l : Level M K b) → a <ℤ b → place k < place l
  unfolding place
  place_rises (two e) (two f) h = absurd (carry e f h)
  place_rises (two e) (one f) h = omega arith
  place_rises (two e) (at q l f) h = omega arith
  place_rises (one e) (two f) h = absurd (carry e f h)
  place_rises (one e) (one f) h = absurd (carry e f h)
  place_rises (one e) (at q l f) h = omega arith
  place_rises (at r k e) (two f) h = absurd (carry e f h)
  place_rises (at r k e) (one f) h = absurd (carry e f h)
  place_rises (at r k e) (at q l f) h = let g = lt_of_mul-lt-mul_right M (ltb→lt (r * M) (q * M) (carry e f h)) in omega arith

-- ---- the group number of an exception is such a one

module _ (w p : ℕ) (small : p < 8) where
  abbrev width : ℕ
  width = max (p + 1) (8 - w)

  pub group_is : (b : ℕ) → Kept w b → group_of p b ≡ b / 2 ^ width * 2 ^ width
  group_is b h = go (leb (p + 1) (8 - w)) refl
    where
      whole : (k : ℕ) → b % 2 ^ k ≡ 0 → b / 2 ^ k * 2 ^ k ≡ b
      whole k e = let d = split b k in omega arith

      fine : p + 1 ≤ 8 - w → b % 2 ^ (p + 1) ≡ 0
      fine l =
          let j : (8 - w - (p + 1)) + (p + 1) ≡ 8 - w = omega arith in
          sym (mod-mod-pow b (8 - w - (p + 1)) (p + 1)) ∙ ap (λ (k : ℕ). b % 2 ^ k % 2 ^ (p + 1)) j ∙ ap (λ (r : ℕ). r % 2 ^ (p + 1)) h.cut ∙ zero-mod (2 ^ (p + 1))

      go : (t : Bool) → leb (p + 1) (8 - w) ≡ t → group_of p b ≡ b / 2 ^ width * 2 ^ width
      go true e =
          let l = leb→le (p + 1) (8 - w) (is_true e) in
          let m : width ≡ 8 - w = omega arith in
          whole (p + 1) (fine l) ∙ sym (whole (8 - w) h.cut) ∙ ap (λ (k : ℕ). b / 2 ^ k * 2 ^ k) (sym m)
      go false e =
          let l = nleb→lt (p + 1) (8 - w) (fails e) in
          let m : width ≡ p + 1 = omega arith in
          ap (λ (k : ℕ). b / 2 ^ k * 2 ^ k) (sym m)

  level_byte : (b : ℕ) → Kept w b → Level (2 ^ width) (levels w p) (pos (group_of p b))
  level_byte b h =
      let sum : min w (7 - p) + width ≡ 8 = omega arith in
      at (b / 2 ^ width) (shr_lt (min w (7 - p)) width (subst (λ (k : ℕ). b < 2 ^ k) (sym sum) h.byte)) (ap pos (group_is b h))

  level : (bytes : List ℕ) → ((n : ℕ) → Kept w (get_or bytes n 0)) → (n : ℕ) → Level (2 ^ width) (levels w p) (group_priority p bytes n)
  level bytes kept n =
      by_cases (λ z. Level (2 ^ width) (levels w p) (grouped p z)) (eqb n 2) (λ _. two refl)
      (λ _. by_cases (λ z. Level (2 ^ width) (levels w p) (grouped p z)) (eqb n 3) (λ _. one refl)
      (λ _. level_byte (get_or bytes n 0) (kept n)))

  pub rising_few : (bytes : List ℕ) → ((n : ℕ) → Kept w (get_or bytes n 0)) → (xs : List ℕ) → Rising (group_priority p bytes) xs → length xs ≤ levels w p + 2
  rising_few bytes kept xs r =
      let f = few (group_priority p bytes) (λ n. place (level bytes kept n)) (levels w p + 2) xs 0
      (λ n m _ _ l. place_rises (level bytes kept n) (level bytes kept m) l)
      (λ n _. let b = place_below (level bytes kept n) in omega arith) r in
      omega arith
