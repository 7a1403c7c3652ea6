-- L is what document 01 says it is: "L, the count of group numbers, is 8 for p up to 4, then 4, 2, 1."
use Rattle.std.specs.Prelude.{ℕ, zero, suc, ◌+◌, ◌-◌, ◌*◌, ◌/◌, ◌%◌, ◌^◌, ◌<◌, min, max, ◌≡◌, refl, ◌⊎◌, length}
use Rattle.std.proofs.Common.{sym, ap, subst, ◌∙◌, inl, inr, le_refl, arith, shl_lt, shr_lt}
use mathlib.Core.List.Memᴰ
use mathlib.Core.List.{List, [], ◌∷◌, map, Memᴰ}
use Rattle.std.proofs.Math.Nat.{zero-mod, mul-mod_left, eq_of_mul-eq-mul_right}
use Rattle.std.proofs.lemmas.Nat.{shl-shr}
use Rattle.std.proofs.Math.Pow.{mod-mod-pow, suc_ones}
use Rattle.grouping.specs.Grouping.{group_of}
use Rattle.bools.specs.Every.{below_suc}
use Rattle.priority.specs.Order.{Distinct}
use Rattle.priority.specs.Levels.{Kept, levels}
use Rattle.priority.proofs.Levels.{group_is}
use Rattle.priority.specs.Counting.{Count, IsGroup}

-- with three bits kept, the group settings 0 to 7: "8 for p up to 4, then 4, 2, 1"
pub three_bits : map (levels 3) (0 ∷ 1 ∷ 2 ∷ 3 ∷ 4 ∷ 5 ∷ 6 ∷ 7 ∷ []) ≡ 8 ∷ 8 ∷ 8 ∷ 8 ∷ 8 ∷ 4 ∷ 2 ∷ 1 ∷ []
three_bits = refl

-- ---- the first n multiples of a number that is not 0

multiples : ℕ → ℕ → List ℕ
multiples s zero = []
multiples s (suc n) = n * s ∷ multiples s n

multiples_length : (s n : ℕ) → length (multiples s n) ≡ n
unfolding multiples
multiples_length s zero = refl
multiples_length s (suc n) = ap suc (multiples_length s n)

multiple_of : (s n z : ℕ) → Memᴰ z (multiples s n) → (q : ℕ) × (q < n) × (z ≡ q * s)
unfolding multiples
multiple_of s zero z m = absurd (Memᴰ.not-nil m)
multiple_of s (suc n) z m = go (λ k. multiple_of s n z k) (Memᴰ.cases_cons m)
  where
    go : (Memᴰ z (multiples s n) → (q : ℕ) × (q < n) × (z ≡ q * s)) → (z ≡ n * s) ⊎ Memᴰ z (multiples s n) → (q : ℕ) × (q < suc n) × (z ≡ q * s)
    go below (inl e) = (n, le_refl (suc n), e)
    go below (inr k) = let r = below k in (r.0, let l = r.1 in omega arith, r.2)

multiple_there : (s n q : ℕ) → q < n → Memᴰ (q * s) (multiples s n)
unfolding multiples
multiple_there s zero q h = absurd (omega arith)
multiple_there s (suc n) q h = below_suc q n h (λ e. Memᴰ.head (ap (λ (k : ℕ). k * s) e)) (λ l. Memᴰ.tail (multiple_there s n q l))

multiples_distinct : (s n : ℕ) → 0 < s → Distinct (multiples s n)
unfolding multiples
multiples_distinct s zero h = tt
multiples_distinct s (suc n) h =
    (λ m. let r = multiple_of s n (n * s) m in let e = eq_of_mul-eq-mul_right s h n r.0 r.2 in let l = r.1 in omega arith, multiples_distinct s n h)

-- ---- the count of group numbers

module _ (w p : ℕ) (small : p < 8) where
  abbrev width : ℕ
  width = max (p + 1) (8 - w)

  -- a multiple of 2 ^ width is a byte with none but its upper bits, and its own group number
  occurs : (q : ℕ) → q < levels w p → IsGroup w p (q * 2 ^ width)
  occurs q h =
      let sum : min w (7 - p) + width ≡ 8 = omega arith in
      let kept : Kept w (q * 2 ^ width) = record { byte = subst (λ (k : ℕ). q * 2 ^ width < 2 ^ k) sum (shl_lt (min w (7 - p)) width h); cut = cut } in
      (q * 2 ^ width, kept, group_is w p small (q * 2 ^ width) kept ∙ ap (λ (k : ℕ). k * 2 ^ width) (shl-shr q width))
    where
      cut : q * 2 ^ width % 2 ^ (8 - w) ≡ 0
      cut =
          let j : (width - (8 - w)) + (8 - w) ≡ width = omega arith in
          sym (mod-mod-pow (q * 2 ^ width) (width - (8 - w)) (8 - w))
          ∙ ap (λ (k : ℕ). q * 2 ^ width % 2 ^ k % 2 ^ (8 - w)) j
          ∙ ap (λ (r : ℕ). r % 2 ^ (8 - w)) (mul-mod_left q (2 ^ width))
          ∙ zero-mod (2 ^ (8 - w))

  only : (b : ℕ) → Kept w b → Memᴰ (group_of p b) (multiples (2 ^ width) (levels w p))
  only b h =
      let sum : min w (7 - p) + width ≡ 8 = omega arith in
      let q = shr_lt (min w (7 - p)) width (subst (λ (k : ℕ). b < 2 ^ k) (sym sum) h.byte) in
      Memᴰ.cast (group_is w p small b h) (multiple_there (2 ^ width) (levels w p) (b / 2 ^ width) q)

  -- "L, the count of group numbers", for every number w of kept bits
  pub levels_count : Count (IsGroup w p) (levels w p)
  levels_count =
      record {
        all = multiples (2 ^ width) (levels w p);
        each = λ z. (λ m. let r = multiple_of (2 ^ width) (levels w p) z m in subst (IsGroup w p) (sym r.2) (occurs r.0 r.1), λ g. Memᴰ.cast (sym g.2) (only g.0 g.1));
        once = multiples_distinct (2 ^ width) (levels w p) (omega (arith, suc_ones width));
        many = multiples_length (2 ^ width) (levels w p);
      }
