-- What a register keeps of a word is its bits in some fields, bit by bit. So what has only those bits is kept whole, for every register at once.
use Prim.Native.Nat.{ℕ, zero, suc, ◌+◌, ◌-◌, ◌/◌, ◌%◌, ◌^◌, ◌≤◌, ◌<◌}
use mathlib.Core.Path.{◌≡◌, refl, sym, ap, subst, ◌∙◌}
use mathlib.Core.List.{List, [], ◌∷◌}
use mathlib.Core.Bool.{Bool, true, false, not, cond, ◌&&◌}
use native.Mathlib.Nat.{pow-succ', div-lt_iff_lt-mul, div-eq_of_lt, lt_of_lt_of_le}
use native.Mathlib.Omega.{arith}
use lib.Pow as pow
use lib.Dec.{T, ltb, leb, eqb, ltb→lt, leb→le}
use borrow.Author.Tests.{ltb-true, ltb-false, leb-true, leb-false, eqb-true, eqb-false}
use Rattle.bits.specs.Words.{bit, field, kept, bit_at, with_bit, without}
use Rattle.bits.specs.WordLaws.{bit_of_digit, bit_low, half_bit, field_lt, with_bit_other, without_bit, without_lt}
use Rattle.bools.specs.Tests.{both, and_needed}
use Rattle.rules.specs.SystemBlock.{kept_sysctrl, kept_cfgctrl, kept_faultstat, kept_hfaultstat}

-- ---- a word is its bits

lt_pow : (n : ℕ) → n < 2 ^ n
lt_pow zero = omega arith
lt_pow (suc n) = omega (arith, lt_pow n, pow-succ' 2 n)

digit : (x i : ℕ) → x / 2 ^ i % 2 ≡ bit (bit_at i x)
digit x i = sym (bit_of_digit (x / 2 ^ i % 2) (omega arith))

same_below : (n x y : ℕ) → x < 2 ^ n → y < 2 ^ n → ((i : ℕ) → bit_at i x ≡ bit_at i y) → x ≡ y
same_below zero x y h k e = omega arith
same_below (suc n) x y h k e =
    let low : x / 1 % 2 ≡ y / 1 % 2 = digit x 0 ∙ ap bit (e 0) ∙ sym (digit y 0) in
    let high : x / 2 ≡ y / 2 =
    same_below n (x / 2) (y / 2) (omega (arith, pow-succ' 2 n)) (omega (arith, pow-succ' 2 n))
    (λ i. rw (half_bit x i, half_bit y i) (e (suc i))) in
    omega arith

pub same_bits : (x y : ℕ) → ((i : ℕ) → bit_at i x ≡ bit_at i y) → x ≡ y
same_bits x y e =
    same_below (x + y) x y
    (lt_of_lt_of_le (lt_pow x) (pow.pow_mono (omega arith)))
    (lt_of_lt_of_le (lt_pow y) (pow.pow_mono (omega arith))) e

-- no bit stands from n on in what is below 2 ^ n
bit_above : (n x i : ℕ) → x < 2 ^ n → n ≤ i → bit_at i x ≡ false
bit_above n x i h l =
    let e : x / 2 ^ i ≡ 0 = div-eq_of_lt (lt_of_lt_of_le h (pow.pow_mono l)) in
    rw e

-- ---- fields (h, l) of a word, the highest first

kept_in : List (ℕ × ℕ) → ℕ → ℕ
kept_in [] x = 0
kept_in (f ∷ fs) x = kept f.0 f.1 x + kept_in fs x

abbrev pub inside : List (ℕ × ℕ) → ℕ → Bool
inside [] i = false
inside (f ∷ fs) i = cond (ltb i f.1) (inside fs i) (leb i f.0)

-- each field is below k, and all after it are below it
falling : ℕ → List (ℕ × ℕ) → Bool
falling k [] = true
falling k (f ∷ fs) = ltb f.0 k && leb f.1 f.0 && falling f.1 fs

module _ (h l x r : ℕ) (less : l ≤ h) (below : r < 2 ^ l) where
  first_up : (kept h l x + r) / 2 ^ l ≡ field h l x
  first_up = pow.high (field h l x) l below

  first_lt : kept h l x + r < 2 ^ (h + 1)
  first_lt =
      let e : h + 1 - l + l ≡ h + 1 = omega arith in
      let q : (kept h l x + r) / 2 ^ l < 2 ^ (h + 1 - l) = rw first_up (field_lt h l x) in
      subst (λ (k : ℕ). kept h l x + r < k) (sym (pow.pow-add 2 (h + 1 - l) l) ∙ ap (λ (k : ℕ). 2 ^ k) e) ((div-lt_iff_lt-mul (pow.pow_pos l)).0 q)

  -- below the field
  first_low : (i : ℕ) → i < l → bit_at i (kept h l x + r) ≡ bit_at i r
  first_low i k =
      ap (λ (d : ℕ). eqb d 1)
      (sym (bit_low (kept h l x + r) i l k) ∙ ap (λ (y : ℕ). y / 2 ^ i % 2) (pow.low (field h l x) l below))

  shifted : (y i : ℕ) → l ≤ i → y / 2 ^ l / 2 ^ (i - l) ≡ y / 2 ^ i
  shifted y i k = let e : l + (i - l) ≡ i = omega arith in rw e at (pow.shr-shr y l (i - l))

  -- in it
  first_in_lem : (i : ℕ) → l ≤ i → i ≤ h → bit_at i (kept h l x + r) ≡ bit_at i x
  first_in_lem i k j =
      ap (λ (d : ℕ). eqb d 1)
      (ap (λ (y : ℕ). y % 2) (sym (shifted (kept h l x + r) i k) ∙ ap (λ (y : ℕ). y / 2 ^ (i - l)) first_up)
      ∙ bit_low (x / 2 ^ l) (i - l) (h + 1 - l) (omega arith)
      ∙ ap (λ (y : ℕ). y % 2) (shifted x i k))

  -- the bits of a sum of fields, where r has those of the fields below
  first_bit : (within : Bool) (i : ℕ) → bit_at i r ≡ within && bit_at i x → bit_at i (kept h l x + r) ≡ cond (ltb i l) within (leb i h) && bit_at i x
  first_bit within i e = go (ltb i l) refl (leb i h) refl
    where
      go : (a : Bool) → ltb i l ≡ a → (b : Bool) → leb i h ≡ b → bit_at i (kept h l x + r) ≡ cond a within b && bit_at i x
      go true p b q = first_low i (ltb-true i l p) ∙ e
      go false p true q = first_in_lem i (ltb-false i l p) (leb-true i h q)
      go false p false q = let k = leb-false i h q in bit_above (h + 1) (kept h l x + r) i first_lt (omega arith)

record KeptBits (k : ℕ) (fs : List (ℕ × ℕ)) (x : ℕ) : Type 0 where
  under : kept_in fs x < 2 ^ k
  bits : (i : ℕ) → bit_at i (kept_in fs x) ≡ inside fs i && bit_at i x

kept_in_lem : (k : ℕ) (fs : List (ℕ × ℕ)) (x : ℕ) → T (falling k fs) → KeptBits k fs x
unfolding kept_in falling
kept_in_lem k [] x t = record { under = pow.pow_pos k; bits = λ i. bit_above 0 0 i (omega arith) (omega arith) }
kept_in_lem k (f ∷ fs) x t =
    let p = both (ltb f.0 k && leb f.1 f.0) (falling f.1 fs) t in
    let q = both (ltb f.0 k) (leb f.1 f.0) p.0 in
    let rest = kept_in_lem f.1 fs x p.1 in
    let less = leb→le f.1 f.0 q.1 in
    let small = ltb→lt f.0 k q.0 in
    record {
      under = lt_of_lt_of_le (first_lt f.0 f.1 x (kept_in fs x) less rest.under) (pow.pow_mono (omega arith));
      bits = λ i. first_bit f.0 f.1 x (kept_in fs x) less rest.under (inside fs i) i (rest.bits i);
    }

-- ---- a word with no bit outside the fields

record Only (fs : List (ℕ × ℕ)) (x : ℕ) : Type 0 where
  each : (i : ℕ) → T (bit_at i x) → T (inside fs i)

module _ (k : ℕ) (fs : List (ℕ × ℕ)) (fall : T (falling k fs)) where
  only_kept : (x : ℕ) → Only fs (kept_in fs x)
  only_kept x = record { each = λ i t. (both (inside fs i) (bit_at i x) (subst T ((kept_in_lem k fs x fall).bits i) t)).0 }

  kept_only : (x : ℕ) → Only fs x → kept_in fs x ≡ x
  kept_only x h = same_bits (kept_in fs x) x (λ i. (kept_in_lem k fs x fall).bits i ∙ and_needed (inside fs i) (bit_at i x) (h.each i))

  -- whatever is left of a kept word with a bit of the fields put into it, or without the bits of another
  kept_with : (j : ℕ) (b : Bool) (x : ℕ) → T (inside fs j) → kept_in fs x ≡ x → kept_in fs (with_bit j b x) ≡ with_bit j b x
  kept_with j b x t e = kept_only (with_bit j b x) (record { each = λ i u. go i (eqb i j) refl u })
    where
      old : Only fs x
      old = subst (Only fs) e (only_kept x)

      go : (i : ℕ) (u : Bool) → eqb i j ≡ u → T (bit_at i (with_bit j b x)) → T (inside fs i)
      go i true q u = subst (λ (n : ℕ). T (inside fs n)) (sym (eqb-true i j q)) t
      go i false q u = old.each i (subst T (with_bit_other j b x i (eqb-false i j q)) u)

  kept_without : (n x y : ℕ) → kept_in fs x ≡ x → kept_in fs (without n x y) ≡ without n x y
  kept_without n x y e = kept_only (without n x y) (record { each = λ i u. go i (ltb i n) refl u })
    where
      old : Only fs x
      old = subst (Only fs) e (only_kept x)

      go : (i : ℕ) (b : Bool) → ltb i n ≡ b → T (bit_at i (without n x y)) → T (inside fs i)
      go i true q u = old.each i (both (bit_at i x) (not (bit_at i y)) (subst T (without_bit n x y i (ltb-true i n q)) u)).0
      go i false q u = absurd (subst T (bit_above n (without n x y) i (without_lt n x y) (ltb-false i n q)) u)

  kept_again : (x : ℕ) → kept_in fs (kept_in fs x) ≡ kept_in fs x
  kept_again x = kept_only (kept_in fs x) (only_kept x)

-- ---- the registers of the system block

abbrev sysctrl_fields : List (ℕ × ℕ)
sysctrl_fields = (4, 4) ∷ (2, 1) ∷ []

abbrev cfgctrl_fields : List (ℕ × ℕ)
cfgctrl_fields = (9, 8) ∷ (4, 3) ∷ (1, 1) ∷ []

abbrev pub faultstat_fields : List (ℕ × ℕ)
faultstat_fields = (25, 24) ∷ (19, 15) ∷ (9, 7) ∷ (1, 0) ∷ []

abbrev hfaultstat_fields : List (ℕ × ℕ)
hfaultstat_fields = (30, 30) ∷ []

sysctrl_is : (x : ℕ) → kept_in sysctrl_fields x ≡ kept_sysctrl x
unfolding kept_in
sysctrl_is x = omega arith

cfgctrl_is : (x : ℕ) → kept_in cfgctrl_fields x ≡ kept_cfgctrl x
unfolding kept_in
cfgctrl_is x = omega arith

faultstat_is : (x : ℕ) → kept_in faultstat_fields x ≡ kept_faultstat x
unfolding kept_in
faultstat_is x = omega arith

hfaultstat_is : (x : ℕ) → kept_in hfaultstat_fields x ≡ kept_hfaultstat x
unfolding kept_in
hfaultstat_is x = omega arith

-- a law of `kept_in` is one of a register that keeps those fields
twice : (keeps : ℕ → ℕ) (fs : List (ℕ × ℕ)) → ((x : ℕ) → kept_in fs x ≡ keeps x) → T (falling 32 fs) → (x : ℕ) → keeps (keeps x) ≡ keeps x
twice keeps fs e fall x = sym (e (keeps x)) ∙ ap (kept_in fs) (sym (e x)) ∙ kept_again 32 fs fall x ∙ e x

pub sysctrl_twice : (x : ℕ) → kept_sysctrl (kept_sysctrl x) ≡ kept_sysctrl x
unfolding falling
sysctrl_twice x = twice kept_sysctrl sysctrl_fields sysctrl_is tt x

pub cfgctrl_twice : (x : ℕ) → kept_cfgctrl (kept_cfgctrl x) ≡ kept_cfgctrl x
unfolding falling
cfgctrl_twice x = twice kept_cfgctrl cfgctrl_fields cfgctrl_is tt x

pub faultstat_with : (b x : ℕ) → T (inside faultstat_fields b) → kept_faultstat x ≡ x → kept_faultstat (with_bit b true x) ≡ with_bit b true x
unfolding falling
faultstat_with b x t e = sym (faultstat_is (with_bit b true x)) ∙ kept_with 32 faultstat_fields tt b true x t (faultstat_is x ∙ e)

pub faultstat_without : (x y : ℕ) → kept_faultstat x ≡ x → kept_faultstat (without 32 x y) ≡ without 32 x y
unfolding falling
faultstat_without x y e = sym (faultstat_is (without 32 x y)) ∙ kept_without 32 faultstat_fields tt 32 x y (faultstat_is x ∙ e)

pub hfaultstat_with : (b : Bool) (x : ℕ) → kept_hfaultstat x ≡ x → kept_hfaultstat (with_bit 30 b x) ≡ with_bit 30 b x
unfolding falling
hfaultstat_with b x e = sym (hfaultstat_is (with_bit 30 b x)) ∙ kept_with 32 hfaultstat_fields tt 30 b x tt (hfaultstat_is x ∙ e)

pub hfaultstat_without : (x y : ℕ) → kept_hfaultstat x ≡ x → kept_hfaultstat (without 32 x y) ≡ without 32 x y
unfolding falling
hfaultstat_without x y e = sym (hfaultstat_is (without 32 x y)) ∙ kept_without 32 hfaultstat_fields tt 32 x y (hfaultstat_is x ∙ e)
