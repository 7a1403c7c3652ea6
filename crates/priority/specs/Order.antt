-- Facts with no exception in them: the order of the signed numbers, lists of distinct numbers, lists that rise.
use Rattle.std.specs.Prelude.{ℕ, suc, ◌-◌, ◌≤◌, ◌<◌, ◌≡◌, refl, ◌≢◌, ◌⊎◌, Bool, true, false, length, get_or, T, ltb, ℤ, pos, negsuc, ◌≤ℤ◌, ◌<ℤ◌}
use Rattle.std.proofs.Common.{zero-le, suc-le-suc, sym, ap, subst, ◌∙◌, inl, inr, le_antisymm, le_trans, arith, leb→le, le→leb, ltb→lt, nltb→le}
use mathlib.Core.List.Memᴰ
use mathlib.Core.List.{List, [], ◌∷◌, Memᴰ}
use Rattle.std.proofs.Math.ListN.{get_or-eq_default}
use Rattle.std.specs.Int.Signed.{lt_z, le_z, le_z_yes, lt_z_yes, lt_z_no, ≤ℤ_refl}
use Rattle.bools.specs.Tests.{is_true, is_false, fails, by_cases}
use Rattle.priority.specs.Priority.{under}

-- no number of the list comes again
abbrev pub Distinct : List ℕ → Type 0
Distinct [] = Unit {0}
Distinct (x ∷ xs) = (Memᴰ x xs → ⊥) × Distinct xs

-- each key is below all that come after it
abbrev pub Rising : (ℕ → ℤ) → List ℕ → Type 0
Rising key [] = Unit {0}
Rising key (x ∷ xs) = ((n : ℕ) → Memᴰ n xs → key x <ℤ key n) × Rising key xs

-- a flag that is set stands within the list
pub flag_below : (flags : List Bool) (n : ℕ) → T (get_or flags n false) → n < length flags
flag_below flags n t = go (ltb n (length flags)) refl
  where
    go : (b : Bool) → ltb n (length flags) ≡ b → n < length flags
    go true e = ltb→lt n (length flags) (is_true e)
    go false e = absurd (is_false (get_or-eq_default flags false (nltb→le n (length flags) (fails e))) t)

-- ---- the order

le_le : (a b c : ℤ) → T (le_z a b) → T (le_z b c) → T (le_z a c)
le_le (pos a) (pos b) (pos c) h k = le→leb a c (le_trans (leb→le a b h) (leb→le b c k))
le_le (pos a) (pos b) (negsuc c) h k = k
le_le (pos a) (negsuc b) c h k = absurd h
le_le (negsuc a) (pos b) (pos c) h k = tt
le_le (negsuc a) (pos b) (negsuc c) h k = absurd k
le_le (negsuc a) (negsuc b) (pos c) h k = tt
le_le (negsuc a) (negsuc b) (negsuc c) h k = le→leb c a (le_trans (leb→le c b k) (leb→le b a h))

pub ≤ℤ-trans : {a b c : ℤ} → a ≤ℤ b → b ≤ℤ c → a ≤ℤ c
≤ℤ-trans {a} {b} {c} h k = le_z_yes (le_le a b c h.le k.le)

lt_le : (a b : ℤ) → T (lt_z a b) → T (le_z a b)
lt_le (pos a) (pos b) h = let k : a < b = ltb→lt a b h in le→leb a b (omega arith)
lt_le (pos a) (negsuc b) h = h
lt_le (negsuc a) (pos b) h = tt
lt_le (negsuc a) (negsuc b) h = let k : b < a = ltb→lt b a h in le→leb b a (omega arith)

pub <ℤ-≤ℤ : {a b : ℤ} → a <ℤ b → a ≤ℤ b
<ℤ-≤ℤ {a} {b} h = le_z_yes (lt_le a b h.lt)

anti : (a b : ℤ) → T (le_z a b) → T (le_z b a) → a ≡ b
anti (pos a) (pos b) h k = ap pos (le_antisymm (leb→le a b h) (leb→le b a k))
anti (pos a) (negsuc b) h k = absurd h
anti (negsuc a) (pos b) h k = absurd k
anti (negsuc a) (negsuc b) h k = ap negsuc (le_antisymm (leb→le a b k) (leb→le b a h))

pub ≤ℤ-antisymm : {a b : ℤ} → a ≤ℤ b → b ≤ℤ a → a ≡ b
≤ℤ-antisymm {a} {b} h k = anti a b h.le k.le

pub <ℤ-or-≡ : {a b : ℤ} → a ≤ℤ b → (a <ℤ b) ⊎ (b ≡ a)
<ℤ-or-≡ {a} {b} h = go (lt_z a b) refl
  where
    go : (t : Bool) → lt_z a b ≡ t → (a <ℤ b) ⊎ (b ≡ a)
    go true e = inl (lt_z_yes (is_true e))
    go false e = inr (≤ℤ-antisymm (lt_z_no (fails e)) h)

-- ---- the least of some numbers

pub record Least (Of : ℤ → Type 0) (z : ℤ) : Type 0 where
  pub one : Of z
  pub most : (a : ℤ) → Of a → z ≤ℤ a

pub least_unique : {Of : ℤ → Type 0} {y z : ℤ} → Least Of y → Least Of z → y ≡ z
least_unique {y = y} {z = z} h k = ≤ℤ-antisymm (h.most z k.one) (k.most y h.one)

pub least_same : {P Q : ℤ → Type 0} (z : ℤ) → ((a : ℤ) → P a → Q a) → ((a : ℤ) → Q a → P a) → Least P z → Least Q z
least_same z f g h = record { one = f z h.one; most = λ a q. h.most a (g a q) }

-- a too, where `on` holds
abbrev pub With : Bool → ℤ → (ℤ → Type 0) → ℤ → Type 0
With on a Of z = (T on × (z ≡ a)) ⊎ Of z

pub least_under : (Of : ℤ → Type 0) (on : Bool) (a b : ℤ) → Least Of b → Least (With on a Of) (under on a b)
least_under Of false a b h = record { one = inr h.one; most = each }
  where
    each : (z : ℤ) → (⊥ × (z ≡ a)) ⊎ Of z → b ≤ℤ z
    each z (inl q) = absurd q.0
    each z (inr o) = h.most z o
least_under Of true a b h =
    by_cases (Least (With true a Of)) (lt_z a b)
    (λ t. record { one = inl (tt, refl); most = each a (≤ℤ_refl a) (<ℤ-≤ℤ (lt_z_yes t)) })
    (λ t. record { one = inr h.one; most = each b (lt_z_no t) (≤ℤ_refl b) })
  where
    each : (y : ℤ) → y ≤ℤ a → y ≤ℤ b → (z : ℤ) → (T true × (z ≡ a)) ⊎ Of z → y ≤ℤ z
    each y u v z (inl q) = subst (λ x. y ≤ℤ x) (sym q.1) u
    each y u v z (inr o) = ≤ℤ-trans v (h.most z o)

-- ---- distinct numbers out of a list are no more than it has

without : {x : ℕ} {ys : List ℕ} → Memᴰ x ys → List ℕ
without (Memᴰ.head {xs = l} e) = l
without (Memᴰ.tail {x = y} m) = y ∷ without m

without_length : {x : ℕ} {ys : List ℕ} (m : Memᴰ x ys) → length ys ≡ suc (length (without m))
unfolding without
without_length (Memᴰ.head e) = refl
without_length (Memᴰ.tail m) = ap suc (without_length m)

without_mem : {x n : ℕ} {ys : List ℕ} (m : Memᴰ x ys) → n ≢ x → Memᴰ n ys → Memᴰ n (without m)
unfolding without
without_mem {x} {n} (Memᴰ.head {x = y} {xs = l} e) ne k = go (Memᴰ.cases_cons k)
  where
    go : (n ≡ y) ⊎ Memᴰ n l → Memᴰ n l
    go (inl q) = absurd (ne (q ∙ sym e))
    go (inr t) = t
without_mem {x} {n} (Memᴰ.tail {x = y} {xs = l} m) ne k = go (λ t. without_mem m ne t) (Memᴰ.cases_cons k)
  where
    go : (Memᴰ n l → Memᴰ n (without m)) → (n ≡ y) ⊎ Memᴰ n l → Memᴰ n (y ∷ without m)
    go below (inl q) = Memᴰ.head q
    go below (inr t) = Memᴰ.tail (below t)

pub pigeonhole : (xs ys : List ℕ) → Distinct xs → ((n : ℕ) → Memᴰ n xs → Memᴰ n ys) → length xs ≤ length ys
pigeonhole [] ys d h = zero-le
pigeonhole (x ∷ xs) ys d h =
    let m = h x (Memᴰ.head refl) in
    let rest = pigeonhole xs (without m) d.1 (λ n k. without_mem m (other n k) (h n (Memᴰ.tail k))) in
    rw (without_length m) (suc-le-suc rest)
  where
    other : (n : ℕ) → Memᴰ n xs → n ≢ x
    other n k e = d.0 (Memᴰ.cast (sym e) k)

-- ---- a strictly rising list whose keys have places below K

pub few : (key : ℕ → ℤ) (place : ℕ → ℕ) (K : ℕ) (xs : List ℕ) (j : ℕ)
    → ((n m : ℕ) → Memᴰ n xs → Memᴰ m xs → key n <ℤ key m → place n < place m)
    → ((n : ℕ) → Memᴰ n xs → (j ≤ place n) × (place n < K)) → Rising key xs → length xs ≤ K - j
few key place K [] j mono room rise = zero-le
few key place K (x ∷ xs) j mono room rise =
    let here = room x (Memᴰ.head refl) in
    let rest = few key place K xs (suc j) (λ n m p q. mono n m (Memᴰ.tail p) (Memᴰ.tail q)) above rise.1 in
    omega arith
  where
    above : (n : ℕ) → Memᴰ n xs → (suc j ≤ place n) × (place n < K)
    above n m =
        let up = mono x n (Memᴰ.head refl) (Memᴰ.tail m) (rise.0 n m) in
        let low = room x (Memᴰ.head refl) in
        let high = room n (Memᴰ.tail m) in
        omega arith
