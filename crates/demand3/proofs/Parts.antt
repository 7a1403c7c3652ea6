-- The parts of a sound model, each kept by what an event does to the fields that it names.
use Prim.Native.Nat.{ℕ, zero, suc, pred, ◌-◌, ◌^◌, ◌≤◌, ◌<◌, min}
use mathlib.Core.Path.{◌≡◌, refl, sym, ap, ap₂, subst, ◌∙◌}
use mathlib.Core.Logic.{◌≢◌, ◌⊎◌, inl, inr}
use mathlib.Core.List.Memᴰ
use mathlib.Core.List.{List, [], ◌∷◌, Memᴰ}
use mathlib.Core.Bool.{Bool, true, false}
use native.Mathlib.Nat.{le_refl, zero-mod}
use native.Mathlib.Omega.{arith}
use lib.ListN.{length, get_or, set, replicate, length-set, length-replicate}
use lib.Seq.{get_or-set_same, get_or-set_other}
use lib.Dec.{T, eqb}
use lib.IntN.{ℤ}
use borrow.Author.Tests.{eqb-true, eqb-false}
use Rattle.flag_words.specs.Flags.{on, put_flags}
use Rattle.flag_words.specs.FlagLaws.{length_put_flags, Named, put_on}
use Rattle.grouping.specs.Grouping.{kept_byte}
use Rattle.bools.specs.Every.{below_suc}
use Rattle.priority.specs.Order.{Rising}
use Rattle.priority.specs.Levels.{Kept}
use Rattle.priority.proofs.Levels.{kept_byte_lem, kept_same}
use Rattle.rules.specs.declared.Chip.{Chip}
use Rattle.rules.specs.declared.Place.{Place}
use Rattle.rules.specs.declared.Place.TheVariants.{Exception}
use Rattle.rules.specs.Chip.{flag_count, exception_count, has_byte, stands}
use Rattle.rules.specs.Model.{down, top}
use Rattle.rules.specs.Sound.{Flags, PriorityBytes, Nested, Places, Counts}
use Rattle.rules.specs.Events.{one_more}
use Rattle.demand3.specs.Demand3.{drop_top}
use Rattle.rules.proofs.Laws.{is_line_lem, line_stands}
use Rattle.demand3.proofs.Exceptions.{few_exceptions}

pub get_d_fresh {ℓ} : {A : Type ℓ} (k n : ℕ) (a : A) → get_or (replicate k a) n a ≡ a
get_d_fresh zero n a = refl
get_d_fresh (suc k) zero a = refl
get_d_fresh (suc k) (suc n) a = get_d_fresh k n a

-- ---- flags

on_set : (l : List Bool) (i : ℕ) (b : Bool) (n : ℕ) → T (on (set l i b) n) → ((n ≡ i) × T b) ⊎ ((n ≢ i) × T (on l n))
on_set [] i b n t = absurd t
on_set (x ∷ xs) zero b zero t = inl (refl, t)
on_set (x ∷ xs) zero b (suc n) t = inr (omega arith, t)
on_set (x ∷ xs) (suc i) b zero t = inr (omega arith, t)
on_set (x ∷ xs) (suc i) b (suc n) t = go (on_set xs i b n t)
  where
    go : ((n ≡ i) × T b) ⊎ ((n ≢ i) × T (on xs n)) → ((suc n ≡ suc i) × T b) ⊎ ((suc n ≢ suc i) × T (on xs n))
    go (inl p) = inl (ap suc p.0, p.1)
    go (inr p) = let ne = p.0 in inr (omega arith, p.1)

on_other : (l : List Bool) (i : ℕ) (b : Bool) (n : ℕ) → n ≢ i → T (on l n) → T (on (set l i b) n)
on_other l i b n ne t = rw (get_or-set_other l i n b false ne) t

on_same : (l : List Bool) (i : ℕ) → i < length l → T (on (set l i true) i)
on_same l i h = rw (get_or-set_same l i true false h) tt

module _ (c : Chip) (place : Place) where
  pub flags_set : (l : List Bool) (i : ℕ) (b : Bool) → (T b → T (stands c place i)) → Flags c place l → Flags c place (set l i b)
  flags_set l i b h f = record { size = length-set l i b ∙ f.size; only = λ n t. go n (on_set l i b n t) }
    where
      go : (n : ℕ) → ((n ≡ i) × T b) ⊎ ((n ≢ i) × T (on l n)) → T (stands c place n)
      go n (inl p) = subst (λ x. T (stands c place x)) (sym p.0) (h p.1)
      go n (inr p) = f.only n p.1

  -- a word written to the flags of lines
  pub flags_put : (v : Bool) (k : ℕ) (l : List Bool) (i w : ℕ) → 16 ≤ i → Flags c place l → Flags c place (put_flags v k l i w)
  flags_put v k l i w h f = record { size = length_put_flags v k l i w ∙ f.size; only = λ n t. go n (put_on v k l i w n t) }
    where
      go : (n : ℕ) → T (on l n) ⊎ Named v k l i w n → T (stands c place n)
      go n (inl t) = f.only n t
      go n (inr p) =
          let a = p.from in
          let b = p.within in
          let e = f.size in
          line_stands c n place (is_line_lem c n (omega arith) (omega arith))

  pub flags_fresh : Flags c place (replicate (flag_count c) false)
  flags_fresh = record { size = length-replicate (flag_count c) false; only = λ n t. absurd (rw (get_d_fresh (flag_count c) n false) at t) }

-- ---- priority bytes

pub kept_byte_twice : (w b : ℕ) → kept_byte w (kept_byte w b) ≡ kept_byte w b
kept_byte_twice w b = kept_same w (kept_byte w b) (kept_byte_lem w b)

pub kept_byte_zero : (w : ℕ) → kept_byte w 0 ≡ 0
kept_byte_zero w = kept_same w 0 (record { byte = omega arith; cut = zero-mod (2 ^ (8 - w)) })

get_d_set_both {ℓ} : {A : Type ℓ} (P : A → Type 0) (l : List A) (i : ℕ) (b : A) (n : ℕ) (d : A) → P b → P (get_or l n d) → P (get_or (set l i b) n d)
get_d_set_both P [] i b n d p q = q
get_d_set_both P (x ∷ xs) zero b zero d p q = p
get_d_set_both P (x ∷ xs) zero b (suc n) d p q = q
get_d_set_both P (x ∷ xs) (suc i) b zero d p q = q
get_d_set_both P (x ∷ xs) (suc i) b (suc n) d p q = get_d_set_both P xs i b n d p q

module _ (c : Chip) where
  pub bytes_set : (l : List ℕ) (i b : ℕ) → T (has_byte c i) → PriorityBytes c l → PriorityBytes c (set l i (kept_byte c.bits b))
  bytes_set l i b t h =
      record {
        size = length-set l i (kept_byte c.bits b) ∙ h.size;
        each = λ n. get_d_set_both (λ x. kept_byte c.bits x ≡ x) l i (kept_byte c.bits b) n 0 (kept_byte_twice c.bits b) (h.each n);
        none = λ n no. get_or-set_other l i n (kept_byte c.bits b) 0 (λ e. no (subst (λ x. T (has_byte c x)) (sym e) t)) ∙ h.none n no;
      }

  pub bytes_fresh : PriorityBytes c (replicate (flag_count c) 0)
  bytes_fresh =
      record {
        size = length-replicate (flag_count c) 0;
        each = λ n. rw (get_d_fresh {A = ℕ} (flag_count c) n 0) (kept_byte_zero c.bits);
        none = λ n _. get_d_fresh (flag_count c) n 0;
      }

  pub bytes_kept : (l : List ℕ) → PriorityBytes c l → (n : ℕ) → Kept c.bits (get_or l n 0)
  bytes_kept l h n = subst (Kept c.bits) (h.each n) (kept_byte_lem c.bits (get_or l n 0))

-- ---- counts

pub counts_more : (c : Chip) (l : List ℕ) (line : ℕ) → Counts c l → Counts c (one_more line l)
unfolding one_more
counts_more c l line h =
    let n = min (suc (get_or l line 0)) 65535 in
    let held : n ≤ 65535 = omega arith in
    record { size = length-set l line n ∙ h.size; most = λ i. get_d_set_both (λ x. x ≤ 65535) l line n i 0 held (h.most i) }

pub counts_fresh : (c : Chip) → Counts c (replicate c.lines 0)
counts_fresh c = record { size = length-replicate c.lines 0; most = λ i. rw (get_d_fresh {A = ℕ} c.lines i 0) (omega arith) }

-- ---- the nest: its places, and the list of those in use

pub down_length : (l : List ℕ) (d : ℕ) → length (down l d) ≡ d
down_length l zero = refl
down_length l (suc d) = ap suc (down_length l d)

pub down_set : (l : List ℕ) (i v d : ℕ) → d ≤ i → down (set l i v) d ≡ down l d
down_set l i v zero h = refl
down_set l i v (suc d) h = ap₂ (λ (x : ℕ) (xs : List ℕ). x ∷ xs) (get_or-set_other l i d v 0 (omega arith)) (down_set l i v d (omega arith))

pub down_push : (l : List ℕ) (d n : ℕ) → d < length l → down (set l d n) (suc d) ≡ n ∷ down l d
down_push l d n h = ap₂ (λ (x : ℕ) (xs : List ℕ). x ∷ xs) (get_or-set_same l d n 0 h) (down_set l d n d (le_refl d))

pub down_top : (l : List ℕ) (d : ℕ) → 0 < d → down l d ≡ top (down l d) ∷ down l (pred d)
down_top l zero h = absurd (omega arith)
down_top l (suc d) h = refl

pub down_pop : (l : List ℕ) (d : ℕ) → down (set l (pred d) 0) (pred d) ≡ drop_top (down l d)
down_pop l zero = refl
down_pop l (suc d) = down_set l d 0 d (le_refl d)

-- a number in use stands at one of the first places
pub down_place : (l : List ℕ) (d n : ℕ) → Memᴰ n (down l d) → (i : ℕ) × (i < d) × (get_or l i 0 ≡ n)
down_place l zero n m = absurd (Memᴰ.not-nil m)
down_place l (suc d) n m = go (λ k. down_place l d n k) (Memᴰ.cases_cons m)
  where
    go : (Memᴰ n (down l d) → (i : ℕ) × (i < d) × (get_or l i 0 ≡ n)) → (n ≡ get_or l d 0) ⊎ Memᴰ n (down l d) → (i : ℕ) × (i < suc d) × (get_or l i 0 ≡ n)
    go below (inl e) = (d, le_refl (suc d), sym e)
    go below (inr k) = let p = below k in (p.0, let q = p.1 in omega arith, p.2)

pub place_down : (l : List ℕ) (d i : ℕ) → i < d → Memᴰ (get_or l i 0) (down l d)
place_down l zero i h = absurd (omega arith)
place_down l (suc d) i h =
    below_suc i d h (λ e. Memᴰ.head (ap (λ (j : ℕ). get_or l j 0) e)) (λ k. Memᴰ.tail (place_down l d i k))

module _ (c : Chip) (l : List ℕ) (d : ℕ) (h : Places c l d) where
  pub places_push : (n : ℕ) → Places c (set l d n) (suc d)
  places_push n =
      record { size = length-set l d n ∙ h.size; unused = λ i k. get_or-set_other l d i n 0 (omega arith) ∙ h.unused i (omega arith) }

  pub places_pop : 0 < d → d ≤ exception_count c → Places c (set l (pred d) 0) (pred d)
  places_pop some fit = record { size = length-set l (pred d) 0 ∙ h.size; unused = λ i k. go i k (eqb i (pred d)) refl }
    where
      go : (i : ℕ) → pred d ≤ i → (b : Bool) → eqb i (pred d) ≡ b → get_or (set l (pred d) 0) i 0 ≡ 0
      go i k true e =
          let q = eqb-true i (pred d) e in
          let z = h.size in
          rw q (get_or-set_same l (pred d) 0 0 (omega arith))
      go i k false e =
          let q = eqb-false i (pred d) e in
          get_or-set_other l (pred d) i 0 0 q ∙ h.unused i (omega arith)

pub places_fresh : (c : Chip) → Places c (replicate (exception_count c) 0) 0
places_fresh c = record { size = length-replicate (exception_count c) 0; unused = λ i _. get_d_fresh (exception_count c) i 0 }

pub nested_push : (active : List Bool) (xs : List ℕ) (n : ℕ) → n < length active → (T (on active n) → ⊥) → Nested active xs → Nested (set active n true) (n ∷ xs)
nested_push active xs n l quiet h =
    record { distinct = (λ m. quiet (h.shown n m), h.distinct); shown = λ m k. show m (Memᴰ.cases_cons k); stacked = λ m t. pile m (on_set active n true m t) }
  where
    show : (m : ℕ) → (m ≡ n) ⊎ Memᴰ m xs → T (on (set active n true) m)
    show m (inl e) = subst (λ x. T (on (set active n true) x)) (sym e) (on_same active n l)
    show m (inr k) = on_other active n true m (λ e. quiet (subst (λ x. T (on active x)) e (h.shown m k))) (h.shown m k)

    pile : (m : ℕ) → ((m ≡ n) × T true) ⊎ ((m ≢ n) × T (on active m)) → Memᴰ m (n ∷ xs)
    pile m (inl p) = Memᴰ.head p.0
    pile m (inr p) = Memᴰ.tail (h.stacked m p.1)

pub nested_pop : (active : List Bool) (n : ℕ) (xs : List ℕ) → Nested active (n ∷ xs) → Nested (set active n false) xs
nested_pop active n xs h =
    record { distinct = h.distinct.1; shown = show; stacked = λ m t. pile m (on_set active n false m t) }
  where
    show : (m : ℕ) → Memᴰ m xs → T (on (set active n false) m)
    show m k = on_other active n false m (λ e. h.distinct.0 (Memᴰ.cast (sym e) k)) (h.shown m (Memᴰ.tail k))

    rest : (m : ℕ) → m ≢ n → (m ≡ n) ⊎ Memᴰ m xs → Memᴰ m xs
    rest m ne (inl e) = absurd (ne e)
    rest m ne (inr k) = k

    pile : (m : ℕ) → ((m ≡ n) × T false) ⊎ ((m ≢ n) × T (on active m)) → Memᴰ m xs
    pile m (inl p) = absurd p.1
    pile m (inr p) = rest m p.0 (Memᴰ.cases_cons (h.stacked m p.1))

pub nested_fits : (c : Chip) (active : List Bool) (xs : List ℕ) → Flags c Exception active → Nested active xs → length xs ≤ exception_count c
nested_fits c active xs f h = few_exceptions c xs h.distinct (λ n m. f.only n (h.shown n m))

pub rising_drop : (key : ℕ → ℤ) (xs : List ℕ) → Rising key xs → Rising key (drop_top xs)
rising_drop key [] r = r
rising_drop key (x ∷ xs) r = r.1
