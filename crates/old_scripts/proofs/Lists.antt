-- Lists that are the same at every number: reads and scans agree, since past the shorter one there is nothing; stores within the shorter one keep them so.
use Prim.Native.Nat.{ℕ, zero, suc, ◌+◌, ◌-◌, ◌*◌, ◌/◌, ◌%◌, ◌≤◌, ◌<◌}
use mathlib.Core.Path.{◌≡◌, refl, sym, ap, ap₂, subst, ◌∙◌}
use mathlib.Core.List.{List, [], ◌∷◌}
use mathlib.Core.Bool.{Bool, true, false, not, cond, ◌||◌}
use native.Mathlib.Nat.{zero-add, suc-add}
use native.Mathlib.Omega.{arith}
use lib.ListN.{length, get_or, set, length-set, replicate, get_or-eq_default}
use lib.Seq.{get_or-set_same, get_or-set_other}
use lib.Dec.{T, eqb}
use lib.IntN.{ℤ, pos, negsuc}
use borrow.Author.Tests.{eqb-true, eqb-false}
use Rattle.bits.specs.Words.{bit}
use Rattle.flag_words.specs.Flags.{on, word_of, put_flag, put_flags, some_flag, any_flag}
use Rattle.grouping.specs.Grouping.{grouped, full_priority, group_priority}
use Rattle.std.specs.Prelude.{Option, Some, None}
use Rattle.priority.specs.Priority.{least_nested, eligible, better, best, best_pending}
use Rattle.priority.proofs.Laws.{unable}
use Rattle.rules.specs.Model.{down}
use Rattle.demand3.proofs.Parts.{get_d_fresh}
use Rattle.old_scripts.specs.Alike.{Same}

-- a choice by two tests that agree
pub both_ways {ℓ ℓ'} : {A : Type ℓ} {B : Type ℓ'} (R : A → B → Type 0) (s t : Bool) → s ≡ t → {x y : A} {x' y' : B} → (T s → R x x') → (T (not s) → R y y') → R (cond s x y) (cond t x' y')
both_ways R true true e f g = f tt
both_ways R false false e f g = g tt
both_ways R true false e f g = absurd (subst T e tt)
both_ways R false true e f g = absurd (subst T (sym e) tt)

-- ---- stores

module _ {A : Type 0} (clear : A) where
  pub same_fresh : (j k : ℕ) → Same clear (replicate j clear) (replicate k clear)
  same_fresh j k = record { each = λ n. get_d_fresh j n clear ∙ sym (get_d_fresh k n clear) }

  -- two lists that read the same at i once stored there
  stored_same : {l r : List A} (i : ℕ) (v : A) → get_or (set l i v) i clear ≡ get_or (set r i v) i clear → Same clear l r → Same clear (set l i v) (set r i v)
  stored_same {l} {r} i v here s = record { each = λ n. go n (eqb n i) refl }
    where
      go : (n : ℕ) (b : Bool) → eqb n i ≡ b → get_or (set l i v) n clear ≡ get_or (set r i v) n clear
      go n true e = rw (eqb-true n i e) here
      go n false e =
          let ne = eqb-false n i e in
          get_or-set_other l i n v clear ne ∙ s.each n ∙ sym (get_or-set_other r i n v clear ne)

  get_d_cleared : (l : List A) (i : ℕ) → get_or (set l i clear) i clear ≡ clear
  get_d_cleared [] i = refl
  get_d_cleared (x ∷ xs) zero = refl
  get_d_cleared (x ∷ xs) (suc i) = get_d_cleared xs i

  -- a place that is cleared, within the list or not
  pub same_clear : {l r : List A} (i : ℕ) → Same clear l r → Same clear (set l i clear) (set r i clear)
  same_clear {l} {r} i s = stored_same i clear (get_d_cleared l i ∙ sym (get_d_cleared r i)) s

-- the same, in lists of these lengths
pub record Held {A : Type 0} (clear : A) (p q : ℕ) (l r : List A) : Type 0 where
  pub short : length l ≡ p
  pub long : length r ≡ q
  pub same : Same clear l r

module _ {p q : ℕ} (more : p ≤ q) where
  pub held_set : {A : Type 0} {clear : A} {l r : List A} (i : ℕ) (v : A) → i < p → Held clear p q l r → Held clear p q (set l i v) (set r i v)
  held_set {clear = clear} {l = l} {r = r} i v f h =
      let s = h.short in
      let t = h.long in
      record { short = length-set l i v ∙ s; long = length-set r i v ∙ t; same = stored_same clear i v (get_or-set_same l i v clear (omega arith) ∙ sym (get_or-set_same r i v clear (omega arith))) h.same }

  held_put_flag : (v : Bool) {l r : List Bool} (i : ℕ) (named : Bool) → i < p → Held false p q l r → Held false p q (put_flag v l i named) (put_flag v r i named)
  unfolding put_flag
  held_put_flag v i true f h = held_set i v f h
  held_put_flag v i false f h = h

  pub held_put : (v : Bool) (k : ℕ) {l r : List Bool} (at w : ℕ) → at + k ≤ p → Held false p q l r → Held false p q (put_flags v k l at w) (put_flags v k r at w)
  unfolding put_flags
  held_put v zero at w f h = h
  held_put v (suc k) at w f h = held_put v k (at + 1) (w / 2) (omega arith) (held_put_flag v at (eqb (w % 2) 1) (omega arith) h)

  -- past the end of the shorter list the longer one is clear
  past : {A : Type 0} {clear : A} {l r : List A} → Held clear p q l r → (n : ℕ) → p ≤ n → get_or r n clear ≡ clear
  past {clear = clear} {l = l} h n f = let s = h.short in sym (h.same.each n) ∙ get_or-eq_default l clear (omega arith)

-- ---- flags as a word, and some flag

pub same_word : (l r : List Bool) (at k : ℕ) → Same false l r → word_of l at k ≡ word_of r at k
unfolding word_of
same_word l r at zero s = refl
same_word l r at (suc k) s = ap₂ (λ (b : Bool) (x : ℕ). bit b + 2 * x) (s.each at) (same_word l r (at + 1) k s)

same_some : (l r : List Bool) (at k : ℕ) → Same false l r → some_flag l at k ≡ some_flag r at k
unfolding some_flag
same_some l r at zero s = refl
same_some l r at (suc k) s = ap₂ (λ (b c : Bool). b || c) (s.each (at + k)) (same_some l r at k s)

some_past_lem : (r : List Bool) (at j k : ℕ) → ((n : ℕ) → at + j ≤ n → on r n ≡ false) → some_flag r at (k + j) ≡ some_flag r at j
unfolding some_flag
some_past_lem r at j zero off = ap (some_flag r at) (zero-add j)
some_past_lem r at j (suc k) off = rw (suc-add k j, off (at + (k + j)) (omega arith)) (some_past_lem r at j k off)

pub same_any : {p q : ℕ} (l r : List Bool) (at : ℕ) → at ≤ p → p ≤ q → Held false p q l r → any_flag l at ≡ any_flag r at
same_any {p} {q} l r at f more h =
    let s = h.short in
    let t = h.long in
    let e : length l - at ≡ p - at = omega arith in
    let g : length r - at ≡ (q - p) + (p - at) = omega arith in
    ap (some_flag l at) e
    ∙ same_some l r at (p - at) h.same
    ∙ sym (some_past_lem r at (p - at) (q - p) (λ n k. past more h n (omega arith)))
    ∙ ap (some_flag r at) (sym g)

-- ---- the nest

pub same_down : (l r : List ℕ) (k : ℕ) → Same 0 l r → down l k ≡ down r k
same_down l r zero s = refl
same_down l r (suc k) s = ap₂ (λ (x : ℕ) (xs : List ℕ). x ∷ xs) (s.each k) (same_down l r k s)

-- ---- priorities

module _ (p : ℕ) (b b' : List ℕ) (s : Same 0 b b') where
  same_full : (n : ℕ) → full_priority b n ≡ full_priority b' n
  same_full n = ap (λ (x : ℕ). cond (eqb n 2) (negsuc 1) (cond (eqb n 3) (negsuc 0) (pos x))) (s.each n)

  pub same_group : (n : ℕ) → group_priority p b n ≡ group_priority p b' n
  same_group n = ap (grouped p) (same_full n)

  pub same_least : (l r : List ℕ) (k : ℕ) → Same 0 l r → least_nested p b l k ≡ least_nested p b' r k
  unfolding least_nested
  same_least l r zero t = refl
  same_least l r (suc k) t = rw (t.each k, same_group (get_or r k 0), same_least l r k t)

-- ---- the one to enter

better_same : (key key' : ℕ → ℤ) → ((n : ℕ) → key n ≡ key' n) → (able : Bool) (n : ℕ) (f : Option ℕ) → better able key n f ≡ better able key' n f
better_same key key' e able n None = refl
better_same key key' e able n (Some m) = rw (e n, e m)

best_same : (test test' : ℕ → Bool) (key key' : ℕ → ℤ) → ((n : ℕ) → test n ≡ test' n) → ((n : ℕ) → key n ≡ key' n) → (k : ℕ) → best test key k ≡ best test' key' k
unfolding best
best_same test test' key key' t e zero = refl
best_same test test' key key' t e (suc k) =
    rw (best_same test test' key key' t e k, t k) (better_same key key' e (test' k) k (best test' key' k))

best_past : (test : ℕ → Bool) (key : ℕ → ℤ) (j k : ℕ) → ((n : ℕ) → j ≤ n → test n ≡ false) → best test key (k + j) ≡ best test key j
unfolding best
best_past test key j zero off = ap (best test key) (zero-add j)
best_past test key j (suc k) off =
    rw (suc-add k j, off (k + j) (omega arith)) (unable key (k + j) (best test key (k + j)) ∙ best_past test key j k off)

module _ (p : ℕ) (b b' : List ℕ) (s : Same 0 b b') (limit : ℤ) where
  same_eligible : (l r e f : List Bool) → Same false l r → Same false e f → (n : ℕ) → eligible p b l e limit n ≡ eligible p b' r f limit n
  same_eligible l r e f t u n = rw (t.each n, u.each n, same_group p b b' s n)

  pub same_best : {j k : ℕ} (l r e f : List Bool) → j ≤ k → Held false j k l r → Same false e f → best_pending p b l e limit ≡ best_pending p b' r f limit
  unfolding best_pending
  same_best {j} {k} l r e f more h u =
      let x = h.long in
      let q : length r ≡ (k - j) + j = omega arith in
      ap (best (eligible p b l e limit) (full_priority b)) h.short
      ∙ best_same _ _ _ _ (same_eligible l r e f h.same u) (same_full p b b' s) j
      ∙ sym (best_past _ _ j (k - j) (λ n g. rw (past more h n g)))
      ∙ ap (best (eligible p b' r f limit) (full_priority b')) (sym q)
