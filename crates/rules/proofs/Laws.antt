-- Laws of these definitions that the code of every chip and the third demand both use.
use Rattle.std.specs.Prelude.{ℕ, ◌+◌, ◌≤◌, ◌<◌, ◌≡◌, refl, ◌⊎◌, Bool, true, false, ◌&&◌, ◌||◌, length, get_or, T, ltb, leb, eqb}
use Rattle.std.proofs.Common.{sym, subst, inl, inr, arith, ltb→lt, lt→ltb, le→leb, eqb→eq}
use mathlib.Core.List.Memᴰ
use mathlib.Core.List.{List, [], ◌∷◌, Memᴰ}
use Rattle.std.proofs.Math.Dec.{eqb_refl}
use Rattle.bits.specs.Words.{kept}
use Rattle.bits.specs.WordLaws.{kept_lt}
use Rattle.bools.specs.Tests.{true_is, is_false, both, join, either, or_right, by_cases}
use Rattle.bools.specs.Every.{every, every_of}
use Rattle.rules.specs.declared.Chip.{Chip}
use Rattle.rules.specs.declared.Place.{Place}
use Rattle.rules.specs.declared.Place.TheVariants.{Exception, Enable, Line}
use Rattle.rules.specs.Chip.{is_armv6m, is_in, flag_count, exception_count, configurable, system_exceptions, is_line, stands}
use Rattle.rules.specs.SystemBlock.{kept_vtable}
use Rattle.rules.specs.Sound.{count_sound}
use Rattle.rules.specs.Nesting.{link_fits}
use Rattle.rules.specs.Laws.{all}

-- ---- a number in a list

pub is_in_mem : (n : ℕ) (xs : List ℕ) → T (is_in n xs) → Memᴰ n xs
is_in_mem n [] t = absurd t
is_in_mem n (x ∷ xs) t = go (λ h. is_in_mem n xs h) (either (eqb n x) (is_in n xs) t)
  where
    go : (T (is_in n xs) → Memᴰ n xs) → T (eqb n x) ⊎ T (is_in n xs) → Memᴰ n (x ∷ xs)
    go below (inl e) = Memᴰ.head (eqb→eq n x e)
    go below (inr h) = Memᴰ.tail (below h)

pub mem_is_in : (n : ℕ) (xs : List ℕ) → Memᴰ n xs → T (is_in n xs)
mem_is_in n [] m = absurd (Memᴰ.not-nil m)
mem_is_in n (x ∷ xs) m = go (eqb n x) refl (λ k. mem_is_in n xs k) (Memᴰ.cases_cons m)
  where
    go : (b : Bool) → eqb n x ≡ b → (Memᴰ n xs → T (is_in n xs)) → (n ≡ x) ⊎ Memᴰ n xs → T (b || is_in n xs)
    go true e below k = tt
    go false e below (inl q) = absurd (is_false e (subst (λ y. T (eqb n y)) q (eqb_refl n)))
    go false e below (inr k) = below k

-- what a test says of each number of a closed list, it says of a number in it
pub in_all : (p : ℕ → Bool) (n : ℕ) (xs : List ℕ) → T (all p xs) → T (is_in n xs) → T (p n)
unfolding all
in_all p n [] t i = absurd i
in_all p n (x ∷ xs) t i = go (both (p x) (all p xs) t) (λ u k. in_all p n xs u k) (either (eqb n x) (is_in n xs) i)
  where
    go : T (p x) × T (all p xs) → (T (all p xs) → T (is_in n xs) → T (p n)) → T (eqb n x) ⊎ T (is_in n xs) → T (p n)
    go u below (inl e) = subst (λ y. T (p y)) (sym (eqb→eq n x e)) u.0
    go u below (inr k) = below u.1 k

-- ---- lines

pub is_line_lem : (c : Chip) (n : ℕ) → 16 ≤ n → n < flag_count c → T (is_line c n)
is_line_lem c n l h = join (leb 16 n) (ltb n (flag_count c)) (le→leb 16 n l) (lt→ltb n (flag_count c) h)

-- a flag of any kind may stand at a line
pub line_stands : (c : Chip) (n : ℕ) (place : Place) → T (is_line c n) → T (stands c place n)
line_stands c n Exception t = or_right (is_in n (system_exceptions c)) (is_line c n) t
line_stands c n Enable t = or_right (is_in n (configurable c)) (is_line c n) t
line_stands c n Line t = t

-- ---- how many exceptions there are

pub few_exist : (c : Chip) → exception_count c ≤ 8 + c.lines
few_exist c =
    by_cases (λ (xs : List ℕ). length (2 ∷ 3 ∷ 11 ∷ 14 ∷ 15 ∷ xs) + c.lines ≤ 8 + c.lines) (is_armv6m c) (λ _. omega arith) (λ _. omega arith)

-- ---- counts

pub counts_held : (lost : List ℕ) (k : ℕ) → ((line : ℕ) → get_or lost line 0 ≤ 65535) → every (count_sound lost) k ≡ true
unfolding count_sound
counts_held lost k f = true_is (every (count_sound lost) k) (every_of (count_sound lost) k (λ line _. le→leb (get_or lost line 0) 65535 (f line)))

-- ---- the vector table

-- the highest vector's address is a word too
pub vtable_below : (c : Chip) (x : ℕ) → kept_vtable c x ≡ x → x < 0x40000000
vtable_below c x e =
    subst (λ (y : ℕ). y < 0x40000000) e
    (by_cases (λ (l : ℕ). kept 29 l x < 0x40000000) (leb (flag_count c) 128) (λ _. kept_lt 29 9 x (omega arith)) (λ _. kept_lt 29 10 x (omega arith)))

-- ---- return

-- a link value that fits has something to return from
pub link_deep : (depth v : ℕ) → T (link_fits depth v) → 0 < depth
unfolding link_fits
link_deep depth v t = go (either (eqb v 0xFFFFFFF1 && ltb 1 depth) ((eqb v 0xFFFFFFF9 || eqb v 0xFFFFFFFD) && eqb depth 1) t)
  where
    go : T (eqb v 0xFFFFFFF1 && ltb 1 depth) ⊎ T ((eqb v 0xFFFFFFF9 || eqb v 0xFFFFFFFD) && eqb depth 1) → 0 < depth
    go (inl p) = let l = ltb→lt 1 depth (both (eqb v 0xFFFFFFF1) (ltb 1 depth) p).1 in omega arith
    go (inr p) = let l = eqb→eq depth 1 (both (eqb v 0xFFFFFFF9 || eqb v 0xFFFFFFFD) (eqb depth 1) p).1 in omega arith
