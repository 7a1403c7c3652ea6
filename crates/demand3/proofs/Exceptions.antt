-- The exceptions that exist are the system exceptions and the lines, all below the count of flags: so no more than that many distinct ones are nested.
use Prim.Native.Nat.{ℕ, zero, suc, ◌+◌, ◌≤◌, ◌<◌}
use mathlib.Core.Path.{◌≡◌, refl, ap, ◌∙◌}
use mathlib.Core.Logic.{◌⊎◌, inl, inr}
use mathlib.Core.List.Memᴰ
use mathlib.Core.List.{List, [], ◌∷◌, ◌++◌, Memᴰ}
use mathlib.Core.Bool.{◌||◌}
use native.Mathlib.Nat.{eq-or-lt_of_le}
use native.Mathlib.Omega.{arith}
use lib.ListN.{length, length-append}
use lib.Dec.{T, ltb, leb, eqb, leb→le, ltb→lt}
use Rattle.bools.specs.Tests.{both, either, or_right, or_of, by_cases}
use Rattle.priority.specs.Order.{Distinct, pigeonhole}
use Rattle.rules.specs.declared.Chip.{Chip}
use Rattle.rules.specs.declared.Place.{Place}
use Rattle.rules.specs.declared.Place.TheVariants.{Exception, Enable, Line}
use Rattle.rules.specs.Chip.{is_armv6m, flag_count, exception_count, is_in, configurable, system_exceptions, is_line, exists, has_enable, stands}
use Rattle.rules.specs.Laws.{all}
use Rattle.rules.proofs.Laws.{is_in_mem, in_all}

-- ---- the numbers that exist

line_list : ℕ → List ℕ
line_list zero = []
line_list (suc k) = (16 + k) ∷ line_list k

line_list_length : (k : ℕ) → length (line_list k) ≡ k
unfolding line_list
line_list_length zero = refl
line_list_length (suc k) = ap suc (line_list_length k)

line_list_mem : (k n : ℕ) → 16 ≤ n → n < 16 + k → Memᴰ n (line_list k)
unfolding line_list
line_list_mem zero n l h = absurd (omega arith)
line_list_mem (suc k) n l h = go (λ q. line_list_mem k n l q) (eq-or-lt_of_le (let g : n ≤ 16 + k = omega arith in g))
  where
    go : (n < 16 + k → Memᴰ n (line_list k)) → (n ≡ 16 + k) ⊎ (n < 16 + k) → Memᴰ n ((16 + k) ∷ line_list k)
    go below (inl e) = Memᴰ.head e
    go below (inr q) = Memᴰ.tail (below q)

everyone : Chip → List ℕ
everyone c = system_exceptions c ++ line_list c.lines

everyone_length : (c : Chip) → length (everyone c) ≡ exception_count c
unfolding everyone
everyone_length c =
    length-append (system_exceptions c) (line_list c.lines) ∙ ap (λ (k : ℕ). length (system_exceptions c) + k) (line_list_length c.lines)

-- the configurable faults are below the lines
configurable_small : (c : Chip) → T (all (λ k. ltb k 16) (configurable c))
unfolding all
configurable_small c = by_cases (λ (xs : List ℕ). T (all (λ k. ltb k 16) xs)) (is_armv6m c) (λ _. tt) (λ _. tt)

module _ (c : Chip) (n : ℕ) where
  pub line_bounds : T (is_line c n) → (16 ≤ n) × (n < flag_count c)
  line_bounds t = let p = both (leb 16 n) (ltb n (flag_count c)) t in (leb→le 16 n p.0, ltb→lt n (flag_count c) p.1)

  system_or_line : (xs : List ℕ) → T (all (λ k. ltb k 16) xs) → T (is_in n xs || is_line c n) → n < flag_count c
  system_or_line xs small t = go (either (is_in n xs) (is_line c n) t)
    where
      go : T (is_in n xs) ⊎ T (is_line c n) → n < flag_count c
      go (inl h) = let l = ltb→lt n 16 (in_all (λ k. ltb k 16) n xs small h) in omega arith
      go (inr h) = (line_bounds h).1

  pub stands_below : (place : Place) → T (stands c place n) → n < flag_count c
  unfolding all
  stands_below Exception t = system_or_line (system_exceptions c) (configurable_small c) t
  stands_below Enable t = system_or_line (configurable c) (configurable_small c) t
  stands_below Line t = (line_bounds t).1

  -- what an enable bit governs exists
  pub enable_exists : T (has_enable c n) → T (exists c n)
  enable_exists t = go (either (is_in n (configurable c)) (is_line c n) t)
    where
      go : T (is_in n (configurable c)) ⊎ T (is_line c n) → T (exists c n)
      go (inl h) =
          or_of (is_in n (system_exceptions c)) (is_line c n)
          (λ no. absurd (no (or_right (eqb n 2) _ (or_right (eqb n 3) _ (or_right (eqb n 11) _ (or_right (eqb n 14) _ (or_right (eqb n 15) (is_in n (configurable c)) h)))))))
      go (inr h) = or_right (is_in n (system_exceptions c)) (is_line c n) h

  exists_mem : T (exists c n) → Memᴰ n (everyone c)
  unfolding everyone
  exists_mem t = go (either (is_in n (system_exceptions c)) (is_line c n) t)
    where
      go : T (is_in n (system_exceptions c)) ⊎ T (is_line c n) → Memᴰ n (everyone c)
      go (inl h) = Memᴰ.append_left (line_list c.lines) (is_in_mem n (system_exceptions c) h)
      go (inr h) = let p = line_bounds h in Memᴰ.append_right (system_exceptions c) (line_list_mem c.lines n p.0 p.1)

pub few_exceptions : (c : Chip) (xs : List ℕ) → Distinct xs → ((n : ℕ) → Memᴰ n xs → T (exists c n)) → length xs ≤ exception_count c
few_exceptions c xs d h = rw (everyone_length c) at (pigeonhole xs (everyone c) d (λ n m. exists_mem c n (h n m)))
