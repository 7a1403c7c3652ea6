-- A test of every number below a bound.
use Rattle.std.specs.Prelude.{ℕ, zero, suc, ◌<◌, ◌≡◌, ◌⊎◌, Bool, true, false, ◌&&◌, T}
use Rattle.std.proofs.Common.{sym, ap, ◌∙◌, inl, inr, le_of_suc-le-suc, eq-or-lt_of_le, not-suc-le-zero, arith}
use Rattle.bools.specs.Tests.{both, join, and_false_of}

unfoldable pub every : (ℕ → Bool) → ℕ → Bool
every p zero = true
every p (suc k) = p k && every p k

-- the numbers below k + 1: those below k, and k
pub below_suc : {A : Type 0} (m k : ℕ) → m < suc k → (m ≡ k → A) → (m < k → A) → A
below_suc {A} m k h f g = go (eq-or-lt_of_le (le_of_suc-le-suc h))
  where
    go : (m ≡ k) ⊎ (m < k) → A
    go (inl e) = f e
    go (inr l) = g l

pub every_of : (p : ℕ → Bool) (k : ℕ) → ((n : ℕ) → n < k → T (p n)) → T (every p k)
unfolding every
every_of p zero f = tt
every_of p (suc k) f = join (p k) (every p k) (f k (omega arith)) (every_of p k (λ n l. f n (omega arith)))

pub of_every : (p : ℕ → Bool) (k n : ℕ) → n < k → T (every p k) → T (p n)
unfolding every
of_every p zero n l t = absurd (not-suc-le-zero l)
of_every p (suc k) n l t =
    below_suc n k l (λ e. rw e (both (p k) (every p k) t).0) (λ l'. of_every p k n l' (both (p k) (every p k) t).1)

-- one number that fails the test decides
pub every_false : (p : ℕ → Bool) (n k : ℕ) → n < k → p n ≡ false → every p k ≡ false
unfolding every
every_false p n zero h e = absurd (not-suc-le-zero h)
every_false p n (suc k) h e =
    below_suc n k h
    (λ q. let f : p k ≡ false = sym (ap p q) ∙ e in simp f)
    (λ l. and_false_of (p k) (every p k) (every_false p n k l e))
