-- Laws of the verdict: who decides, and that nothing is left without a verdict.
use Prim.Native.Nat.{ℕ, zero, suc, ◌/◌, ◌^◌, ◌<◌, ◌≤◌}
use Rattle.std.specs.Prelude.{◌≡◌, ◌⊎◌, List, Bool, cond, get_or}
use Rattle.std.proofs.Math.Path.{refl}
use Rattle.std.proofs.Common.{ap, subst, ◌∙◌, eq-or-lt_of_le, le_of_suc-le-suc, arith, eq-eqb, le-leb}
use Rattle.std.proofs.Math.Logic.{inl, inr, ⊎_elim}
use Rattle.std.proofs.Math.Bool.{true, false}
use Rattle.mpu.specs.declared.Mpu.{Mpu}
use Rattle.verdicts.specs.declared.Access.{Access}
use Rattle.verdicts.specs.declared.Access.TheVariants.{Read, Write, Fetch}
use Rattle.verdicts.specs.Verdict.{default_allows, default_decides, agrees, allows, background, region_allows, regions_allow, system_fetch, permits, fault_of, verdict}
use Rattle.verdicts.specs.VerdictLaws.{matches_at, Highest}

-- "always at 31"
pub agrees_31 : (base address : ℕ) → base < 2 ^ 32 → address < 2 ^ 32 → agrees 31 base address ≡ true
unfolding agrees
agrees_31 base address b a = eq-eqb (address / 2 ^ 32) (base / 2 ^ 32) (omega arith)

-- There is a highest one, or none.
pub highest_or_none : (test : ℕ → Bool) (n : ℕ) → ((k : ℕ) × Highest test n k) ⊎ ((i : ℕ) → i < n → test i ≡ false)
highest_or_none test zero = inr (λ i h. let z : ⊥ = omega arith in absurd z)
highest_or_none test (suc n) = cases (test n) refl (highest_or_none test n)
  where
    last : ((i : ℕ) → i < n → test i ≡ false) → test n ≡ false → (i : ℕ) → i < suc n → test i ≡ false
    last f q i h = ⊎_elim (λ e. ap test e ∙ q) (f i) (eq-or-lt_of_le (le_of_suc-le-suc h))

    cases : (b : Bool) → test n ≡ b → ((k : ℕ) × Highest test n k) ⊎ ((i : ℕ) → i < n → test i ≡ false)
        → ((k : ℕ) × Highest test (suc n) k) ⊎ ((i : ℕ) → i < suc n → test i ≡ false)
    cases true q r = inl (n, record { below = omega arith; holds = q; above = λ i u v. let z : ⊥ = omega arith in absurd z })
    cases false q (inl (k, r)) =
        inl (
          k,
          record {
            below = omega (arith, r.below);
            holds = r.holds;
            above = λ i u h. ⊎_elim (λ e. ap test e ∙ q) (r.above i u) (eq-or-lt_of_le (le_of_suc-le-suc h));
          },
        )
    cases false q (inr f) = inr (last f q)

module _ (bases attributes : List ℕ) (access : Access) (address : ℕ) (privileged otherwise : Bool) where
  -- Where none of the first n regions matches, they do not decide.
  pub none_decides : (n : ℕ) → ((i : ℕ) → i < n → matches_at bases attributes address i ≡ false)
      → regions_allow bases attributes access address privileged otherwise n ≡ otherwise
  unfolding regions_allow region_allows
  none_decides zero none = refl
  none_decides (suc n) none = rw (none n (omega arith)) (none_decides n (λ i h. none i (omega arith)))

  -- Of the first n regions, the highest-numbered matching one decides.
  pub highest_decides : (n k : ℕ) → Highest (matches_at bases attributes address) n k
      → regions_allow bases attributes access address privileged otherwise n ≡ allows (get_or attributes k 0) access privileged
  unfolding regions_allow region_allows
  highest_decides zero k top = let z : ⊥ = omega (arith, top.below) in absurd z
  highest_decides (suc n) k top =
      ⊎_elim
      (λ (e : k ≡ n). rw (subst (λ (i : ℕ). matches_at bases attributes address i ≡ true) e top.holds) (rw e refl))
      (λ l. rw (top.above n l (omega arith))
      (highest_decides n k (record { below = l; holds = top.holds; above = λ i u v. top.above i u (omega arith) })))
      (eq-or-lt_of_le (le_of_suc-le-suc top.below))

fault_small : (access : Access) → fault_of access ≤ 2
unfolding fault_of
fault_small Read = omega arith
fault_small Write = omega arith
fault_small Fetch = omega arith

module _ (g : Mpu) (access : Access) (address : ℕ) (privileged negative : Bool) where
  -- Where the default map decides, it gives the verdict.
  pub default_verdict : system_fetch access address ≡ false → default_decides g.control address negative ≡ true
      → verdict g access address privileged negative ≡ cond (default_allows access address) 0 (fault_of access)
  unfolding verdict permits
  default_verdict f d = simp (f, d)

  -- Else the highest-numbered matching region does,
  pub region_verdict : (k : ℕ) → system_fetch access address ≡ false → default_decides g.control address negative ≡ false
      → Highest (matches_at g.bases g.attributes address) 8 k
      → verdict g access address privileged negative ≡ cond (allows (get_or g.attributes k 0) access privileged) 0 (fault_of access)
  unfolding verdict permits
  region_verdict k f d top = simp (f, d, highest_decides g.bases g.attributes access address privileged (background g.control access address privileged) 8 k top)

  -- and where none matches, the background.
  pub background_verdict : system_fetch access address ≡ false → default_decides g.control address negative ≡ false
      → ((i : ℕ) → i < 8 → matches_at g.bases g.attributes address i ≡ false)
      → verdict g access address privileged negative ≡ cond (background g.control access address privileged) 0 (fault_of access)
  unfolding verdict permits
  background_verdict f d none = simp (f, d, none_decides g.bases g.attributes access address privileged (background g.control access address privileged) 8 none)

  -- Nothing is left without a verdict: allowed, or the fault of its kind, 1 for data and 2 for a fetch.
  pub allowed_or_fault : (verdict g access address privileged negative ≡ 0) ⊎ (verdict g access address privileged negative ≡ fault_of access)
  unfolding verdict
  allowed_or_fault = cases (permits g access address privileged negative)
    where
      cases : (b : Bool) → (cond b 0 (fault_of access) ≡ 0) ⊎ (cond b 0 (fault_of access) ≡ fault_of access)
      cases true = inl refl
      cases false = inr refl

  pub verdict_small : verdict g access address privileged negative ≤ 2
  verdict_small = ⊎_elim (λ e. omega arith) (λ e. omega (arith, fault_small access)) allowed_or_fault

-- "from 0xE0000000 up it always faults"
pub system_fetch_faults : (g : Mpu) (address : ℕ) (privileged negative : Bool) → 0xE0000000 ≤ address → verdict g Fetch address privileged negative ≡ 2
unfolding verdict permits system_fetch fault_of
system_fetch_faults g address privileged negative h = simp (le-leb 0xE0000000 address h)
