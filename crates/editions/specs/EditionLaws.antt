-- Laws of the verdict that both editions share, once over the edition; and that the verdicts of the first are untouched.
use Rattle.std.specs.Prelude.{ℕ, ◌≤◌, ◌≡◌, ◌⊎◌, Bool, cond}
use Rattle.std.proofs.Math.Path.{refl}
use Rattle.std.proofs.Math.Logic.{inl, inr}
use Rattle.std.proofs.Math.Bool.{true, false}
use Rattle.std.proofs.Common.{le-leb}
use Rattle.mpu.specs.declared.Mpu.{Mpu}
use Rattle.mpu.specs.declared.Edition.{Edition}
use Rattle.mpu.specs.declared.Edition.TheVariants.{Pmsav7, Pmsav8}
use Rattle.mpu.specs.Pmsav8.{with_mair0, with_mair1}
use Rattle.verdicts.specs.declared.Access.{Access}
use Rattle.verdicts.specs.declared.Access.TheVariants.{Fetch}
use Rattle.verdicts.specs.Verdict.{default_allows, default_decides, system_fetch, permits, fault_of, verdict}
use Rattle.editions.specs.Editions.{guard_allows, guard_permits, guard_verdict}

module _ (e : Edition) (g : Mpu) (access : Access) (address : ℕ) (privileged negative : Bool) where
  -- Where the default map decides, it gives the verdict, whatever the regions are.
  pub default_map_decides : system_fetch access address ≡ false → default_decides g.control address negative ≡ true
      → guard_verdict e g access address privileged negative ≡ cond (default_allows access address) 0 (fault_of access)
  unfolding guard_verdict guard_permits
  default_map_decides f d = simp (f, d)

  -- Else the regions and the background do.
  pub regions_decide : system_fetch access address ≡ false → default_decides g.control address negative ≡ false
      → guard_verdict e g access address privileged negative ≡ cond (guard_allows e g access address privileged) 0 (fault_of access)
  unfolding guard_verdict guard_permits
  regions_decide f d = simp (f, d)

  -- There is a verdict for every address: allowed, or the fault of its kind, 1 for data and 2 for a fetch.
  pub allows_or_faults : (guard_verdict e g access address privileged negative ≡ 0) ⊎ (guard_verdict e g access address privileged negative ≡ fault_of access)
  unfolding guard_verdict
  allows_or_faults = cases (guard_permits e g access address privileged negative)
    where
      cases : (b : Bool) → (cond b 0 (fault_of access) ≡ 0) ⊎ (cond b 0 (fault_of access) ≡ fault_of access)
      cases true = inl refl
      cases false = inr refl

-- "from 0xE0000000 up it always faults"
pub system_never_fetched : (e : Edition) (g : Mpu) (address : ℕ) (privileged negative : Bool) → 0xE0000000 ≤ address → guard_verdict e g Fetch address privileged negative ≡ 2
unfolding guard_verdict guard_permits system_fetch fault_of
system_never_fetched e g address privileged negative h = simp (le-leb 0xE0000000 address h)

-- "EDC0, EDC4 are plain words": no verdict reads them.
pub plain_unread : (e : Edition) (g : Mpu) (x y : ℕ) (access : Access) (address : ℕ) (privileged negative : Bool)
    → guard_verdict e (with_mair0 x (with_mair1 y g)) access address privileged negative ≡ guard_verdict e g access address privileged negative
unfolding guard_verdict guard_permits guard_allows with_mair0 with_mair1
plain_unread Pmsav7 g x y access address privileged negative = refl
plain_unread Pmsav8 g x y access address privileged negative = refl

-- "the verdicts of the old one are untouched"
pub old_untouched : (g : Mpu) (access : Access) (address : ℕ) (privileged negative : Bool)
    → guard_verdict Pmsav7 g access address privileged negative ≡ verdict g access address privileged negative
unfolding guard_verdict guard_permits guard_allows verdict permits
old_untouched g access address privileged negative = refl
