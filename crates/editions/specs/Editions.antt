-- Document 02, E12: "Add it as a second guard". The verdict of either edition; that of the first is document 01's, `Verdict`, untouched
-- (`EditionLaws`).
use Rattle.std.specs.Prelude.{ℕ, Bool, false, cond}
use Rattle.mpu.specs.declared.Mpu.{Mpu}
use Rattle.mpu.specs.declared.Edition.{Edition}
use Rattle.mpu.specs.declared.Edition.TheVariants.{Pmsav7, Pmsav8}
use Rattle.verdicts.specs.declared.Access.{Access}
use Rattle.verdicts.specs.Verdict.{default_allows, default_decides, background, regions_allow, system_fetch, fault_of}
use Rattle.editions.specs.Pmsav8.{covers_allow}

-- What the eight regions allow, and the background where none decides. All else is shared.
unfoldable pub guard_allows : Edition → Mpu → Access → ℕ → Bool → Bool
guard_allows Pmsav7 g access address privileged =
    regions_allow g.bases g.attributes access address privileged (background g.control access address privileged) 8
guard_allows Pmsav8 g access address privileged =
    covers_allow g.bases g.attributes access address privileged (background g.control access address privileged) 8

-- "Background, private bus, fetch and negative-priority rules stay as in document 01."
unfoldable pub guard_permits : Edition → Mpu → Access → ℕ → Bool → Bool → Bool
guard_permits e g access address privileged negative =
    cond (system_fetch access address) false
    (cond (default_decides g.control address negative) (default_allows access address)
    (guard_allows e g access address privileged))

-- "Verdict 0 allowed, 1 data fault, 2 fetch fault."
unfoldable pub guard_verdict : Edition → Mpu → Access → ℕ → Bool → Bool → ℕ
guard_verdict e g access address privileged negative =
    cond (guard_permits e g access address privileged negative) 0 (fault_of access)
