-- Worked cases.
use Rattle.std.specs.Prelude.{◌≡◌, refl, true, false}
use Rattle.mpu.specs.Registers.{fresh_mpu, kept_base, kept_attributes, with_base, write_base, with_attributes, write_mpu}
use Rattle.verdicts.specs.declared.Access.TheVariants.{Read, Write, Fetch}
use Rattle.verdicts.specs.Verdict.{default_allows, on_private_bus, default_decides, agrees, eighth_on, region_matches, may_read, may_write, rights_of, allows, background, region_allows, regions_allow, system_fetch, permits, fault_of, verdict}
use Rattle.verdicts.specs.Cases.{guarded}

-- "*Region at 0x20000000, SIZE 9, bits 15:8 = 1: 0x2000007F misses, 0x20000080 matches." Attributes 0x113: bit 0, SIZE 9, bit 8.
pub eighths : (region_matches 0x20000000 0x113 0x2000007F ≡ false) × (region_matches 0x20000000 0x113 0x20000080 ≡ true)
unfolding region_matches agrees eighth_on
eighths = (refl, refl)

-- The higher region decides where it matches, the lower one beyond it, and a fault where neither does.
pub higher_decides : (verdict guarded Write 0x2000001F true false ≡ 1) × (verdict guarded Write 0x20000020 false false ≡ 0) × (verdict guarded Fetch 0x20000400 true false ≡ 2)
unfolding guarded write_mpu write_base with_base with_attributes kept_base kept_attributes fresh_mpu verdict permits fault_of system_fetch default_decides on_private_bus background default_allows regions_allow region_allows region_matches agrees eighth_on allows rights_of may_read may_write
higher_decides = (refl, refl, refl)

-- Why a write was denied. With AP 2 the low bits are 2: the others may read there, and write only where they are 3.
pub write_denied : (allows 0x02000013 Write false ≡ false) × (allows 0x02000013 Read false ≡ true) × (allows 0x02000013 Write true ≡ true)
unfolding allows rights_of may_read may_write
write_denied = (refl, refl, refl)
