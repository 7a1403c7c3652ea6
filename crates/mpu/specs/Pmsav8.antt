-- Document 02, E12: the registers of the guard's next edition, "the ARMv8-M guard (PMSAv8): eight regions given by a first and a last 32-byte
-- block". A region's two words are the manual's RBAR and RLAR; the two plain words are its MAIR0 and MAIR1. `Mpu` holds the words of both
-- editions: RBAR where a base stands, RLAR where attributes stand.
use Rattle.std.specs.Prelude.{ℕ, ◌+◌, ◌*◌, ◌/◌, ◌%◌, ◌^◌, cond, get_or, set, eqb}
use Rattle.mpu.specs.declared.Mpu.{Mpu}
use Rattle.mpu.specs.declared.MpuRegister.{MpuRegister}
use Rattle.mpu.specs.declared.MpuRegister.TheVariants.{Kind, Control, Number, Rbar, Rlar, Mair0, Mair1, Missing}

-- The register at a byte offset from 0xE000ED90: "ED90 to ED98 as before", ED9C and EDA0, "EDA4 to EDB8 are that pair" three times more, "and
-- EDC0, EDC4 are plain words". EDBC, offset 0x2C, is none.
unfoldable pub pmsav8_register_at : ℕ → MpuRegister
pmsav8_register_at offset =
    cond (eqb offset 0x00) Kind
    (cond (eqb offset 0x04) Control
    (cond (eqb offset 0x08) Number
    (cond (eqb offset 0x0C) (Rbar 0)
    (cond (eqb offset 0x10) (Rlar 0)
    (cond (eqb offset 0x14) (Rbar 1)
    (cond (eqb offset 0x18) (Rlar 1)
    (cond (eqb offset 0x1C) (Rbar 2)
    (cond (eqb offset 0x20) (Rlar 2)
    (cond (eqb offset 0x24) (Rbar 3)
    (cond (eqb offset 0x28) (Rlar 3)
    (cond (eqb offset 0x30) Mair0
    (cond (eqb offset 0x34) Mair1 Missing))))))))))))

-- The region that a pair of registers shows. Pair 0, ED9C and EDA0, is the selected one's; "EDA4 to EDB8 are that pair for the selected region
-- with 1:0 of its number 1, 2, 3".
unfoldable pub region_of : ℕ → ℕ → ℕ
region_of pair selected = cond (eqb pair 0) selected (selected / 2 ^ 2 * 2 ^ 2 + pair % 2 ^ 2)

-- "ED9C keeps all bits", and so do the "plain words".
unfoldable pub kept_word : ℕ → ℕ
kept_word x = x % 2 ^ 32

-- "EDA0 mask 0xFFFFFFEF": bits 31:5 and 3:0.
unfoldable pub kept_rlar : ℕ → ℕ
kept_rlar x = x / 2 ^ 5 % 2 ^ 27 * 2 ^ 5 + x % 2 ^ 4

unfoldable pub read_rbar : ℕ → Mpu → ℕ
read_rbar pair g = get_or g.bases (region_of pair g.region) 0

unfoldable pub read_rlar : ℕ → Mpu → ℕ
read_rlar pair g = get_or g.attributes (region_of pair g.region) 0

-- RBAR written is plain storage: unlike a base of the first edition it selects no region.
unfoldable pub with_rbar : ℕ → ℕ → Mpu → Mpu
with_rbar pair x g =
    record { control = g.control; region = g.region; bases = set g.bases (region_of pair g.region) (kept_word x); attributes = g.attributes; mair0 = g.mair0; mair1 = g.mair1 }

unfoldable pub with_rlar : ℕ → ℕ → Mpu → Mpu
with_rlar pair x g =
    record { control = g.control; region = g.region; bases = g.bases; attributes = set g.attributes (region_of pair g.region) (kept_rlar x); mair0 = g.mair0; mair1 = g.mair1 }

unfoldable pub with_mair0 : ℕ → Mpu → Mpu
with_mair0 x g =
    record { control = g.control; region = g.region; bases = g.bases; attributes = g.attributes; mair0 = kept_word x; mair1 = g.mair1 }

unfoldable pub with_mair1 : ℕ → Mpu → Mpu
with_mair1 x g =
    record { control = g.control; region = g.region; bases = g.bases; attributes = g.attributes; mair0 = g.mair0; mair1 = kept_word x }
