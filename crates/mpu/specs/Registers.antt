-- The MPU's registers: document 01, "Registers", the paragraph "MPU:". Those that PMSAv8 has instead (document 02, E12) are in `Pmsav8`.
use Rattle.std.specs.Prelude.{ℕ, ◌+◌, ◌*◌, ◌/◌, ◌%◌, ◌^◌, cond, get_or, set, replicate, eqb, ltb}
use Rattle.mpu.specs.declared.Mpu.{Mpu}
use Rattle.mpu.specs.declared.MpuRegister.{MpuRegister}
use Rattle.mpu.specs.declared.MpuRegister.TheVariants.{Kind, Control, Number, Base, Attributes, Rbar, Rlar, Mair0, Mair1, Missing}
use Rattle.mpu.specs.Pmsav8.{read_rbar, read_rlar, with_rbar, with_rlar, with_mair0, with_mair1}

-- "Fresh: everything zero."
unfoldable pub fresh_mpu : Mpu
fresh_mpu = record { control = 0; region = 0; bases = replicate 8 0; attributes = replicate 8 0; mair0 = 0; mair1 = 0 }

-- The register at a byte offset from 0xE000ED90. "EDA4 to EDB8 repeat that pair three times."
unfoldable pub mpu_register_at : ℕ → MpuRegister
mpu_register_at offset =
    cond (eqb offset 0x00) Kind
    (cond (eqb offset 0x04) Control
    (cond (eqb offset 0x08) Number
    (cond (eqb offset 0x0C) Base
    (cond (eqb offset 0x10) Attributes
    (cond (eqb offset 0x14) Base
    (cond (eqb offset 0x18) Attributes
    (cond (eqb offset 0x1C) Base
    (cond (eqb offset 0x20) Attributes
    (cond (eqb offset 0x24) Base
    (cond (eqb offset 0x28) Attributes Missing))))))))))

-- A base "keeps 31:5".
unfoldable pub kept_base : ℕ → ℕ
kept_base x = x / 2 ^ 5 % 2 ^ 27 * 2 ^ 5

-- "attributes, mask 0x173FFF3F": bits 28, 26:24, 21:8 and 5:0.
unfoldable pub kept_attributes : ℕ → ℕ
kept_attributes x =
    x / 2 ^ 28 % 2 * 2 ^ 28 + x / 2 ^ 24 % 2 ^ 3 * 2 ^ 24 + x / 2 ^ 8 % 2 ^ 14 * 2 ^ 8 + x % 2 ^ 6

-- "ED90 reads 0x800"; the base "reads with bit 4 clear and the region number in 3:0". No register reads 0.
unfoldable pub read_mpu : MpuRegister → Mpu → ℕ
read_mpu Kind g = 0x800
read_mpu Control g = g.control
read_mpu Number g = g.region
read_mpu Base g = kept_base (get_or g.bases g.region 0) + g.region % 2 ^ 4
read_mpu Attributes g = get_or g.attributes g.region 0
read_mpu (Rbar pair) g = read_rbar pair g
read_mpu (Rlar pair) g = read_rlar pair g
read_mpu Mair0 g = g.mair0
read_mpu Mair1 g = g.mair1
read_mpu Missing g = 0

-- "ED94 keeps bits 2:0"
abbrev pub with_control : ℕ → Mpu → Mpu
with_control x g = record { control = x % 2 ^ 3; region = g.region; bases = g.bases; attributes = g.attributes; mair0 = g.mair0; mair1 = g.mair1 }

-- "ED98 region number (whole word), above 7 no effect"
unfoldable pub write_number : ℕ → Mpu → Mpu
write_number x g =
    cond (ltb 7 x) g (record { control = g.control; region = x; bases = g.bases; attributes = g.attributes; mair0 = g.mair0; mair1 = g.mair1 })

-- A base written for region n, which is the selected one from then on.
unfoldable pub with_base : ℕ → ℕ → Mpu → Mpu
with_base n x g = record { control = g.control; region = n; bases = set g.bases n (kept_base x); attributes = g.attributes; mair0 = g.mair0; mair1 = g.mair1 }

-- "base, where bit 4 set selects the region in bits 3:0 first (above 7: no effect at all)"
unfoldable pub write_base : ℕ → Mpu → Mpu
write_base x g =
    cond (eqb (x / 2 ^ 4 % 2) 0) (with_base g.region x g)
    (cond (ltb 7 (x % 2 ^ 4)) g (with_base (x % 2 ^ 4) x g))

-- Attributes written for the selected region.
unfoldable pub with_attributes : ℕ → Mpu → Mpu
with_attributes x g =
    record { control = g.control; region = g.region; bases = g.bases; attributes = set g.attributes g.region (kept_attributes x); mair0 = g.mair0; mair1 = g.mair1 }

-- What writing a register leaves. ED90 is read only.
unfoldable pub write_mpu : MpuRegister → ℕ → Mpu → Mpu
write_mpu Kind x g = g
write_mpu Control x g = with_control x g
write_mpu Number x g = write_number x g
write_mpu Base x g = write_base x g
write_mpu Attributes x g = with_attributes x g
write_mpu (Rbar pair) x g = with_rbar pair x g
write_mpu (Rlar pair) x g = with_rlar pair x g
write_mpu Mair0 x g = with_mair0 x g
write_mpu Mair1 x g = with_mair1 x g
write_mpu Missing x g = g
