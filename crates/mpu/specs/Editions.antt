-- What goes by the edition of the guard: its register map and the bits that it keeps. Its verdict is in `editions`.
use Rattle.std.specs.Prelude.{ℕ, Bool, true, false}
use Rattle.mpu.specs.declared.Edition.{Edition}
use Rattle.mpu.specs.declared.Edition.TheVariants.{Pmsav7, Pmsav8}
use Rattle.mpu.specs.declared.MpuRegister.{MpuRegister}
use Rattle.mpu.specs.declared.MpuRegister.TheVariants.{Kind, Control, Number, Base, Attributes, Rbar, Rlar, Mair0, Mair1, Missing}
use Rattle.mpu.specs.Registers.{mpu_register_at, kept_base, kept_attributes}
use Rattle.mpu.specs.Pmsav8.{pmsav8_register_at, kept_word, kept_rlar}

-- "the guard's own register map"
unfoldable pub guard_register_at : Edition → ℕ → MpuRegister
guard_register_at Pmsav7 offset = mpu_register_at offset
guard_register_at Pmsav8 offset = pmsav8_register_at offset

-- The bits kept of a region's first word, a base or RBAR,
unfoldable pub kept_first : Edition → ℕ → ℕ
kept_first Pmsav7 x = kept_base x
kept_first Pmsav8 x = kept_word x

-- of its second, attributes or RLAR,
unfoldable pub kept_second : Edition → ℕ → ℕ
kept_second Pmsav7 x = kept_attributes x
kept_second Pmsav8 x = kept_rlar x

-- and of the two plain words, which the first edition does not have.
unfoldable pub kept_plain : Edition → ℕ → ℕ
kept_plain Pmsav7 x = 0
kept_plain Pmsav8 x = kept_word x

-- The registers of each edition: its map has no others (`map-belongs`).
unfoldable pub belongs : Edition → MpuRegister → Bool
belongs e Kind = true
belongs e Control = true
belongs e Number = true
belongs Pmsav7 Base = true
belongs Pmsav7 Attributes = true
belongs Pmsav7 (Rbar pair) = false
belongs Pmsav7 (Rlar pair) = false
belongs Pmsav7 Mair0 = false
belongs Pmsav7 Mair1 = false
belongs Pmsav8 Base = false
belongs Pmsav8 Attributes = false
belongs Pmsav8 (Rbar pair) = true
belongs Pmsav8 (Rlar pair) = true
belongs Pmsav8 Mair0 = true
belongs Pmsav8 Mair1 = true
belongs e Missing = true
