-- Worked cases.
use Rattle.mpu.specs.declared.Mpu.{Mpu}
use Rattle.mpu.specs.declared.MpuRegister.TheVariants.{Control, Base, Attributes}
use Rattle.mpu.specs.Registers.{fresh_mpu, write_mpu}

-- Region 1 has 1,024 bytes at 0x20000000, which all may read and write; region 2 has the first 32 of them, to read only.
unfoldable pub guarded : Mpu
guarded =
    write_mpu Control 1 (write_mpu Attributes 0x06000009 (write_mpu Base 0x20000012 (write_mpu Attributes 0x03000013 (write_mpu Base 0x20000011 fresh_mpu))))
