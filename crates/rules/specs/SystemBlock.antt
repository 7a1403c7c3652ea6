-- Document 01, "Registers": the bits that each stored register of the system block keeps.
use Rattle.std.specs.Prelude.{ℕ, ◌+◌}
use Rattle.bits.specs.Words.{kept}
use Rattle.rules.specs.declared.Chip.{Chip}
use Rattle.rules.specs.Chip.{vtable_low}

-- "VTABLE, bits 29:9 kept"; document 02, E4: "VTABLE keeps bits 29:10"
abbrev pub kept_vtable : Chip → ℕ → ℕ
kept_vtable c x = kept 29 (vtable_low c) x

-- ED10: "bits 4, 2, 1 kept"
abbrev pub kept_sysctrl : ℕ → ℕ
kept_sysctrl x = kept 4 4 x + kept 2 1 x

-- "CFGCTRL, mask 0x31A kept": bits 9:8, 4:3, 1
abbrev pub kept_cfgctrl : ℕ → ℕ
kept_cfgctrl x = kept 9 8 x + kept 4 3 x + kept 1 1 x

-- the bits that a fault event can set: 0, 1, 7, 8, 9, 15, 16 to 19, 24, 25
abbrev pub kept_faultstat : ℕ → ℕ
kept_faultstat x = kept 25 24 x + kept 19 15 x + kept 9 7 x + kept 1 0 x

abbrev pub kept_hfaultstat : ℕ → ℕ
kept_hfaultstat x = kept 30 30 x
