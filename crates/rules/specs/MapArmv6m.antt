-- Document 02, E10: the register map of the ARMv6-M profile.
use Rattle.std.specs.Prelude.{ℕ, ◌+◌, ◌-◌, cond, eqb}
use Rattle.rules.specs.declared.TimerRegister.TheVariants.{Stctrl, Streload, Stcurrent}
use Rattle.rules.specs.declared.SystemRegister.TheVariants.{Intctrl, Sysctrl}
use Rattle.rules.specs.declared.Register.{Register}
use Rattle.rules.specs.declared.Register.TheVariants.{Missing, Timer, Priority, System, Constant}
use Rattle.rules.specs.declared.Chip.{Chip}
use Rattle.rules.specs.Blocks.{byte_words, in_block, bank_register}

-- "Of document 01's registers it has E010, 14, 18, E100, E180, E200, E280, E400 to E41F, ED00 (0x410CC200), ED04 .., ED0C (reads 0xFA050000,
-- writes do nothing), ED10, ED14 (always 0x208), ED1C and ED20". With 32 lines a bank is one word, and the bytes end at E41F.
unfoldable pub armv6m_block : Chip → ℕ → Register
armv6m_block c a = bank_register c a (cond (in_block 0xE000E400 (byte_words c) a) (Priority (16 + (a - 0xE000E400))) Missing)

unfoldable pub armv6m_register : Chip → ℕ → Register
armv6m_register c a =
    cond (eqb a 0xE000E010) (Timer Stctrl)
    (cond (eqb a 0xE000E014) (Timer Streload)
    (cond (eqb a 0xE000E018) (Timer Stcurrent)
    (cond (eqb a 0xE000ED00) (Constant 0x410CC200)
    (cond (eqb a 0xE000ED04) (System Intctrl)
    (cond (eqb a 0xE000ED0C) (Constant 0xFA050000)
    (cond (eqb a 0xE000ED10) (System Sysctrl)
    (cond (eqb a 0xE000ED14) (Constant 0x208)
    (cond (eqb a 0xE000ED1C) (Priority 8)
    (cond (eqb a 0xE000ED20) (Priority 12)
    (armv6m_block c a))))))))))
