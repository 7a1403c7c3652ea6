-- Document 01, "Registers": registers that stand in blocks of words, whose length is the chip's.
use Rattle.std.specs.Prelude.{ℕ, ◌+◌, ◌-◌, ◌*◌, ◌/◌, Bool, cond, ◌&&◌, ltb, leb}
use Rattle.rules.specs.declared.Bank.TheVariants.{EnableSet, EnableClear, PendingSet, PendingClear}
use Rattle.rules.specs.declared.Register.{Register}
use Rattle.rules.specs.declared.Register.TheVariants.{Flags}
use Rattle.rules.specs.declared.Chip.{Chip}

-- the words that hold a flag of each line, and a byte of each
abbrev pub flag_words : Chip → ℕ
flag_words c = (c.lines + 31) / 32

abbrev pub byte_words : Chip → ℕ
byte_words c = (c.lines + 3) / 4

-- in the block of so many words from an address on
abbrev pub in_block : ℕ → ℕ → ℕ → Bool
in_block base words a = leb base a && ltb a (base + 4 * words)

-- the first exception of a word of flags: 32 lines a word
abbrev pub first_flag : ℕ → ℕ → ℕ
first_flag base a = 16 + 8 * (a - base)

-- E100 enable set, E180 clear, E200 pending set, E280 clear: both profiles have them
abbrev pub bank_register : Chip → ℕ → Register → Register
bank_register c a otherwise =
    cond (in_block 0xE000E100 (flag_words c) a) (Flags EnableSet (first_flag 0xE000E100 a))
    (cond (in_block 0xE000E180 (flag_words c) a) (Flags EnableClear (first_flag 0xE000E180 a))
    (cond (in_block 0xE000E200 (flag_words c) a) (Flags PendingSet (first_flag 0xE000E200 a))
    (cond (in_block 0xE000E280 (flag_words c) a) (Flags PendingClear (first_flag 0xE000E280 a))
    otherwise)))
