-- What some words name.
use Rattle.std.specs.Prelude.{ℕ, ◌≡◌, refl, [], ◌∷◌, true, false}
use Rattle.mpu.specs.declared.Edition.TheVariants.{Pmsav7, Pmsav8}
use Rattle.rules.specs.declared.Part.TheVariants.{Lines55, Lines240, CortexM0}
use Rattle.setup_words.specs.declared.Words.{Words}
use Rattle.setup_words.specs.Words.{lines_word, number55, number240, bits_word, guard_word, pmsav7_word, pmsav8_word, core_word, m3_word, m0_word, is_same, are_digits, is_number, number_from, started, core_by, lines_by, bits_by, guard_by, paired}

-- words that name the 55-line chip, or the 240-line chip, with so many kept bits
abbrev Names55 : ℕ → Words → Type 0
Names55 bits w = (w.setup ≡ record { part = Lines55; bits = bits; guard = Pmsav7 }) × (w.wrong ≡ false)

abbrev Names240 : ℕ → Words → Type 0
Names240 bits w = (w.setup ≡ record { part = Lines240; bits = bits; guard = Pmsav7 }) × (w.wrong ≡ false)

none : Names55 3 started
none = (refl, refl)

lines_55 : Names55 3 (paired started lines_word number55)
unfolding paired lines_by bits_by is_same
lines_55 = (refl, refl)

lines_240 : Names240 3 (paired started lines_word number240)
unfolding paired lines_by bits_by is_same
lines_240 = (refl, refl)

-- `--lines 56`
lines_56 : (paired started lines_word (53 ∷ 54 ∷ [])).wrong ≡ true
unfolding paired lines_by bits_by is_same
lines_56 = refl

-- `--lines 0240`
lines_0240 : (paired started lines_word (48 ∷ number240)).wrong ≡ true
unfolding paired lines_by bits_by is_same
lines_0240 = refl

-- `--lines` without a value
no_value : (paired started lines_word []).wrong ≡ true
unfolding paired lines_by bits_by is_same
no_value = refl

-- `--line 55`
unknown : (paired started (45 ∷ 45 ∷ 108 ∷ 105 ∷ 110 ∷ 101 ∷ []) number55).wrong ≡ true
unfolding paired lines_by bits_by is_same
unknown = refl

-- `--lines 240 --lines 240`
twice : (paired (paired started lines_word number240) lines_word number240).wrong ≡ true
unfolding paired lines_by bits_by is_same
twice = refl

-- `--line 55 --lines 240`
stays_wrong : (paired (paired started (45 ∷ 45 ∷ 108 ∷ 105 ∷ 110 ∷ 101 ∷ []) number55) lines_word number240).wrong ≡ true
unfolding paired lines_by bits_by is_same
stays_wrong = refl

-- `--bits 8`
bits_8 : Names55 8 (paired started bits_word (56 ∷ []))
unfolding paired bits_by is_same is_number are_digits number_from
bits_8 = (refl, refl)

-- `--lines 240 --bits 10` and `--bits 10 --lines 240`
both_words : Names240 10 (paired (paired started lines_word number240) bits_word (49 ∷ 48 ∷ [])) × Names240 10 (paired (paired started bits_word (49 ∷ 48 ∷ [])) lines_word number240)
unfolding paired lines_by bits_by is_same is_number are_digits number_from
both_words = ((refl, refl), (refl, refl))

-- `--bits 4294967295`, and one more, which is too large for 32 bits
largest : Names55 0xFFFFFFFF (paired started bits_word (52 ∷ 50 ∷ 57 ∷ 52 ∷ 57 ∷ 54 ∷ 55 ∷ 50 ∷ 57 ∷ 53 ∷ []))
unfolding paired bits_by is_same is_number are_digits number_from
largest = (refl, refl)

too_large : Names55 0xFFFFFFFF (paired started bits_word (52 ∷ 50 ∷ 57 ∷ 52 ∷ 57 ∷ 54 ∷ 55 ∷ 50 ∷ 57 ∷ 54 ∷ []))
unfolding paired bits_by is_same is_number are_digits number_from
too_large = (refl, refl)

-- `--bits -3`, `--bits` without a value, and `--bits 3 --bits 3`
no_number : ((paired started bits_word (45 ∷ 51 ∷ [])).wrong ≡ true) × ((paired started bits_word []).wrong ≡ true) × ((paired (paired started bits_word (51 ∷ [])) bits_word (51 ∷ [])).wrong ≡ true)
unfolding paired bits_by is_same is_number are_digits number_from
no_number = (refl, refl, refl)

-- `--guard pmsav8` and `--guard pmsav7`
guards : ((paired started guard_word pmsav8_word).setup ≡ record { part = Lines55; bits = 3; guard = Pmsav8 }) × ((paired started guard_word pmsav8_word).wrong ≡ false) × Names55 3 (paired started guard_word pmsav7_word)
unfolding paired guard_by is_same
guards = (refl, refl, (refl, refl))

-- `--guard pmsav8 --lines 240 --bits 4`
all_words : (paired (paired (paired started guard_word pmsav8_word) lines_word number240) bits_word (52 ∷ [])).setup ≡ record { part = Lines240; bits = 4; guard = Pmsav8 }
unfolding paired lines_by bits_by guard_by is_same is_number are_digits number_from
all_words = refl

-- `--guard PMSAv8`, `--guard` without a value, and `--guard pmsav8 --guard pmsav8`
no_guard : ((paired started guard_word (80 ∷ 77 ∷ 83 ∷ 65 ∷ 118 ∷ 56 ∷ [])).wrong ≡ true) × ((paired started guard_word []).wrong ≡ true) × ((paired (paired started guard_word pmsav8_word) guard_word pmsav8_word).wrong ≡ true)
unfolding paired guard_by is_same
no_guard = (refl, refl, refl)

-- `--core m0` and `--core m3`
cores : ((paired started core_word m0_word).setup ≡ record { part = CortexM0; bits = 3; guard = Pmsav7 }) × ((paired started core_word m0_word).wrong ≡ false) × Names55 3 (paired started core_word m3_word)
unfolding paired core_by is_same
cores = (refl, refl, (refl, refl))

-- `--core m0 --lines 240` and `--lines 240 --core m0` name the Cortex-M0, `--core m3 --lines 240` and `--lines 240 --core m3` the other chip
either_order : ((paired (paired started core_word m0_word) lines_word number240).setup.part ≡ CortexM0) × ((paired (paired started lines_word number240) core_word m0_word).setup.part ≡ CortexM0) × Names240 3 (paired (paired started core_word m3_word) lines_word number240) × Names240 3 (paired (paired started lines_word number240) core_word m3_word)
unfolding paired core_by lines_by is_same
either_order = (refl, refl, (refl, refl), (refl, refl))

-- `--core M0`, `--core` without a value, and `--core m0 --core m0`
no_core : ((paired started core_word (77 ∷ 48 ∷ [])).wrong ≡ true) × ((paired started core_word []).wrong ≡ true) × ((paired (paired started core_word m0_word) core_word m0_word).wrong ≡ true)
unfolding paired core_by is_same
no_core = (refl, refl, refl)
