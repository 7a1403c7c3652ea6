-- The proviso for 55 lines and 240: its addresses, and at its edges which events it leaves to an old script.
use Rattle.std.specs.Prelude.{◌≡◌, refl, List, [], ◌∷◌, Bool, true, false}
use Rattle.script.specs.declared.Event.{Event}
use Rattle.script.specs.declared.Event.TheVariants.{Read, Write, Line, Entry, Lost, Skip}
use Rattle.script.specs.Event.{arity}
use Rattle.script.specs.Reading.{before, then, numbers_at, event_of, with_arguments, with_kind, read_event}
use Rattle.script.specs.Script.{followed, script_from, script_of}
use Rattle.script.specs.Examples.{script01}
use Rattle.numbers.specs.Number.{joined, groups_at, number_at}
use Rattle.rules.specs.Chip.{chip55, chip240}
use Rattle.old_scripts.specs.OldScripts.{parted, mixed_word, avoids, names_own, is_old, are_old}

-- For these two chips: "E000E004, E000E104 to E11F, E184 to E19F, E204 to E21F, E284 to E29F, E304 to E31F, .. bytes E437 to E4EF, and E000ED08"
parted_55_240 : parted chip55 chip240 ≡
    record { first = 0xE000E004; last = 0xE000E004 }
    ∷ record { first = 0xE000E104; last = 0xE000E11F }
    ∷ record { first = 0xE000E184; last = 0xE000E19F }
    ∷ record { first = 0xE000E204; last = 0xE000E21F }
    ∷ record { first = 0xE000E284; last = 0xE000E29F }
    ∷ record { first = 0xE000E304; last = 0xE000E31F }
    ∷ record { first = 0xE000E437; last = 0xE000E4EF }
    ∷ record { first = 0xE000ED08; last = 0xE000ED08 }
    ∷ []
parted_55_240 = refl

-- "the word at E434"
mixed_55 : mixed_word chip55 ≡ 0xE000E434
mixed_55 = refl

-- each event of a list by itself
abbrev tested : List Event → List Bool
tested [] = []
tested (e ∷ es) = is_old chip55 chip240 e ∷ tested es

-- at E434 the bytes up to E436 are left, the word is not; from E437 to E4EF nothing is, whatever its width; a halfword at E436 both chips refuse by 5
bytes_left : tested (Write 4 0xE000E430 0 ∷ Read 1 0xE000E434 ∷ Write 1 0xE000E435 0x20 ∷ Write 1 0xE000E436 0x20 ∷ Read 2 0xE000E436 ∷ Read 1 0xE000E4F0 ∷ []) ≡ true ∷ true ∷ true ∷ true ∷ true ∷ true ∷ []
unfolding is_old avoids names_own
bytes_left = refl

bytes_lost : tested (Read 4 0xE000E434 ∷ Write 4 0xE000E434 0 ∷ Write 1 0xE000E437 0 ∷ Read 2 0xE000E438 ∷ Read 4 0xE000E438 ∷ Read 1 0xE000E4EF ∷ []) ≡ false ∷ false ∷ false ∷ false ∷ false ∷ false ∷ []
unfolding is_old avoids names_own
bytes_lost = refl

-- the first word of flags of each kind, and what stands before and after the others
flags_left : tested (Write 4 0xE000E100 1 ∷ Read 1 0xE000E103 ∷ Read 4 0xE000E120 ∷ Write 4 0xE000E180 1 ∷ Write 4 0xE000E200 1 ∷ Write 4 0xE000E280 1 ∷ Read 4 0xE000E300 ∷ []) ≡ true ∷ true ∷ true ∷ true ∷ true ∷ true ∷ true ∷ []
unfolding is_old avoids names_own
flags_left = refl

flags_lost : tested (Write 4 0xE000E104 1 ∷ Read 1 0xE000E11F ∷ Write 4 0xE000E184 1 ∷ Write 4 0xE000E204 1 ∷ Write 4 0xE000E284 1 ∷ Read 4 0xE000E304 ∷ []) ≡ false ∷ false ∷ false ∷ false ∷ false ∷ false ∷ []
unfolding is_old avoids names_own
flags_lost = refl

-- E004 and ED08, and the addresses beside them
words : tested (Read 4 0xE000E003 ∷ Read 4 0xE000E004 ∷ Read 4 0xE000E005 ∷ Read 4 0xE000ED07 ∷ Write 4 0xE000ED08 0 ∷ Read 4 0xE000ED09 ∷ []) ≡ true ∷ false ∷ true ∷ true ∷ false ∷ true ∷ []
unfolding is_old avoids names_own
words = refl

-- SWTRIG by bits 8:0 of the value, which are 0 in 512
swtrig : tested (Write 4 0xE000EF00 54 ∷ Write 4 0xE000EF00 55 ∷ Write 4 0xE000EF00 512 ∷ Write 4 0xE000EF00 567 ∷ []) ≡ true ∷ false ∷ true ∷ false ∷ []
unfolding is_old avoids names_own
swtrig = refl

-- a line event by its line, whatever its level
lines : tested (Line 54 1 ∷ Line 54 2 ∷ Line 55 0 ∷ Line 240 0 ∷ Entry ∷ []) ≡ true ∷ true ∷ false ∷ false ∷ true ∷ []
unfolding is_old
lines = refl

-- and so the count of a line
counts : tested (Lost 54 ∷ Lost 55 ∷ Lost 240 ∷ []) ≡ true ∷ false ∷ false ∷ []
unfolding is_old
counts = refl

-- a skip names no line, whatever its count
skips : tested (Skip 0 ∷ Skip 55 ∷ Skip 0xFFFFFFFF ∷ []) ≡ true ∷ true ∷ true ∷ []
unfolding is_old
skips = refl

-- the script of document 01 is an old one
worked : are_old chip55 chip240 (script_of script01).events ≡ true
unfolding is_old avoids names_own script01 script_of script_from followed read_event with_kind with_arguments event_of arity numbers_at then before number_at groups_at joined
worked = refl
