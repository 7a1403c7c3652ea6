-- Document 02, E4: "An old script for 55 lines gives the same output lines on the new chip, provided that it names no line above 54 in any event
-- or SWTRIG value, and reads or writes none of .." these addresses. Stated of any two chips c and d, d with as many lines or more.
use Rattle.std.specs.Prelude.{ℕ, ◌+◌, ◌-◌, ◌*◌, ◌/◌, ◌≤◌, ◌≡◌, List, [], ◌∷◌, Bool, true, false, not, ◌&&◌, T, ltb, leb, eqb}
use Rattle.bools.specs.Tests.{implies}
use Rattle.bits.specs.Words.{field}
use Rattle.script.specs.declared.Event.{Event}
use Rattle.script.specs.declared.Event.TheVariants as event
use Rattle.script.specs.Script.{script_of}
use Rattle.rules.specs.declared.Chip.{Chip}
use Rattle.rules.specs.Chip.{is_armv6m, fits}
use Rattle.rules.specs.Model.{fresh}
use Rattle.rules.specs.Blocks.{flag_words, byte_words}
use Rattle.rules.specs.Step.{answers_of}
use Rattle.text.specs.Text.{text_of}
use Rattle.old_scripts.specs.Alike.{Agreeing}

-- ---- the addresses

-- the addresses from the first to the last
pub record Block : Type 0 where
  pub first : ℕ
  pub last : ℕ

abbrev pub only : ℕ → Block
only a = record { first = a; last = a }

abbrev pub holds : Block → ℕ → Bool
holds b a = leb b.first a && leb a b.last

abbrev pub none_holds : List Block → ℕ → Bool
none_holds [] a = true
none_holds (b ∷ bs) a = not (holds b a) && none_holds bs a

-- of the words of flags from `base` on, those that show a line past the last of c, as far as d has words
abbrev pub flags_past : Chip → Chip → ℕ → Block
flags_past c d base = record { first = base + 4 * (c.lines / 32); last = base + 4 * flag_words d - 1 }

-- the priority bytes of such lines
abbrev pub bytes_past : Chip → Chip → Block
bytes_past c d = record { first = 0xE000E400 + c.lines; last = 0xE000E400 + 4 * byte_words d - 1 }

-- where the two chips may differ: E004 counts lines, ED08 keeps bits by their number, all others hold something of a line that c lacks
abbrev pub parted : Chip → Chip → List Block
parted c d =
    only 0xE000E004
    ∷ flags_past c d 0xE000E100
    ∷ flags_past c d 0xE000E180
    ∷ flags_past c d 0xE000E200
    ∷ flags_past c d 0xE000E280
    ∷ flags_past c d 0xE000E300
    ∷ bytes_past c d
    ∷ only 0xE000ED08
    ∷ []

-- the word that holds the priority bytes of lines on both sides of the last of c
abbrev pub mixed_word : Chip → ℕ
mixed_word c = 0xE000E400 + 4 * (c.lines / 4)

-- ---- the events

-- "reads or writes none of": a read or a write of any width there, refused or not; "the word at E434" is an access of width 4 alone
unfoldable pub avoids : Chip → Chip → ℕ → ℕ → Bool
avoids c d w a = none_holds (parted c d) a && not (eqb w 4 && eqb a (mixed_word c))

-- "names no line above 54"
abbrev pub is_own : Chip → ℕ → Bool
is_own c line = ltb line c.lines

-- ".. in any .. SWTRIG value": the line that a value written there names is its bits 8:0
unfoldable pub names_own : Chip → ℕ → ℕ → Bool
names_own c a v = implies (eqb a 0xE000EF00) (is_own c (field 8 0 v))

-- the proviso, of one event
unfoldable pub is_old : Chip → Chip → Event → Bool
is_old c d (event.Read w a) = avoids c d w a
is_old c d (event.Write w a v) = avoids c d w a && names_own c a v
is_old c d (event.Line line level) = is_own c line
is_old c d event.Nmi = true
is_old c d event.Tick = true
is_old c d (event.Fault b a) = true
is_old c d event.Svc = true
is_old c d (event.Special which v) = true
is_old c d event.Entry = true
is_old c d (event.Return v) = true
is_old c d (event.Access kind w a) = true
-- event 12 (E1) names a line as event 3 does
is_old c d (event.Lost line) = is_own c line
is_old c d (event.Skip n) = true

abbrev pub are_old : Chip → Chip → List Event → Bool
are_old c d [] = true
are_old c d (e ∷ es) = is_old c d e && are_old c d es

-- ---- the claim

-- d has the lines of c, keeps the same bits of a priority byte, 3 to 8 of them, and has the same guard; both are ARMv7-M (the Cortex-M0 of E10 has
-- one word in each bank: nothing grows there)
pub record Grown (c d : Chip) : Type 0 where
  pub lines : c.lines ≤ d.lines
  pub bits : c.bits ≡ d.bits
  pub guard : c.guard ≡ d.guard
  pub profiles : (is_armv6m c ≡ false) × (is_armv6m d ≡ false)
  pub fit : T (fits c)

pub record OldScripts (c d : Chip) : Type 0 where
  -- events, each on what the last one left: every answer agrees
  pub answers : (es : List Event) → T (are_old c d es) → Agreeing (answers_of c (fresh c) es) (answers_of d (fresh d) es)
  -- bytes: "gives the same output lines", the closing line of a broken script too; the events are those that run
  pub text : (bytes : List ℕ) → T (are_old c d (script_of bytes).events) → text_of c bytes ≡ text_of d bytes
