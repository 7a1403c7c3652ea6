-- Document 01's script is its six events; numbers at the edges.
use Rattle.std.specs.Prelude.{ℕ, ◌≡◌, refl, List, [], ◌∷◌, Some, None}
use Rattle.script.specs.declared.Event.{Event}
use Rattle.script.specs.declared.Event.TheVariants.{Write, Line, Entry, Return}
use Rattle.script.specs.Event.{kind_of, arguments_of, arity}
use Rattle.numbers.specs.Number.{groups, number_bytes, joined, groups_at, number_at}
use Rattle.script.specs.Reading.{before, then, numbers_at, event_of, with_arguments, with_kind, read_event}
use Rattle.script.specs.Script.{whole, followed, script_from, script_of, bytes_of}
use Rattle.script.specs.Writing.{numbers_bytes, event_bytes}

unfoldable pub script01 : List ℕ
script01 =
    0x02 ∷ 0x04 ∷ 0x80 ∷ 0xC2 ∷ 0x83 ∷ 0x80 ∷ 0x0E ∷ 0x01 ∷ 0x03 ∷ 0x00 ∷ 0x01 ∷ 0x09 ∷ 0x0A ∷ 0xF9 ∷ 0xFF ∷ 0xFF ∷ 0xFF ∷ 0x0F ∷ 0x09 ∷ 0x09 ∷ []

unfoldable pub events01 : List Event
events01 = Write 4 0xE000E100 1 ∷ Line 0 1 ∷ Entry ∷ Return 0xFFFFFFF9 ∷ Entry ∷ Entry ∷ []

read01 : script_of script01 ≡ whole events01
unfolding script01 events01 script_of script_from followed read_event with_kind with_arguments event_of arity numbers_at then before number_at groups_at joined
read01 = refl

written01 : bytes_of events01 ≡ script01
unfolding script01 events01 bytes_of event_bytes numbers_bytes kind_of arguments_of number_bytes groups
written01 = refl

largest : number_at (0xFF ∷ 0xFF ∷ 0xFF ∷ 0xFF ∷ 0x0F ∷ []) 0 ≡ Some (0xFFFFFFFF, 5)
unfolding number_at groups_at joined
largest = refl

too_large : number_at (0x80 ∷ 0x80 ∷ 0x80 ∷ 0x80 ∷ 0x10 ∷ []) 0 ≡ None
unfolding number_at groups_at joined
too_large = refl

not_shortest : number_at (0x80 ∷ 0x00 ∷ []) 0 ≡ None
unfolding number_at groups_at joined
not_shortest = refl
