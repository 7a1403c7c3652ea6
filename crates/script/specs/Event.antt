-- The events of a script and their numbers (document 01, "Scripts"; document 02, E1 and E5).
use Rattle.std.specs.Prelude.{ℕ, ◌≡◌, List, [], ◌∷◌, cond, eqb}
use Rattle.script.specs.declared.AccessKind.{AccessKind}
use Rattle.script.specs.declared.AccessKind.TheVariants as kind
use Rattle.script.specs.declared.Event.{Event}
use Rattle.script.specs.declared.Event.TheVariants.{Read, Write, Line, Nmi, Tick, Fault, Svc, Special, Entry, Return, Access, Lost, Skip}

-- "Kinds: 0 read, 1 write, 2 fetch", or another number
unfoldable pub access_number : AccessKind → ℕ
access_number kind.Read = 0
access_number kind.Write = 1
access_number kind.Fetch = 2
access_number (kind.Other n) = n

-- the kind of a number, where `Other` holds only the numbers above 2
unfoldable pub access_kind : ℕ → AccessKind
access_kind n = cond (eqb n 0) kind.Read (cond (eqb n 1) kind.Write (cond (eqb n 2) kind.Fetch (kind.Other n)))

-- "1 read (width, address), 2 write (width, address, value), 3 line (line, level), 4 NMI, 5 tick, 6 fault (bit, address), 7 SVC,
-- 8 special (which, value), 9 entry, 10 return (value), 11 access (kind, width, address)"; document 02, E1: "New script event 12 (line)"; E5: "script event 13 (count, any 32-bit
-- number)"
unfoldable pub kind_of : Event → ℕ
kind_of (Read width address) = 1
kind_of (Write width address value) = 2
kind_of (Line line level) = 3
kind_of Nmi = 4
kind_of Tick = 5
kind_of (Fault bit address) = 6
kind_of Svc = 7
kind_of (Special which value) = 8
kind_of Entry = 9
kind_of (Return value) = 10
kind_of (Access k width address) = 11
kind_of (Lost line) = 12
kind_of (Skip count) = 13

unfoldable pub arguments_of : Event → List ℕ
arguments_of (Read width address) = width ∷ (address ∷ [])
arguments_of (Write width address value) = width ∷ (address ∷ (value ∷ []))
arguments_of (Line line level) = line ∷ (level ∷ [])
arguments_of Nmi = []
arguments_of Tick = []
arguments_of (Fault bit address) = bit ∷ (address ∷ [])
arguments_of Svc = []
arguments_of (Special which value) = which ∷ (value ∷ [])
arguments_of Entry = []
arguments_of (Return value) = value ∷ []
arguments_of (Access k width address) = access_number k ∷ (width ∷ (address ∷ []))
arguments_of (Lost line) = line ∷ []
arguments_of (Skip count) = count ∷ []

-- How many arguments a kind has. A number that is no kind has none, so that refusal 14 looks at no argument.
unfoldable pub arity : ℕ → ℕ
arity kind =
    cond (eqb kind 1) 2
    (cond (eqb kind 2) 3
    (cond (eqb kind 3) 2
    (cond (eqb kind 6) 2
    (cond (eqb kind 8) 2
    (cond (eqb kind 10) 1
    (cond (eqb kind 11) 3
    (cond (eqb kind 12) 1
    (cond (eqb kind 13) 1
    0))))))))

-- the same event with its access kind in the case of its number
unfoldable pub normal : Event → Event
normal (Read width address) = Read width address
normal (Write width address value) = Write width address value
normal (Line line level) = Line line level
normal Nmi = Nmi
normal Tick = Tick
normal (Fault bit address) = Fault bit address
normal Svc = Svc
normal (Special which value) = Special which value
normal Entry = Entry
normal (Return value) = Return value
normal (Access k width address) = Access (access_kind (access_number k)) width address
normal (Lost line) = Lost line
normal (Skip count) = Skip count

abbrev pub Normal : Event → Type 0
Normal e = normal e ≡ e
