-- Access verdicts: document 01, "Access verdicts", sentence by sentence; the rights by document 02, E3.
use Rattle.std.specs.Prelude.{ℕ, zero, suc, ◌+◌, ◌-◌, ◌/◌, ◌%◌, ◌^◌, List, Bool, true, false, not, cond, ◌&&◌, get_or, eqb, ltb, leb}
use Rattle.mpu.specs.declared.Mpu.{Mpu}
use Rattle.verdicts.specs.declared.Access.{Access}
use Rattle.verdicts.specs.declared.Access.TheVariants.{Read, Write, Fetch}
use Rattle.verdicts.specs.declared.Rights.{Rights}

-- "Default map: all may read and write; no fetch from 0x40000000 to 0x5FFFFFFF nor from 0xA0000000 up".
unfoldable pub default_allows : Access → ℕ → Bool
default_allows Read address = true
default_allows Write address = true
default_allows Fetch address =
    cond (ltb address 0x40000000) true
    (cond (ltb address 0x60000000) false (ltb address 0xA0000000))

-- "0xE0000000 to 0xE00FFFFF", the private bus.
unfoldable pub on_private_bus : ℕ → Bool
on_private_bus address = cond (ltb address 0xE0000000) false (ltb address 0xE0100000)

-- "The default map decides if ED94 bit 0 is clear, if the address is 0xE0000000 to 0xE00FFFFF, or if ED94 bit 1 is clear
-- and the execution priority is negative."
unfoldable pub default_decides : ℕ → ℕ → Bool → Bool
default_decides control address negative =
    cond (eqb (control % 2) 0) true
    (cond (on_private_bus address) true
    (cond negative (eqb (control / 2 % 2) 0) false))

-- SIZE, "bits 5:1" of the attributes.
abbrev pub size_of : ℕ → ℕ
size_of attributes = attributes / 2 % 2 ^ 5

-- "the address agrees with the base above the low SIZE+1 bits (always at 31)"
unfoldable pub agrees : ℕ → ℕ → ℕ → Bool
agrees size base address = eqb (address / 2 ^ (size + 1)) (base / 2 ^ (size + 1))

-- Which eighth of its block of 2 ^ (SIZE + 1) bytes an address is in.
abbrev pub eighth_of : ℕ → ℕ → ℕ
eighth_of size address = address / 2 ^ (size - 2) % 2 ^ 3

-- "for SIZE 7 or more, its eighth is not switched off in bits 15:8"
unfoldable pub eighth_on : ℕ → ℕ → Bool
eighth_on attributes address =
    cond (ltb (size_of attributes) 7) true
    (eqb (attributes / 2 ^ (8 + eighth_of (size_of attributes) address) % 2) 0)

-- "A region matches if bit 0 is set, SIZE (bits 5:1) is 4 or more, the address agrees .. and .. its eighth is not switched off".
unfoldable pub region_matches : ℕ → ℕ → ℕ → Bool
region_matches base attributes address =
    cond (eqb (attributes % 2) 0) false
    (cond (ltb (size_of attributes) 4) false
    (cond (agrees (size_of attributes) base address) (eighth_on attributes address) false))

-- Document 02, E3: "Work the rights out from the three AP bits by a formula that can be read aloud." These are the cases of the
-- manual's CheckPermission(), which leaves AP 4 unpredictable; that they are document 01's rows is a law (`Rights`).

-- AP's low bits, 25:24 of the attributes.
abbrev pub ap_low : ℕ → ℕ
ap_low attributes = attributes / 2 ^ 24 % 2 ^ 2

-- AP's high bit, 26.
abbrev pub ap_read_only : ℕ → Bool
ap_read_only attributes = eqb (attributes / 2 ^ 26 % 2) 1

-- The privileged may read where low is not 0, the others where low is 2 or 3.
unfoldable pub may_read : ℕ → Bool → Bool
may_read low privileged = cond privileged (not (eqb low 0)) (leb 2 low)

-- Unless AP is read only, the privileged may write where low is not 0, the others where low is 3.
unfoldable pub may_write : ℕ → Bool → Bool → Bool
may_write low read_only privileged = not read_only && cond privileged (not (eqb low 0)) (eqb low 3)

-- The rights that a region with these attributes gives.
unfoldable pub rights_of : ℕ → Bool → Rights
rights_of attributes privileged =
    record {
      read = may_read (ap_low attributes) privileged;
      write = may_write (ap_low attributes) (ap_read_only attributes) privileged;
    }

-- What a region with these attributes allows: the manual's CheckPermission(). "A fetch needs the right to read and bit 28 clear".
unfoldable pub allows : ℕ → Access → Bool → Bool
allows attributes Read privileged = (rights_of attributes privileged).read
allows attributes Write privileged = (rights_of attributes privileged).write
allows attributes Fetch privileged =
    cond (eqb (attributes / 2 ^ 28 % 2) 0) (rights_of attributes privileged).read false

-- "if none, the default map where ED94 bit 2 is set and the access is privileged, else a fault"
unfoldable pub background : ℕ → Access → ℕ → Bool → Bool
background control access address privileged =
    cond (eqb (control / 2 ^ 2 % 2) 0) false
    (cond privileged (default_allows access address) false)

-- What region n allows if it matches; else what was found before.
unfoldable pub region_allows : ℕ → ℕ → Access → ℕ → Bool → Bool → Bool
region_allows base attributes access address privileged before =
    cond (region_matches base attributes address) (allows attributes access privileged) before

-- "Otherwise the highest-numbered matching region decides": of the first n regions; where none matches, `otherwise`.
unfoldable pub regions_allow : List ℕ → List ℕ → Access → ℕ → Bool → Bool → ℕ → Bool
regions_allow bases attributes access address privileged otherwise zero = otherwise
regions_allow bases attributes access address privileged otherwise (suc n) =
    region_allows (get_or bases n 0) (get_or attributes n 0) access address privileged
    (regions_allow bases attributes access address privileged otherwise n)

-- "from 0xE0000000 up it always faults": such a fetch.
unfoldable pub system_fetch : Access → ℕ → Bool
system_fetch Read address = false
system_fetch Write address = false
system_fetch Fetch address = leb 0xE0000000 address

-- Whether the guard lets an access through: the manual's ValidateAddress().
unfoldable pub permits : Mpu → Access → ℕ → Bool → Bool → Bool
permits g access address privileged negative =
    cond (system_fetch access address) false
    (cond (default_decides g.control address negative) (default_allows access address)
    (regions_allow g.bases g.attributes access address privileged (background g.control access address privileged) 8))

-- "1 data fault, 2 fetch fault"
unfoldable pub fault_of : Access → ℕ
fault_of Read = 1
fault_of Write = 1
fault_of Fetch = 2

-- "Verdict 0 allowed, 1 data fault, 2 fetch fault."
unfoldable pub verdict : Mpu → Access → ℕ → Bool → Bool → ℕ
verdict g access address privileged negative =
    cond (permits g access address privileged negative) 0 (fault_of access)
