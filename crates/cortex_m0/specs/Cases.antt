-- Document 02, E10: worked cases, as tables of what the rules compute and what the papers say. A new case is a new row.
use Rattle.std.specs.Prelude.{ℕ, ◌+◌, ◌^◌, List, [], ◌∷◌, true, set, ℤ, pos}
use Rattle.mpu.specs.declared.Mpu.{Mpu}
use Rattle.script.specs.declared.AccessKind.TheVariants as kind
use Rattle.script.specs.declared.Event.{Event}
use Rattle.script.specs.declared.Event.TheVariants.{Read, Write, Line, Nmi, Fault, Svc, Special, Entry, Return, Access, Lost}
use Rattle.rules.specs.declared.System.{System}
use Rattle.rules.specs.Chip.{chip_m0}
use Rattle.rules.specs.Model.{Model, fresh, fresh_masks, fresh_system, with_pending, with_enabled, with_priority, with_group, with_masks, with_guard, with_system}
use Rattle.rules.specs.Events.{with_faultmask, with_basepri, with_control}
use Rattle.rules.specs.Writes.{with_vtable, with_cfgctrl, with_faultstat, with_hfaultstat}
use Rattle.rules.specs.Step.{step_of}
use Rattle.rules.specs.Table.{Case, gives, last_on, refused, answered, enable, rise}

-- the refusal and the value of an event after some others
abbrev asked : List Event → Event → List ℤ
asked es e = answered (last_on chip_m0 es e)

-- its refusal alone
abbrev refusing : List Event → Event → List ℤ
refusing es e = refused (last_on chip_m0 es e)

-- what an entry answers: the exception, its vector address and the link value
abbrev entered : List Event → List ℤ
entered es = let a = last_on chip_m0 es Entry in pos a.value ∷ pos a.vector ∷ pos a.link ∷ []

abbrev store : ℕ → ℕ → Event
store address word = Write 4 address word

abbrev load : ℕ → Event
load address = Read 4 address

-- line 0 with the byte 0x80 active, line 1 with this byte pending
abbrev over : ℕ → List Event
over b = store 0xE000E400 (0x80 + b) ∷ enable 3 ∷ rise 0 ∷ Entry ∷ rise 1 ∷ []

unfoldable pub registers : List Case
registers =
    -- "ED00 (0x410CC200)", "ED0C (reads 0xFA050000, writes do nothing)", "ED14 (always 0x208)"
    gives (asked [] (load 0xE000ED00)) (0 ∷ 0x410CC200 ∷ [])
    ∷ gives (asked [] (store 0xE000ED0C 0x05FA0700)) (0 ∷ 0 ∷ [])
    ∷ gives (asked (store 0xE000ED0C 0x05FA0700 ∷ []) (load 0xE000ED0C)) (0 ∷ 0xFA050000 ∷ [])
    ∷ gives (asked [] (load 0xE000ED14)) (0 ∷ 0x208 ∷ [])
    ∷ gives (asked (store 0xE000ED14 0xFFFFFFFF ∷ []) (load 0xE000ED14)) (0 ∷ 0x208 ∷ [])
    -- "ED10": bits 4, 2, 1
    ∷ gives (asked (store 0xE000ED10 0xFFFFFFFF ∷ []) (load 0xE000ED10)) (0 ∷ 0x16 ∷ [])
    -- "ED1C and ED20": the bytes of 11, 14 and 15; "E400 to E41F"; "two priority bits"
    ∷ gives (asked (store 0xE000ED1C 0xFFFFFFFF ∷ []) (load 0xE000ED1C)) (0 ∷ 0xC0000000 ∷ [])
    ∷ gives (asked (store 0xE000ED20 0xFFFFFFFF ∷ []) (load 0xE000ED20)) (0 ∷ 0xC0C00000 ∷ [])
    ∷ gives (asked (store 0xE000E400 0xFFFFFFFF ∷ []) (load 0xE000E400)) (0 ∷ 0xC0C0C0C0 ∷ [])
    ∷ gives (asked (store 0xE000E41C 0xBF7F3F00 ∷ []) (load 0xE000E41C)) (0 ∷ 0x80400000 ∷ [])
    -- "E100, E180, E200, E280": every line
    ∷ gives (asked (store 0xE000E100 0xFFFFFFFF ∷ store 0xE000E180 0xFFFF ∷ []) (load 0xE000E100)) (0 ∷ 0xFFFF0000 ∷ [])
    ∷ gives (asked (store 0xE000E200 0xFFFFFFFF ∷ store 0xE000E280 0xFFFF ∷ []) (load 0xE000E200)) (0 ∷ 0xFFFF0000 ∷ [])
    -- "E010, 14, 18"
    ∷ gives (asked (store 0xE000E014 0xFFFFFFFF ∷ []) (load 0xE000E014)) (0 ∷ 0xFFFFFF ∷ [])
    -- "ED04 (top of nest in 5:0, bit 11 is 0)"
    ∷ gives (asked [] (load 0xE000ED04)) (0 ∷ 0 ∷ [])
    ∷ gives (asked (enable 1 ∷ rise 0 ∷ Entry ∷ Nmi ∷ []) (load 0xE000ED04)) (0 ∷ (2 ^ 31 + 16) ∷ [])
    ∷ gives (asked (enable 0x80000000 ∷ rise 31 ∷ Entry ∷ []) (load 0xE000ED04)) (0 ∷ 47 ∷ [])
    -- "4 for registers it lacks"
    ∷ gives (refusing [] (load 0xE000E004)) (4 ∷ [])
    ∷ gives (refusing [] (load 0xE000E104)) (4 ∷ [])
    ∷ gives (refusing [] (load 0xE000E300)) (4 ∷ [])
    ∷ gives (refusing [] (load 0xE000E420)) (4 ∷ [])
    ∷ gives (refusing [] (store 0xE000ED08 0)) (4 ∷ [])
    ∷ gives (refusing [] (load 0xE000ED18)) (4 ∷ [])
    ∷ gives (refusing [] (load 0xE000ED24)) (4 ∷ [])
    ∷ gives (refusing [] (load 0xE000ED28)) (4 ∷ [])
    ∷ gives (refusing [] (load 0xE000ED90)) (4 ∷ [])
    ∷ gives (refusing [] (store 0xE000EF00 0)) (4 ∷ [])
    -- "5 for single priority bytes", halfwords too; a byte where there is no register is 4
    ∷ gives (refusing [] (Read 1 0xE000E400)) (5 ∷ [])
    ∷ gives (refusing [] (Write 1 0xE000E41F 0x40)) (5 ∷ [])
    ∷ gives (refusing [] (Read 1 0xE000ED1F)) (5 ∷ [])
    ∷ gives (refusing [] (Read 2 0xE000ED1E)) (5 ∷ [])
    ∷ gives (refusing [] (Read 2 0xE000E400)) (5 ∷ [])
    ∷ gives (refusing [] (Read 1 0xE000ED14)) (5 ∷ [])
    ∷ gives (refusing [] (Read 1 0xE000ED18)) (4 ∷ [])
    ∷ gives (refusing [] (Read 2 0xE000ED18)) (4 ∷ [])
    ∷ []

unfoldable pub events : List Case
events =
    -- "6 for special registers 1, 2 and 3 and for lines above 31"
    gives (refusing [] (Special 1 1)) (6 ∷ [])
    ∷ gives (refusing [] (Special 2 0x40)) (6 ∷ [])
    ∷ gives (refusing [] (Special 3 0x40)) (6 ∷ [])
    ∷ gives (refusing [] (Special 5 0)) (6 ∷ [])
    ∷ gives (refusing [] (Line 31 1)) (0 ∷ [])
    ∷ gives (refusing [] (Line 32 1)) (6 ∷ [])
    ∷ gives (refusing [] (Lost 32)) (6 ∷ [])
    -- "always privileged (CONTROL keeps bit 1 only)"
    ∷ gives (asked (Special 4 3 ∷ []) (load 0xE000ED00)) (0 ∷ 0x410CC200 ∷ [])
    ∷ gives (entered (Special 4 3 ∷ enable 1 ∷ rise 0 ∷ [])) (16 ∷ 64 ∷ 0xFFFFFFFD ∷ [])
    ∷ gives (entered (Special 4 1 ∷ enable 1 ∷ rise 0 ∷ [])) (16 ∷ 64 ∷ 0xFFFFFFF9 ∷ [])
    -- PRIMASK holds a line back
    ∷ gives (refusing (enable 1 ∷ rise 0 ∷ Special 0 1 ∷ []) Entry) (8 ∷ [])
    -- "vectors start at 0": 4 x number
    ∷ gives (entered (Nmi ∷ [])) (2 ∷ 8 ∷ 0xFFFFFFF9 ∷ [])
    ∷ gives (entered (over 0x4000)) (17 ∷ 68 ∷ 0xFFFFFFF1 ∷ [])
    -- two bits: 0xBF is 0x80, which is not below 0x80
    ∷ gives (refusing (over 0xBF00) Entry) (8 ∷ [])
    -- "each fault (its bit checked by 7 as before) goes to HardFault": each bit, at thread level
    ∷ gives (asked [] (Fault 0 0)) (0 ∷ 3 ∷ [])
    ∷ gives (asked [] (Fault 1 0x20000000)) (0 ∷ 3 ∷ [])
    ∷ gives (asked [] (Fault 8 0)) (0 ∷ 3 ∷ [])
    ∷ gives (asked [] (Fault 9 4)) (0 ∷ 3 ∷ [])
    ∷ gives (asked [] (Fault 25 0)) (0 ∷ 3 ∷ [])
    ∷ gives (asked (Special 0 1 ∷ []) (Fault 16 0)) (0 ∷ 3 ∷ [])
    ∷ gives (entered (Fault 25 0 ∷ [])) (3 ∷ 12 ∷ 0xFFFFFFF9 ∷ [])
    ∷ gives (refusing [] (Fault 2 0)) (7 ∷ [])
    -- 7 before 10, inside NMI and inside HardFault
    ∷ gives (refusing (Nmi ∷ Entry ∷ []) (Fault 2 0)) (7 ∷ [])
    ∷ gives (refusing (Nmi ∷ Entry ∷ []) (Fault 1 0)) (10 ∷ [])
    ∷ gives (refusing (Fault 25 0 ∷ Entry ∷ []) (Fault 1 0)) (10 ∷ [])
    -- SVC: 11 if it can preempt, else HardFault, 10 when locked
    ∷ gives (asked [] Svc) (0 ∷ 11 ∷ [])
    ∷ gives (asked (Special 0 1 ∷ []) Svc) (0 ∷ 3 ∷ [])
    ∷ gives (refusing (Nmi ∷ Entry ∷ []) Svc) (10 ∷ [])
    -- "access events are refused by 19, before all others but 16": 6, 1 and 2 are after it
    ∷ gives (refusing [] (Access kind.Read 4 0x20000000)) (19 ∷ [])
    ∷ gives (refusing [] (Access (kind.Other 3) 4 0)) (19 ∷ [])
    ∷ gives (refusing [] (Access kind.Fetch 4 0)) (19 ∷ [])
    ∷ gives (refusing [] (Access kind.Read 4 1)) (19 ∷ [])
    -- a return as before
    ∷ gives (asked (enable 1 ∷ rise 0 ∷ Entry ∷ []) (Return 0xFFFFFFF9)) (0 ∷ 0 ∷ [])
    ∷ []

-- ---- "Soundness": a field that the profile lacks is not 0, in a state handed in

abbrev unsound : Model → List ℤ
unsound m = refused (step_of chip_m0 m Nmi)

abbrev m0 : Model
m0 = fresh chip_m0

abbrev system : (System → System) → Model
system f = with_system (f (fresh_system chip_m0)) m0

abbrev guard : ℕ → ℕ → List ℕ → List ℕ → ℕ → ℕ → Mpu
guard control region bases attributes mair0 mair1 =
    record { control = control; region = region; bases = bases; attributes = attributes; mair0 = mair0; mair1 = mair1 }

abbrev zeros : List ℕ
zeros = 0 ∷ 0 ∷ 0 ∷ 0 ∷ 0 ∷ 0 ∷ 0 ∷ 0 ∷ []

unfoldable pub lacking : List Case
lacking =
    gives (unsound m0) (0 ∷ [])
    -- "no grouping, no BASEPRI or FAULTMASK, .. always privileged"
    ∷ gives (unsound (with_group 1 m0)) (16 ∷ [])
    ∷ gives (unsound (with_masks (with_basepri 0x40 fresh_masks) m0)) (16 ∷ [])
    ∷ gives (unsound (with_masks (with_faultmask true fresh_masks) m0)) (16 ∷ [])
    ∷ gives (unsound (with_masks (with_control true true fresh_masks) m0)) (16 ∷ [])
    -- "vectors start at 0", "ED14 (always 0x208)", "no fault status or address kept"
    ∷ gives (unsound (system (with_vtable 0x400))) (16 ∷ [])
    ∷ gives (unsound (system (with_cfgctrl 0x200))) (16 ∷ [])
    ∷ gives (unsound (system (with_faultstat 1))) (16 ∷ [])
    ∷ gives (unsound (system (with_hfaultstat (2 ^ 30)))) (16 ∷ [])
    ∷ gives (unsound (system (λ s. record { vtable = s.vtable; sysctrl = s.sysctrl; cfgctrl = s.cfgctrl; faultstat = s.faultstat; hfaultstat = s.hfaultstat; mmaddr = 4; faultaddr = s.faultaddr }))) (16 ∷ [])
    ∷ gives (unsound (system (λ s. record { vtable = s.vtable; sysctrl = s.sysctrl; cfgctrl = s.cfgctrl; faultstat = s.faultstat; hfaultstat = s.hfaultstat; mmaddr = s.mmaddr; faultaddr = 4 }))) (16 ∷ [])
    -- "no MPU"
    ∷ gives (unsound (with_guard (guard 1 0 zeros zeros 0 0) m0)) (16 ∷ [])
    ∷ gives (unsound (with_guard (guard 0 1 zeros zeros 0 0) m0)) (16 ∷ [])
    ∷ gives (unsound (with_guard (guard 0 0 (set zeros 7 0x20) zeros 0 0) m0)) (16 ∷ [])
    ∷ gives (unsound (with_guard (guard 0 0 zeros (set zeros 0 1) 0 0) m0)) (16 ∷ [])
    ∷ gives (unsound (with_guard (guard 0 0 zeros zeros 1 0) m0)) (16 ∷ [])
    ∷ gives (unsound (with_guard (guard 0 0 zeros zeros 0 1) m0)) (16 ∷ [])
    -- "no configurable faults": no flag and no byte of 4, 5 and 6; "two priority bits"
    ∷ gives (unsound (with_pending (set m0.pending 4 true) m0)) (16 ∷ [])
    ∷ gives (unsound (with_enabled (set m0.enabled 5 true) m0)) (16 ∷ [])
    ∷ gives (unsound (with_priority (set m0.priority 6 0x40) m0)) (16 ∷ [])
    ∷ gives (unsound (with_priority (set m0.priority 16 0x20) m0)) (16 ∷ [])
    -- 16 before 19
    ∷ gives (refused (step_of chip_m0 (with_group 1 m0) (Access kind.Read 4 0))) (16 ∷ [])
    ∷ []
