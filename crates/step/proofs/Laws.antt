-- A state that is ready for an event has numbers in range.
use Prim.Native.Nat.{◌<◌, ◌≤◌}
use native.Mathlib.Omega.{arith}
use lib.ListN.{length}
use lib.IntN.{ℤ}
use Rattle.rules.specs.declared.Chip.{Chip}
use Rattle.rules.specs.Model.{Model}
use Rattle.rules.proofs.Laws.{few_exist, vtable_below}
use Rattle.demand3.proofs.Check.{depth_fits}
use Rattle.step.specs.Ready.{Ready}

-- what an entry asks
pub enterable : {c : Chip} {m : Model} {limit : ℤ} → Ready c m limit → (length m.pending ≤ 256) × ((m.core.depth < 256) × (m.core.system.vtable < 1073741824))
enterable {c} {m} r =
    let l = r.lines in
    let s = r.sound.pending.size in
    let d = depth_fits r.sound in
    let f = few_exist c in
    (omega arith, (omega arith, vtable_below c m.core.system.vtable r.sound.core.system.vtable))
