-- The state that the rules speak of, over every chip: lists where a chip's state by value has arrays, and the parts that all chips share.
use Rattle.std.specs.Prelude.{ℕ, zero, suc, List, [], ◌∷◌, Bool, false, cond, get_or, replicate}
use Rattle.systick.specs.declared.Timer.{Timer}
use Rattle.systick.specs.Timer.{fresh_timer}
use Rattle.mpu.specs.declared.Mpu.{Mpu}
use Rattle.mpu.specs.Registers.{fresh_mpu}
use Rattle.rules.specs.declared.Masks.{Masks}
use Rattle.rules.specs.declared.System.{System}
use Rattle.rules.specs.declared.Core.{Core}
use Rattle.rules.specs.declared.Chip.{Chip}
use Rattle.rules.specs.Chip.{is_armv6m, flag_count, exception_count}

-- Flags and priority bytes stand at exception numbers. The nest (document 01's word for the stack of active exceptions) holds
-- exception numbers, the newest last; its first `depth` places are in use. `lost` stands at line numbers (document 02, E1: "Keep for each line
-- the number of such rises since the fresh state, as part of the model's state"). `core` is what holds no list: `depth`, the group setting p
-- as `group`, the masks, the timer, the guard, the system block.
pub record Model : Type 0 where
  pub pending : List Bool
  pub active : List Bool
  pub enabled : List Bool
  pub level : List Bool
  pub priority : List ℕ
  pub nest : List ℕ
  pub lost : List ℕ
  pub core : Core

-- ---- the nest, newest first

abbrev pub down : List ℕ → ℕ → List ℕ
down l zero = []
down l (suc d) = get_or l d 0 ∷ down l d

abbrev pub stack : Model → List ℕ
stack m = down m.nest m.core.depth

-- how many are nested
abbrev pub depth_of : Model → ℕ
depth_of m = m.core.depth

-- 0 for thread mode
abbrev pub top : List ℕ → ℕ
top [] = 0
top (x ∷ xs) = x

-- ---- "Fresh: everything zero, lines low, nothing nested, but for the constants below and CFGCTRL = 0x200."

abbrev pub fresh_masks : Masks
fresh_masks = record { primask = false; faultmask = false; basepri = 0; npriv = false; spsel = false }

-- Document 02, E10: ED14 is "always 0x208"
abbrev pub fresh_cfgctrl : Chip → ℕ
fresh_cfgctrl c = cond (is_armv6m c) 0x208 0x200

abbrev pub fresh_system : Chip → System
fresh_system c = record { vtable = 0; sysctrl = 0; cfgctrl = fresh_cfgctrl c; faultstat = 0; hfaultstat = 0; mmaddr = 0; faultaddr = 0 }

abbrev pub fresh_core : Chip → Core
fresh_core c = record { depth = 0; group = 0; masks = fresh_masks; timer = fresh_timer; guard = fresh_mpu; system = fresh_system c }

unfoldable pub fresh : Chip → Model
fresh c =
    record {
      pending = replicate (flag_count c) false;
      active = replicate (flag_count c) false;
      enabled = replicate (flag_count c) false;
      level = replicate (flag_count c) false;
      priority = replicate (flag_count c) 0;
      nest = replicate (exception_count c) 0;
      lost = replicate c.lines 0;
      core = fresh_core c;
    }

-- ---- a model with one part put anew

abbrev pub with_pending : List Bool → Model → Model
with_pending x m = record { pending = x; active = m.active; enabled = m.enabled; level = m.level; priority = m.priority; nest = m.nest; lost = m.lost; core = m.core }

abbrev pub with_active : List Bool → Model → Model
with_active x m = record { pending = m.pending; active = x; enabled = m.enabled; level = m.level; priority = m.priority; nest = m.nest; lost = m.lost; core = m.core }

abbrev pub with_enabled : List Bool → Model → Model
with_enabled x m = record { pending = m.pending; active = m.active; enabled = x; level = m.level; priority = m.priority; nest = m.nest; lost = m.lost; core = m.core }

abbrev pub with_level : List Bool → Model → Model
with_level x m = record { pending = m.pending; active = m.active; enabled = m.enabled; level = x; priority = m.priority; nest = m.nest; lost = m.lost; core = m.core }

abbrev pub with_priority : List ℕ → Model → Model
with_priority x m = record { pending = m.pending; active = m.active; enabled = m.enabled; level = m.level; priority = x; nest = m.nest; lost = m.lost; core = m.core }

abbrev pub with_nest : List ℕ → Model → Model
with_nest x m = record { pending = m.pending; active = m.active; enabled = m.enabled; level = m.level; priority = m.priority; nest = x; lost = m.lost; core = m.core }

abbrev pub with_lost : List ℕ → Model → Model
with_lost x m = record { pending = m.pending; active = m.active; enabled = m.enabled; level = m.level; priority = m.priority; nest = m.nest; lost = x; core = m.core }

abbrev pub with_core : Core → Model → Model
with_core x m = record { pending = m.pending; active = m.active; enabled = m.enabled; level = m.level; priority = m.priority; nest = m.nest; lost = m.lost; core = x }

-- ---- a core with one part put anew, and a model with such a core

abbrev pub put_depth : ℕ → Core → Core
put_depth x k = record { depth = x; group = k.group; masks = k.masks; timer = k.timer; guard = k.guard; system = k.system }

abbrev pub put_group : ℕ → Core → Core
put_group x k = record { depth = k.depth; group = x; masks = k.masks; timer = k.timer; guard = k.guard; system = k.system }

abbrev pub put_masks : Masks → Core → Core
put_masks x k = record { depth = k.depth; group = k.group; masks = x; timer = k.timer; guard = k.guard; system = k.system }

abbrev pub put_timer : Timer → Core → Core
put_timer x k = record { depth = k.depth; group = k.group; masks = k.masks; timer = x; guard = k.guard; system = k.system }

abbrev pub put_guard : Mpu → Core → Core
put_guard x k = record { depth = k.depth; group = k.group; masks = k.masks; timer = k.timer; guard = x; system = k.system }

abbrev pub put_system : System → Core → Core
put_system x k = record { depth = k.depth; group = k.group; masks = k.masks; timer = k.timer; guard = k.guard; system = x }

abbrev pub with_depth : ℕ → Model → Model
with_depth x m = with_core (put_depth x m.core) m

abbrev pub with_group : ℕ → Model → Model
with_group x m = with_core (put_group x m.core) m

abbrev pub with_masks : Masks → Model → Model
with_masks x m = with_core (put_masks x m.core) m

abbrev pub with_timer : Timer → Model → Model
with_timer x m = with_core (put_timer x m.core) m

abbrev pub with_guard : Mpu → Model → Model
with_guard x m = with_core (put_guard x m.core) m

abbrev pub with_system : System → Model → Model
with_system x m = with_core (put_system x m.core) m

-- ---- answers: "A refusal returns its number with every other field 0 and changes nothing."

pub record Answer : Type 0 where
  pub refusal : ℕ
  pub value : ℕ
  pub vector : ℕ
  pub link : ℕ
  pub next : Model

abbrev pub refuse : ℕ → Model → Answer
refuse n m = record { refusal = n; value = 0; vector = 0; link = 0; next = m }

abbrev pub done : ℕ → Model → Answer
done v m = record { refusal = 0; value = v; vector = 0; link = 0; next = m }
