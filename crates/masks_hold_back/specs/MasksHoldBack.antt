-- Document 02, E13, "Masks only hold back", sentence by sentence, for every chip that fits. The proof is `proofs/MasksHoldBack.antt`.
use Rattle.std.specs.Prelude.{ℕ, ◌≤◌, ◌≡◌, ◌≢◌, ◌⊎◌, List, [], ◌∷◌, ◌++◌, T, ◌≤ℤ◌}
use Rattle.bits.specs.Words.{bit_at}
use Rattle.script.specs.declared.Event.{Event}
use Rattle.script.specs.declared.Event.TheVariants.{Special, Entry}
use Rattle.rules.specs.declared.Chip.{Chip}
use Rattle.rules.specs.declared.Masks.{Masks}
use Rattle.rules.specs.Chip.{chip55, fits}
use Rattle.rules.specs.Model.{Model, Answer, refuse, fresh, with_masks}
use Rattle.rules.specs.Priorities.{execution}
use Rattle.rules.specs.Events.{with_primask, with_faultmask, with_basepri}
use Rattle.rules.specs.Sound.{Sound}
use Rattle.rules.specs.Step.{step_of}
use Rattle.rules.specs.Table.{Holds, after_on, last_on}
use Rattle.demand3.specs.Demand3.{Calls}
use Rattle.masks_hold_back.specs.Cases.{cases, line0}

-- ---- the two states

abbrev pub masks : Model → Masks
masks m = m.core.masks

-- m with the PRIMASK, FAULTMASK and BASEPRI of t; CONTROL, which stands beside them, and all else stay
abbrev pub masked_as : Model → Model → Model
masked_as t m =
    with_masks (with_primask (masks t).primask (with_faultmask (masks t).faultmask (with_basepri (masks t).basepri (masks m)))) m

-- "two .. states equal but for PRIMASK, FAULTMASK and BASEPRI, where the second's execution priority is the same or lower as a number"
pub record Lowered (m t : Model) : Type 0 where
  pub same : t ≡ masked_as t m
  pub lower : execution t ≤ℤ execution m

-- ---- the two entries

-- an answer in the first state, as it is in t: the same number, vector address and link value, and the same state left but for the three masks
abbrev pub answered_as : Model → Answer → Answer
answered_as t a = record { refusal = a.refusal; value = a.value; vector = a.vector; link = a.link; next = masked_as t a.next }

-- a is the answer to an entry in m, b to one in t
pub record HeldBack (m t : Model) (a b : Answer) : Type 0 where
  -- "Entry in the second enters the same exception as in the first, or is refused by 8."
  pub entered : ((a.refusal ≡ 0) × (b ≡ answered_as t a)) ⊎ (b ≡ refuse 8 t)
  -- "if the first is refused, so is the second": both by 8
  pub refused : a.refusal ≢ 0 → (a ≡ refuse 8 m) × (b ≡ refuse 8 t)

-- ---- masks that are added

-- PRIMASK and FAULTMASK are set where they were; BASEPRI, where it was not 0, is neither 0 nor greater
pub record Added (k l : Masks) : Type 0 where
  pub primask : T k.primask → T l.primask
  pub faultmask : T k.faultmask → T l.faultmask
  pub basepri : k.basepri ≢ 0 → (l.basepri ≢ 0) × (l.basepri ≤ k.basepri)

-- the writes that can only add: 1 to PRIMASK or FAULTMASK, which take bit 0, and any value to BASEPRI_MAX
pub data Raises : Event → Type 0 where
  primask : (v : ℕ) → T (bit_at 0 v) → Raises (Special 0 v)
  faultmask : (v : ℕ) → T (bit_at 0 v) → Raises (Special 1 v)
  basepri_max_lem : (v : ℕ) → Raises (Special 3 v)

-- ---- the claim

pub record MasksHoldBack (c : Chip) : Type 0 where
  -- "take two reachable states": each left by a list of events from the fresh model
  pub reached : (es fs : List Event) → Lowered (after_on c es) (after_on c fs) → HeldBack (after_on c es) (after_on c fs) (last_on c es Entry) (last_on c fs Entry)
  -- .. of calls and their answers
  pub calls : (es fs : List Event) (rs qs : List Answer) (m t : Model) → Calls c (fresh c) es rs m → Calls c (fresh c) fs qs t → Lowered m t → HeldBack m t (step_of c m Entry) (step_of c t Entry)
  -- .. and of sound states, reached or handed in
  pub sound : (m t : Model) → Sound c m → Sound c t → Lowered m t → HeldBack m t (step_of c m Entry) (step_of c t Entry)
  -- "adding a mask can't start anything": a state and the same with masks added are such a pair
  pub added : (m t : Model) → t ≡ masked_as t m → Added (masks m) (masks t) → Lowered m t
  -- So are a state and what a write leaves of it that can only add: it starts nothing, the entry after it is the entry instead of it, or is refused by 8.
  -- It need not be privileged or accepted: without privilege, or refused by 6 on a chip that lacks the register, it changes nothing.
  pub raised : (m : Model) → Sound c m → (e : Event) → Raises e → Lowered m (step_of c m e).next
  pub starts_nothing : (es : List Event) (e : Event) → Raises e → HeldBack (after_on c es) (last_on c es e).next (last_on c es Entry) (step_of c (last_on c es e).next Entry)

pub record E13 : Type 0 where
  pub every : (c : Chip) → T (fits c) → MasksHoldBack c
  -- the premises can be met: the same events without and with PRIMASK, whose entries the first row of the table has
  pub met : Lowered (after_on chip55 line0) (after_on chip55 (line0 ++ (Special 0 1 ∷ [])))
  pub examples : Holds cases
