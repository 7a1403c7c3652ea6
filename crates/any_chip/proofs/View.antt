-- Each array is its list with clear places after it, before a call and after it.
use Prim.Native.Nat.{ℕ, ◌+◌, ◌-◌, ◌≤◌}
use mathlib.Core.Path.{◌≡◌, refl, sym, ap, ◌∙◌, subst}
use mathlib.Core.Logic.{inl, inr}
use mathlib.Core.List.{◌++◌}
use mathlib.Core.Bool.{false, not, ◌||◌}
use native.Mathlib.Omega.{arith}
use lib.ListN.{length, get_or, drop, replicate, length-replicate, replicate-append-replicate}
use lib.Dec.{eqb}
use Rattle.bools.specs.Tests.{by_cases}
use Rattle.script.specs.declared.Event.{Event}
use Rattle.rules.specs.declared.Chip.{Chip}
use Rattle.rules.specs.declared.Part.{Part}
use Rattle.rules.specs.declared.Part.TheVariants.{Lines55, Lines240, CortexM0}
use Rattle.rules.specs.declared.Setup.{Setup}
use Rattle.rules.specs.declared.Core.{Core}
use Rattle.rules.specs.Chip.{part_chip, chip_of, fits, flag_count, exception_count}
use Rattle.rules.specs.Model.{Model, Answer, fresh, fresh_core}
use Rattle.rules.specs.Lent.{model_of}
use Rattle.rules.specs.Sound.{is_sound, Sound}
use Rattle.rules.specs.Step.{guarded, admitted, step_of}
use Rattle.places.specs.declared.Reach.{Reach}
use Rattle.places.specs.Places.{nonzero, occupied, Blocks, reach_of, padded}
use Rattle.guarded.specs.FewLines.{FewLines}
use Rattle.demand3.proofs.Check.{of_sound}
use Rattle.demand3.proofs.Steps.{act_sound}
use Rattle.any_chip.specs.View.{Reply}
use Rattle.any_chip.specs.declared.State.{State}
use Rattle.any_chip.specs.View.{reach_in, first_places, model, state, reply}
use Rattle.any_chip.specs.ViewLaws.{Sized, ViewLaws}
use Rattle.places.proofs.Laws.{reach_fits, put, whole, free_byte, free_pending, free_active, free_enabled, free_level, free_priority, reach_clear, clear_past, first}

-- ---- the chips that a setup names

pub few_lines : (s : Setup) → FewLines (chip_of s)
few_lines s = few s.part
  where
    few : (p : Part) → FewLines (part_chip p s.bits s.guard)
    few Lines55 = record { lines = omega arith }
    few Lines240 = record { lines = omega arith }
    few CortexM0 = record { lines = omega arith }

pub flags_fit : (s : Setup) → flag_count (chip_of s) ≤ 256
flags_fit s = fit s.part
  where
    fit : (p : Part) → flag_count (part_chip p s.bits s.guard) ≤ 256
    fit Lines55 = omega arith
    fit Lines240 = omega arith
    fit CortexM0 = omega arith

pub nest_fits : (s : Setup) → exception_count (chip_of s) ≤ 248
nest_fits s = fit s.part
  where
    fit : (p : Part) → exception_count (part_chip p s.bits s.guard) ≤ 248
    fit Lines55 = omega arith
    fit Lines240 = omega arith
    fit CortexM0 = omega arith

pub lines_fit : (s : Setup) → (chip_of s).lines ≤ 240
lines_fit s = (few_lines s).lines

pub setup_blocks : (s : Setup) → Blocks (chip_of s)
setup_blocks s = blocks s.part
  where
    blocks : (p : Part) → Blocks (part_chip p s.bits s.guard)
    blocks Lines55 = record { flags = inl (omega arith); nest = inl (omega arith); lost = inl (omega arith) }
    blocks Lines240 = record { flags = inr refl; nest = inr refl; lost = inr refl }
    blocks CortexM0 = record { flags = inl (omega arith); nest = inl (omega arith); lost = inl (omega arith) }

-- ---- what is lent is the view's, and within its array

pub reached_in : (s : State) {c : Chip} → c ≡ chip_of s.setup → reach_of c s.pending s.active s.enabled s.level s.priority s.nest s.lost ≡ reach_in s
reached_in s ch = ap (λ (k : Chip). reach_of k s.pending s.active s.enabled s.level s.priority s.nest s.lost) ch

pub within : (s : State) (r : Reach) → r ≡ reach_in s → (r.places ≤ 256) × (r.nest ≤ 248) × (r.lost ≤ 240)
within s r q = (
  subst (λ (x : Reach). x.places ≤ 256) (sym q) (reach_fits _ _ 256 (flags_fit s.setup)),
  subst (λ (x : Reach). x.nest ≤ 248) (sym q) (reach_fits _ _ 248 (nest_fits s.setup)),
  subst (λ (x : Reach). x.lost ≤ 240) (sym q) (reach_fits _ _ 240 (lines_fit s.setup)),
)

-- ---- the two laws

module _ (s : State) where
  -- where nothing stands in the arrays at exception numbers
  abbrev Clear : ℕ → Type 0
  Clear i = occupied s.pending s.active s.enabled s.level s.priority i ≡ false

  no_pending : (i : ℕ) → Clear i → get_or s.pending i false ≡ false
  no_pending = free_pending s.pending s.active s.enabled s.level s.priority

  no_active : (i : ℕ) → Clear i → get_or s.active i false ≡ false
  no_active = free_active s.pending s.active s.enabled s.level s.priority

  no_enabled : (i : ℕ) → Clear i → get_or s.enabled i false ≡ false
  no_enabled = free_enabled s.pending s.active s.enabled s.level s.priority

  no_level : (i : ℕ) → Clear i → get_or s.level i false ≡ false
  no_level = free_level s.pending s.active s.enabled s.level s.priority

  no_priority : (i : ℕ) → Clear i → get_or s.priority i 0 ≡ 0
  no_priority = free_priority s.pending s.active s.enabled s.level s.priority

back : (s : State) → Sized s → state s.setup (model s) ≡ s
back s z =
    let n = flag_count (chip_of s.setup) in
    let f = flags_fit s.setup in
    λ i. record {
      setup = s.setup;
      pending = whole false s.pending _ (no_pending s) 256 n z.pending f i;
      active = whole false s.active _ (no_active s) 256 n z.active f i;
      enabled = whole false s.enabled _ (no_enabled s) 256 n z.enabled f i;
      level = whole false s.level _ (no_level s) 256 n z.level f i;
      priority = whole 0 s.priority _ (no_priority s) 256 n z.priority f i;
      nest = whole 0 s.nest _ (free_byte s.nest) 248 (exception_count (chip_of s.setup)) z.nest (nest_fits s.setup) i;
      lost = whole 0 s.lost _ (free_byte s.lost) 240 (chip_of s.setup).lines z.lost (lines_fit s.setup) i;
      core = s.core;
    }

viewed : (setup : Setup) (m : Model) → Sound (chip_of setup) m → model (state setup m) ≡ m
viewed setup m h =
    let n = flag_count (chip_of setup) in
    let x = exception_count (chip_of setup) in
    let s = state setup m in
    let none : (j : ℕ) → occupied s.pending s.active s.enabled s.level s.priority (n + j) ≡ false =
    λ j i. ((clear_past n 256 m.pending false h.pending.size j i || clear_past n 256 m.active false h.active.size j i) || (clear_past n 256 m.enabled false h.enabled.size j i || clear_past n 256 m.level false h.level.size j i)) || not (eqb (clear_past n 256 m.priority 0 h.priority.size j i) 0) in
    let l = (chip_of setup).lines in
    let r : reach_in s ≡ record { places = n; nest = x; lost = l } =
    λ i. record {
      places = reach_clear (occupied s.pending s.active s.enabled s.level s.priority) n 256 none i;
      nest = reach_clear (nonzero s.nest) x 248 (λ j. ap (λ (b : ℕ). not (eqb b 0)) (clear_past x 248 m.nest 0 h.places.size j)) i;
      lost = reach_clear (nonzero s.lost) l 240 (λ j. ap (λ (b : ℕ). not (eqb b 0)) (clear_past l 240 m.lost 0 h.lost.size j)) i;
    } in
    ap (λ (k : Reach). first_places k s) r
    ∙ (λ i. model_of (first n 256 m.pending false h.pending.size i) (first n 256 m.active false h.active.size i) (first n 256 m.enabled false h.enabled.size i) (first n 256 m.level false h.level.size i) (first n 256 m.priority 0 h.priority.size i) (first x 248 m.nest 0 h.places.size i) (first l 240 m.lost 0 h.lost.size i) m.core)

pub view_laws : ViewLaws
view_laws = record { back = back; viewed = viewed }

-- ---- the fresh state

fresh_list : {A : Type 0} (size n : ℕ) (clear : A) → n ≤ size → replicate size clear ≡ padded size clear (replicate n clear)
fresh_list size n clear h =
    let e : n + (size - n) ≡ size = omega arith in
    sym (ap (λ (k : ℕ). replicate n clear ++ replicate (size - k) clear) (length-replicate n clear) ∙ replicate-append-replicate n (size - n) clear ∙ ap (λ (k : ℕ). replicate k clear) e)

abbrev clear_state : Setup → Core → State
clear_state s k = record { setup = s; pending = replicate 256 false; active = replicate 256 false; enabled = replicate 256 false; level = replicate 256 false; priority = replicate {A = ℕ} 256 0; nest = replicate {A = ℕ} 248 0; lost = replicate {A = ℕ} 240 0; core = k }

pub fresh_state : (s : Setup) (k : Core) → k ≡ fresh_core (chip_of s) → clear_state s k ≡ state s (fresh (chip_of s))
unfolding fresh
fresh_state s k q =
    let flags : replicate 256 false ≡ padded 256 false (replicate (flag_count (chip_of s)) false) = fresh_list 256 (flag_count (chip_of s)) false (flags_fit s) in
    let bytes : replicate {A = ℕ} 256 0 ≡ padded 256 0 (replicate (flag_count (chip_of s)) 0) = fresh_list 256 (flag_count (chip_of s)) 0 (flags_fit s) in
    let nest : replicate {A = ℕ} 248 0 ≡ padded 248 0 (replicate (exception_count (chip_of s)) 0) = fresh_list 248 (exception_count (chip_of s)) 0 (nest_fits s) in
    let lost : replicate {A = ℕ} 240 0 ≡ padded 240 0 (replicate (chip_of s).lines 0) = fresh_list 240 (chip_of s).lines 0 (lines_fit s) in
    λ i. record { setup = s; pending = flags i; active = flags i; enabled = flags i; level = flags i; priority = bytes i; nest = nest i; lost = lost i; core = q i }

-- ---- an event keeps each list's length, on a sound model or not

pub record SameLengths (m t : Model) : Type 0 where
  pub pending : length m.pending ≡ length t.pending
  pub active : length m.active ≡ length t.active
  pub enabled : length m.enabled ≡ length t.enabled
  pub level : length m.level ≡ length t.level
  pub priority : length m.priority ≡ length t.priority
  pub nest : length m.nest ≡ length t.nest
  pub lost : length m.lost ≡ length t.lost

pub unchanged : (m : Model) → SameLengths m m
unchanged m = record { pending = refl; active = refl; enabled = refl; level = refl; priority = refl; nest = refl; lost = refl }

pub both_sound : {c : Chip} {m t : Model} → Sound c m → Sound c t → SameLengths m t
both_sound h k =
    record {
      pending = h.pending.size ∙ sym k.pending.size;
      active = h.active.size ∙ sym k.active.size;
      enabled = h.enabled.size ∙ sym k.enabled.size;
      level = h.level.size ∙ sym k.level.size;
      priority = h.priority.size ∙ sym k.priority.size;
      nest = h.places.size ∙ sym k.places.size;
      lost = h.lost.size ∙ sym k.lost.size;
    }

kept_lengths : (c : Chip) (m : Model) (e : Event) → SameLengths (step_of c m e).next m
unfolding admitted guarded
kept_lengths c m e =
    by_cases (λ (a : Answer). SameLengths a.next m) (fits c)
    (λ _. by_cases (λ (a : Answer). SameLengths a.next m) (is_sound c m)
    (λ t. let h = of_sound c m t in both_sound (act_sound h e) h)
    (λ _. unchanged m))
    (λ _. unchanged m)

-- ---- what comes back

-- the places that were lent as m has them, the others as they were
abbrev pub restored : Reach → State → Model → State
restored r s m =
    record {
      setup = s.setup;
      pending = m.pending ++ drop r.places s.pending;
      active = m.active ++ drop r.places s.active;
      enabled = m.enabled ++ drop r.places s.enabled;
      level = m.level ++ drop r.places s.level;
      priority = m.priority ++ drop r.places s.priority;
      nest = m.nest ++ drop r.nest s.nest;
      lost = m.lost ++ drop r.lost s.lost;
      core = m.core;
    }

pub put_back : (s : State) → Sized s → (m : Model) → SameLengths m (model s) → restored (reach_in s) s m ≡ state s.setup m
put_back s z m h =
    let n = flag_count (chip_of s.setup) in
    let f = flags_fit s.setup in
    λ i. record {
      setup = s.setup;
      pending = put false s.pending _ (no_pending s) 256 n m.pending z.pending f h.pending i;
      active = put false s.active _ (no_active s) 256 n m.active z.active f h.active i;
      enabled = put false s.enabled _ (no_enabled s) 256 n m.enabled z.enabled f h.enabled i;
      level = put false s.level _ (no_level s) 256 n m.level z.level f h.level i;
      priority = put 0 s.priority _ (no_priority s) 256 n m.priority z.priority f h.priority i;
      nest = put 0 s.nest _ (free_byte s.nest) 248 (exception_count (chip_of s.setup)) m.nest z.nest (nest_fits s.setup) h.nest i;
      lost = put 0 s.lost _ (free_byte s.lost) 240 (chip_of s.setup).lines m.lost z.lost (lines_fit s.setup) h.lost i;
      core = m.core;
    }

abbrev pub replied : Reach → State → Answer → Reply
replied r s a = record { refusal = a.refusal; value = a.value; vector = a.vector; link = a.link; state = restored r s a.next }

pub step_back : (s : State) → Sized s → (c : Chip) → c ≡ chip_of s.setup → (r : Reach) → r ≡ reach_in s → (e : Event) (a : Answer) → a ≡ step_of c (first_places r s) e → replied r s a ≡ reply s.setup (step_of (chip_of s.setup) (model s) e)
step_back s z c ch r q e a h =
    let after = step_of (chip_of s.setup) (model s) e in
    (λ i. replied (q i) s ((h ∙ (λ j. step_of (ch j) (first_places (q j) s) e)) i))
    ∙ ap (λ (t : State). record { refusal = after.refusal; value = after.value; vector = after.vector; link = after.link; state = t }) (put_back s z after.next (kept_lengths (chip_of s.setup) (model s) e))
