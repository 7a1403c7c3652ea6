-- Every event but reads and writes, on two models that are alike: what each test reads agrees, and each store is within the shorter lists.
use Prim.Native.Nat.{ℕ, suc, pred, ◌+◌, ◌*◌, ◌%◌, ◌≤◌, ◌<◌, min}
use mathlib.Core.Path.{◌≡◌, refl, sym, ap, ap₂, subst, ◌∙◌}
use mathlib.Core.List.{List, [], ◌∷◌}
use mathlib.Core.Bool.{Bool, true, false, not, ◌&&◌, ◌||◌}
use native.Mathlib.Omega.{arith}
use lib.ListN.{get_or, set}
use lib.Dec.{ltb, leb, eqb}
use lib.IntN.{ℤ}
use borrow.Author.Tests.{lt-leb}
use Rattle.bools.specs.Tests.{by_cases}
use Rattle.bits.specs.Words.{bit}
use Rattle.flag_words.specs.Flags.{on}
use Rattle.std.specs.Prelude.{Option, Some, None}
use Rattle.priority.specs.Priority.{execution_nested, masked}
use Rattle.systick.specs.declared.Timer.{Timer}
use Rattle.systick.specs.declared.Ticked.{Ticked}
use Rattle.systick.specs.Timer.{tick_of}
use Rattle.systick.specs.Skip.{skip_of}
use Rattle.rules.specs.declared.Chip.{Chip}
use Rattle.rules.specs.declared.Core.{Core}
use Rattle.rules.specs.declared.System.{System}
use Rattle.rules.specs.Chip.{flag_count, exception_count, is_in}
use Rattle.rules.specs.Model.{Model, Answer, refuse, done, down, stack, top, with_pending, with_active, with_enabled, with_level, with_priority, with_nest, with_lost, with_core, with_depth, with_masks, put_depth, put_masks, put_timer, put_system}
use Rattle.rules.specs.Priorities.{execution, is_negative, privileged}
use Rattle.rules.specs.Sound.{Sound}
use Rattle.rules.specs.Events.{pend, levelled, loses_rise, one_more, counted, line_call, lost_call, nmi_call, ticked_model, tick_call, skip_call, escalates, forced, noted, raised, fault_exception, fault_status, fault_raised, fault_at, fault_call, svc_at, svc_call, control_written, lacks_special, special_written, special_at, special_call}
use Rattle.rules.specs.Nesting.{chosen, link_of, with_spsel, entered, enter, entry_at, entry_call, link_fits, returned_masks, repended, returned, return_call}
use Rattle.rules.specs.Access.{fits_access, access_at, access_by, access_call}
use Rattle.rules.proofs.Laws.{link_deep}
use Rattle.rules.specs.SkipLaws.{skip_timer}
use Rattle.demand3.proofs.Nesting.{execution_nest, chosen_below, top_below}
use Rattle.old_scripts.specs.Alike.{Same, Alike}
use Rattle.old_scripts.specs.OldScripts.{Grown}
use Rattle.old_scripts.proofs.Lists.{both_ways, same_clear, Held, held_set, same_down, same_group, same_least, same_best}

-- ---- one part put anew

module _ {m t : Model} (a : Alike m t) where
  pub put_pending : {x y : List Bool} → Same false x y → Alike (with_pending x m) (with_pending y t)
  put_pending s = record { pending = s; active = a.active; enabled = a.enabled; level = a.level; priority = a.priority; nest = a.nest; lost = a.lost; core = a.core }

  put_active : {x y : List Bool} → Same false x y → Alike (with_active x m) (with_active y t)
  put_active s = record { pending = a.pending; active = s; enabled = a.enabled; level = a.level; priority = a.priority; nest = a.nest; lost = a.lost; core = a.core }

  pub put_enabled : {x y : List Bool} → Same false x y → Alike (with_enabled x m) (with_enabled y t)
  put_enabled s = record { pending = a.pending; active = a.active; enabled = s; level = a.level; priority = a.priority; nest = a.nest; lost = a.lost; core = a.core }

  put_level : {x y : List Bool} → Same false x y → Alike (with_level x m) (with_level y t)
  put_level s = record { pending = a.pending; active = a.active; enabled = a.enabled; level = s; priority = a.priority; nest = a.nest; lost = a.lost; core = a.core }

  pub put_priority : {x y : List ℕ} → Same 0 x y → Alike (with_priority x m) (with_priority y t)
  put_priority s = record { pending = a.pending; active = a.active; enabled = a.enabled; level = a.level; priority = s; nest = a.nest; lost = a.lost; core = a.core }

  put_nest : {x y : List ℕ} → Same 0 x y → Alike (with_nest x m) (with_nest y t)
  put_nest s = record { pending = a.pending; active = a.active; enabled = a.enabled; level = a.level; priority = a.priority; nest = s; lost = a.lost; core = a.core }

  put_lost : {x y : List ℕ} → Same 0 x y → Alike (with_lost x m) (with_lost y t)
  put_lost s = record { pending = a.pending; active = a.active; enabled = a.enabled; level = a.level; priority = a.priority; nest = a.nest; lost = s; core = a.core }

  -- the core changed by the same function
  pub put_core : (f : Core → Core) → Alike (with_core (f m.core) m) (with_core (f t.core) t)
  put_core f = record { pending = a.pending; active = a.active; enabled = a.enabled; level = a.level; priority = a.priority; nest = a.nest; lost = a.lost; core = ap f a.core }

-- ---- answers that meet: the same numbers, and what is left is alike

pub record Meets (x y : Answer) : Type 0 where
  pub refusal : x.refusal ≡ y.refusal
  pub value : x.value ≡ y.value
  pub vector : x.vector ≡ y.vector
  pub link : x.link ≡ y.link
  pub next : Alike x.next y.next

pub meets_refuse : {m t : Model} {i j : ℕ} → i ≡ j → Alike m t → Meets (refuse i m) (refuse j t)
meets_refuse e a = record { refusal = e; value = refl; vector = refl; link = refl; next = a }

pub meets_done : {m t : Model} {i j : ℕ} → i ≡ j → Alike m t → Meets (done i m) (done j t)
meets_done e a = record { refusal = refl; value = e; vector = refl; link = refl; next = a }

pub more : {c d : Chip} → Grown c d → flag_count c ≤ flag_count d
more g = let l = g.lines in omega arith

more_places : {c d : Chip} → Grown c d → exception_count c ≤ exception_count d
more_places g = let l = g.lines in rw (g.profiles.0, g.profiles.1) (omega arith)

-- ---- the parts of two calls that both chips share

-- the core that a special write leaves
abbrev special_core : Chip → ℤ → ℕ → ℕ → Core → Core
special_core c e which v k = put_masks (special_written c which v (is_negative e) (eqb k.depth 0) k.masks) k

-- what a return from n leaves: the nest and the active flags of m, the rest of x
abbrev popped : ℕ → ℕ → Core → Model → Model → Model
popped v n k m x =
    with_masks (returned_masks n v k.masks) (with_depth (pred k.depth) (with_nest (set m.nest (pred k.depth) 0) (with_active (set m.active n false) x)))

module _ {c d : Chip} (g : Grown c d) {m t : Model} (h : Sound c m) (k : Sound d t) (a : Alike m t) where
  -- ---- the lists, with their lengths

  pub pendings : Held false (flag_count c) (flag_count d) m.pending t.pending
  pendings = record { short = h.pending.size; long = k.pending.size; same = a.pending }

  actives : Held false (flag_count c) (flag_count d) m.active t.active
  actives = record { short = h.active.size; long = k.active.size; same = a.active }

  levels : Held false (flag_count c) (flag_count d) m.level t.level
  levels = record { short = h.level.size; long = k.level.size; same = a.level }

  nests : Held 0 (exception_count c) (exception_count d) m.nest t.nest
  nests = record { short = h.places.size; long = k.places.size; same = a.nest }

  -- ---- what the calls read

  pub execution_same : execution m ≡ execution t
  unfolding execution_nested
  execution_same =
      sym (execution_nest h)
      ∙ ap (masked m.core.group m.core.masks.basepri m.core.masks.primask m.core.masks.faultmask)
      (same_least m.core.group m.priority t.priority a.priority m.nest t.nest m.core.depth a.nest)
      ∙ ap (λ (x : Core). execution_nested x.group t.priority t.nest x.depth x.masks.basepri x.masks.primask x.masks.faultmask) a.core
      ∙ execution_nest k

  -- a call at the execution priority of each
  at_execution : (x y : ℤ → Answer) → ((e : ℤ) → Meets (x e) (y e)) → Meets (x (execution m)) (y (execution t))
  at_execution x y f = subst (λ e. Meets (x (execution m)) (y e)) execution_same (f (execution m))

  pub stack_same : stack m ≡ stack t
  stack_same = same_down m.nest t.nest m.core.depth a.nest ∙ ap (λ (x : Core). down t.nest x.depth) a.core

  chosen_same : chosen m ≡ chosen t
  chosen_same =
      rw (execution_same, a.core)
      (same_best t.core.group m.priority t.priority a.priority (execution t) m.pending t.pending m.enabled t.enabled (more g) pendings a.enabled)

  -- ---- lines

  pended : (n : ℕ) → n < flag_count c → Alike (pend n m) (pend n t)
  pended n l = put_pending a (held_set (more g) n true l pendings).same

  loses_same : (n : ℕ) (high : Bool) → loses_rise n high m ≡ loses_rise n high t
  unfolding loses_rise
  loses_same n high = ap₂ (λ (p q : Bool). (high && not p) && q) (a.level.each n) (a.pending.each n)

  more_same : (line : ℕ) → line < c.lines → Same 0 (one_more line m.lost) (one_more line t.lost)
  unfolding one_more
  more_same line l =
      subst (λ (n : ℕ). Same 0 (one_more line m.lost) (set t.lost line (min (suc n) 65535))) (a.lost.each line)
      (held_set g.lines line (min (suc (get_or m.lost line 0)) 65535) l (record { short = h.lost.size; long = k.lost.size; same = a.lost })).same

  counted_same : (line : ℕ) (high : Bool) → line < c.lines → Same 0 (counted line high m) (counted line high t)
  unfolding counted
  counted_same line high l =
      both_ways (Same 0) (loses_rise (16 + line) high m) (loses_rise (16 + line) high t) (loses_same (16 + line) high) (λ _. more_same line l) (λ _. a.lost)

  levelled_alike : (n : ℕ) (high : Bool) → n < flag_count c → Alike (levelled n high m) (levelled n high t)
  unfolding levelled
  levelled_alike n high l =
      both_ways Alike (high && not (on m.level n)) (high && not (on t.level n)) (ap (λ (b : Bool). high && not b) (a.level.each n))
      (λ _. put_level (pended n l) (held_set (more g) n true l levels).same)
      (λ _. put_level a (held_set (more g) n high l levels).same)

  pub line_meets : (line level : ℕ) → line < c.lines → Meets (line_call c m line level) (line_call d t line level)
  unfolding line_call
  line_meets line level l =
      let e = g.lines in
      both_ways Meets (leb c.lines line || ltb 1 level) (leb d.lines line || ltb 1 level) (rw (lt-leb c.lines line l, lt-leb d.lines line (omega arith)))
      (λ _. meets_refuse refl a)
      (λ _. meets_done refl (put_lost (levelled_alike (16 + line) (eqb level 1) (omega arith)) (counted_same line (eqb level 1) l)))

  pub lost_meets : (line : ℕ) → line < c.lines → Meets (lost_call c m line) (lost_call d t line)
  unfolding lost_call
  lost_meets line l =
      let e = g.lines in
      both_ways Meets (leb c.lines line) (leb d.lines line) (rw (lt-leb c.lines line l, lt-leb d.lines line (omega arith)))
      (λ _. meets_refuse refl a)
      (λ _. meets_done (a.lost.each line) a)

  pub nmi_meets : Meets (nmi_call m) (nmi_call t)
  nmi_meets = meets_done refl (pended 2 (omega arith))

  -- ticks that the timer makes: one, or many
  ticked_meets : (f : Timer → Ticked) → Meets (done (bit (f m.core.timer).fell) (ticked_model (f m.core.timer) m)) (done (bit (f t.core.timer).fell) (ticked_model (f t.core.timer) t))
  ticked_meets f =
      meets_done (ap (λ (x : Core). bit (f x.timer).fell) a.core)
      (subst (λ (x : Core). Alike (ticked_model (f m.core.timer) m) (ticked_model (f x.timer) t)) a.core
      (put_core (both_ways Alike (f m.core.timer).pends (f m.core.timer).pends refl (λ _. pended 15 (omega arith)) (λ _. a)) (put_timer (f m.core.timer).timer)))

  pub tick_meets : Meets (tick_call m) (tick_call t)
  unfolding tick_call
  tick_meets = ticked_meets tick_of

  pub skip_meets : (n : ℕ) → Meets (skip_call m n) (skip_call t n)
  skip_meets n = subst (λ x. Meets x (skip_call t n)) (sym (skip_timer m n)) (subst (Meets _) (sym (skip_timer t n)) (ticked_meets (skip_of n)))

  -- ---- faults and SVC

  escalates_same : (e : ℤ) (n : ℕ) → escalates e m n ≡ escalates e t n
  unfolding escalates
  escalates_same e n = rw (a.enabled.each n, a.core, same_group t.core.group m.priority t.priority a.priority n)

  raised_meets : (e : ℤ) (n : ℕ) (f : System → System) → n < 16 → Meets (raised c e m n (f m.core.system)) (raised d e t n (f t.core.system))
  unfolding raised noted
  raised_meets e n f l =
      rw (g.profiles.0, g.profiles.1)
      (both_ways Meets (escalates e m n) (escalates e t n) (escalates_same e n)
      (λ _. meets_done refl (put_core (pended 3 (omega arith)) (λ x. put_system (forced (f x.system)) x)))
      (λ _. meets_done refl (put_core (pended n (omega arith)) (λ x. put_system (f x.system) x))))

  pub fault_meets : (b address : ℕ) → Meets (fault_call c m b address) (fault_call d t b address)
  unfolding fault_at fault_exception
  fault_meets b address =
      at_execution (λ e. fault_at c e m b address) (λ e. fault_at d e t b address)
      (λ e. by_cases (To e) (is_in b (0 ∷ 1 ∷ [])) (λ _. raise e 4 (omega arith))
      (λ _. by_cases (To e) (is_in b (8 ∷ 9 ∷ [])) (λ _. raise e 5 (omega arith))
      (λ _. by_cases (To e) (is_in b (16 ∷ 17 ∷ 18 ∷ 19 ∷ 24 ∷ 25 ∷ [])) (λ _. raise e 6 (omega arith))
      (λ _. meets_refuse refl a))))
    where
      To : ℤ → Option ℕ → Type 0
      To e o = Meets (fault_raised c e m o b address) (fault_raised d e t o b address)

      raise : (e : ℤ) (n : ℕ) → n < 16 → To e (Some n)
      raise e n l = both_ways Meets (is_negative e) (is_negative e) refl (λ _. meets_refuse refl a) (λ _. raised_meets e n (fault_status b address) l)

  pub svc_meets : Meets (svc_call c m) (svc_call d t)
  unfolding svc_at
  svc_meets =
      at_execution (λ e. svc_at c e m) (λ e. svc_at d e t)
      (λ e. both_ways Meets (is_negative e) (is_negative e) refl (λ _. meets_refuse refl a) (λ _. raised_meets e 11 (λ s. s) (omega arith)))

  -- ---- special registers

  special_same : (e : ℤ) (which v : ℕ) (x : Core) → special_core c e which v x ≡ special_core d e which v x
  unfolding special_written control_written
  special_same e which v x = rw (g.bits, g.profiles.0, g.profiles.1)

  pub special_meets : (which v : ℕ) → Meets (special_call c m which v) (special_call d t which v)
  unfolding special_at
  special_meets which v =
      at_execution (λ e. special_at e c m which v) (λ e. special_at e d t which v)
      (λ e. both_ways Meets (ltb 4 which || lacks_special c which) (ltb 4 which || lacks_special d which) (rw (g.profiles.0, g.profiles.1)) (λ _. meets_refuse refl a)
      (λ _. both_ways Meets (privileged m.core) (privileged t.core) (ap privileged a.core)
      (λ _. meets_done refl (subst (λ (x : Core). Alike (with_core (special_core c e which v m.core) m) (with_core x t)) (special_same e which v t.core) (put_core a (special_core c e which v))))
      (λ _. meets_done refl a)))

  -- ---- entry and return

  enter_meets : (o : Option ℕ) → chosen m ≡ o → Meets (enter m o) (enter t o)
  unfolding entered
  enter_meets None e = meets_refuse refl a
  enter_meets (Some n) e =
      let b = chosen_below h n e in
      record {
        refusal = refl;
        value = refl;
        vector = ap (λ (x : Core). x.system.vtable + 4 * n) a.core;
        link = ap link_of a.core;
        next =
            put_core
            (put_nest (put_active (put_pending a (same_clear false n a.pending)) (held_set (more g) n true b.0 actives).same)
            (subst (λ (x : Core). Same 0 (set m.nest m.core.depth n) (set t.nest x.depth n)) a.core (held_set (more_places g) m.core.depth n b.1 nests).same))
            (λ x. put_masks (with_spsel false x.masks) (put_depth (suc x.depth) x));
      }

  pub entry_meets : Meets (entry_call m) (entry_call t)
  unfolding entry_at
  entry_meets = subst (λ o. Meets (enter m (chosen m)) (enter t o)) chosen_same (enter_meets (chosen m) refl)

  repended_alike : (n : ℕ) → n < flag_count c → Alike (repended n m) (repended n t)
  unfolding repended
  repended_alike n l = both_ways Alike (on m.level n) (on t.level n) (a.level.each n) (λ _. pended n l) (λ _. a)

  popped_alike : (v n : ℕ) → n < flag_count c → Alike (popped v n m.core m (repended n m)) (popped v n m.core t (repended n t))
  popped_alike v n l =
      put_core (put_nest (put_active (repended_alike n l) (same_clear false n a.active)) (same_clear 0 (pred m.core.depth) a.nest))
      (λ x. put_masks (returned_masks n v m.core.masks) (put_depth (pred m.core.depth) x))

  returned_alike : (v : ℕ) → 0 < m.core.depth → Alike (returned v m) (returned v t)
  unfolding returned
  returned_alike v l =
      subst (λ (s : List ℕ). Alike (returned v m) (popped v (top s) t.core t (repended (top s) t))) stack_same
      (subst (λ (x : Core). Alike (returned v m) (popped v (top (stack m)) x t (repended (top (stack m)) t))) a.core (popped_alike v (top (stack m)) (top_below h l)))

  pub return_meets : (v : ℕ) → Meets (return_call m v) (return_call t v)
  unfolding return_call
  return_meets v =
      both_ways Meets (link_fits m.core.depth v) (link_fits t.core.depth v) (ap (λ (x : Core). link_fits x.depth v) a.core)
      (λ f. meets_done
      (ap top (same_down m.nest t.nest (pred m.core.depth) a.nest ∙ ap (λ (x : Core). down t.nest (pred x.depth)) a.core))
      (returned_alike v (link_deep m.core.depth v f)))
      (λ _. meets_refuse refl a)

  -- ---- access verdicts

  pub access_meets : (kind w x : ℕ) → Meets (access_call c m kind w x) (access_call d t kind w x)
  unfolding access_at access_by
  access_meets kind w x =
      at_execution (λ e. access_by c e m kind w x) (λ e. access_by d e t kind w x)
      (λ e. rw (g.profiles.0, g.profiles.1) (both_ways Meets (ltb 2 kind) (ltb 2 kind) refl (λ _. meets_refuse refl a)
      (λ _. both_ways Meets (not (fits_access kind w)) (not (fits_access kind w)) refl (λ _. meets_refuse refl a)
      (λ _. both_ways Meets (not (eqb (x % w) 0)) (not (eqb (x % w) 0)) refl (λ _. meets_refuse refl a)
      (λ _. meets_done (rw (g.guard, a.core)) a)))))
