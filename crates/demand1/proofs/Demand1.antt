-- Each call is its refusals in a row, each with a number of its kind and nothing else, and then what it does; the tests of the chip and of soundness come before all.
use Prim.Native.Nat.{ℕ, ◌%◌}
use mathlib.Core.Path.{◌≡◌, refl, sym, subst}
use mathlib.Core.Logic.{◌⊎◌, inl, inr, ◌↔◌}
use mathlib.Core.List.{List, [], ◌∷◌}
use mathlib.Core.Bool.{Bool, true, false, not, cond, ◌&&◌, ◌||◌}
use native.Mathlib.Omega.{arith}
use lib.Dec.{T, ltb, leb, eqb, T_not}
use lib.IntN.{ℤ}
use Rattle.std.specs.Prelude.{Option, Some, None}
use Rattle.bools.specs.Tests.{is_false, either, or_right, by_cases}
use Rattle.script.specs.declared.AccessKind.{AccessKind}
use Rattle.script.specs.declared.Event.{Event}
use Rattle.script.specs.declared.Event.TheVariants as event
use Rattle.script.specs.Event.{access_number}
use Rattle.rules.specs.declared.Chip.{Chip}
use Rattle.rules.specs.declared.System.{System}
use Rattle.rules.specs.declared.Register.{Register}
use Rattle.rules.specs.declared.Register.TheVariants as reg
use Rattle.rules.specs.Chip.{is_armv6m, is_in, fits}
use Rattle.rules.specs.Laws.{all}
use Rattle.rules.proofs.Laws.{in_all}
use Rattle.rules.specs.Model.{Model, Answer, refuse}
use Rattle.rules.specs.Priorities.{execution, is_negative, privileged}
use Rattle.rules.specs.Sound.{is_sound}
use Rattle.rules.specs.Events.{line_call, lost_call, tick_call, skip_call, escalates, raised, fault_exception, fault_status, fault_raised, fault_at, fault_call, svc_at, svc_call, lacks_special, special_at, special_call}
use Rattle.rules.specs.Nesting.{chosen, enter, entry_at, entry_call, link_fits, return_call}
use Rattle.rules.specs.Map.{register_of, width_refusal}
use Rattle.rules.specs.Registers.{is_width, access_refusal, read_call, free_write, write_call}
use Rattle.rules.specs.Access.{fits_access, access_at, access_by, access_call}
use Rattle.rules.specs.Step.{act_of, guarded, admitted, step_of}
use Rattle.demand1.specs.Demand1.{own_refusals, Refused, Demand1}

-- ---- the checks of a register access give 0 or one of 1 to 5

abbrev Among : ℕ → Type 0
Among n = T (is_in n (0 ∷ 1 ∷ 2 ∷ 3 ∷ 4 ∷ 5 ∷ []))

width_among : (c : Chip) (r : Register) (w : ℕ) → Among (width_refusal c r w)
unfolding width_refusal
width_among c reg.Missing w = tt
width_among c (reg.Timer r) w = by_cases Among (eqb w 4) (λ _. tt) (λ _. tt)
width_among c (reg.Flags b n) w = by_cases Among (eqb w 4) (λ _. tt) (λ _. tt)
width_among c (reg.Priority n) w = by_cases Among (eqb w 2 || (is_armv6m c && eqb w 1)) (λ _. tt) (λ _. tt)
width_among c (reg.System r) w = by_cases Among (eqb w 4) (λ _. tt) (λ _. tt)
width_among c (reg.Guard r) w = by_cases Among (eqb w 4) (λ _. tt) (λ _. tt)
width_among c (reg.Constant x) w = by_cases Among (eqb w 4) (λ _. tt) (λ _. tt)

access_among : (c : Chip) (r : Register) (allowed : Bool) (w a : ℕ) → Among (access_refusal c r allowed w a)
unfolding access_refusal
access_among c r allowed w a =
    by_cases Among (not (is_width w)) (λ _. tt)
    (λ _. by_cases Among (not (eqb (a % w) 0)) (λ _. tt)
    (λ _. by_cases Among (not allowed) (λ _. tt) (λ _. width_among c r w)))

-- not 0, so one of the others
refused_among : (n : ℕ) → T (not (eqb n 0)) → Among n → T (is_in n (1 ∷ 2 ∷ 3 ∷ 4 ∷ 5 ∷ []))
refused_among n some t = go (either (eqb n 0) (is_in n (1 ∷ 2 ∷ 3 ∷ 4 ∷ 5 ∷ [])) t)
  where
    go : T (eqb n 0) ⊎ T (is_in n (1 ∷ 2 ∷ 3 ∷ 4 ∷ 5 ∷ [])) → T (is_in n (1 ∷ 2 ∷ 3 ∷ 4 ∷ 5 ∷ []))
    go (inl z) = absurd (T_not (eqb n 0) some z)
    go (inr u) = u

-- ---- every event

module _ (c : Chip) (m : Model) where
  -- what an event does to a sound model has none but the refusals of its own kind
  record Own (numbers : List ℕ) (a : Answer) : Type 0 where
    number : T (is_in a.refusal numbers)
    nothing : a ≡ refuse a.refusal m

  abbrev Fine : Event → Answer → Type 0
  Fine e a = (a.refusal ≡ 0) ⊎ Own (own_refusals c e) a

  read_fine : (w a : ℕ) → Fine (event.Read w a) (read_call c m w a)
  unfolding read_call
  read_fine w a =
      let n = access_refusal c (register_of c a) (privileged m.core) w a in
      by_cases (Fine (event.Read w a)) (eqb n 0) (λ _. inl refl)
      (λ some. inr (record { number = refused_among n some (access_among c (register_of c a) (privileged m.core) w a); nothing = refl }))

  write_fine : (w a v : ℕ) → Fine (event.Write w a v) (write_call c m w a v)
  unfolding write_call
  write_fine w a v =
      let may = privileged m.core || free_write m.core w a in
      let n = access_refusal c (register_of c a) may w a in
      by_cases (Fine (event.Write w a v)) (eqb n 0) (λ _. inl refl)
      (λ some. inr (record { number = refused_among n some (access_among c (register_of c a) may w a); nothing = refl }))

  line_fine : (line level : ℕ) → Fine (event.Line line level) (line_call c m line level)
  unfolding line_call
  line_fine line level =
      by_cases (Fine (event.Line line level)) (leb c.lines line || ltb 1 level) (λ _. inr (record { number = tt; nothing = refl })) (λ _. inl refl)

  lost_fine : (line : ℕ) → Fine (event.Lost line) (lost_call c m line)
  unfolding lost_call
  lost_fine line = by_cases (Fine (event.Lost line)) (leb c.lines line) (λ _. inr (record { number = tt; nothing = refl })) (λ _. inl refl)

  tick_fine : Fine event.Tick (tick_call m)
  unfolding tick_call
  tick_fine = inl refl

  skip_fine : (n : ℕ) → Fine (event.Skip n) (skip_call m n)
  unfolding skip_call
  skip_fine n = inl refl

  -- the number made pending is never a refusal
  raised_fine : (e : Event) (limit : ℤ) (n : ℕ) (status : System) → Fine e (raised c limit m n status)
  unfolding raised
  raised_fine e limit n status = by_cases (Fine e) (escalates limit m n) (λ _. inl refl) (λ _. inl refl)

  fault_fine : (b a : ℕ) → Fine (event.Fault b a) (fault_call c m b a)
  unfolding fault_at
  fault_fine b a = go (fault_exception b)
    where
      go : (o : Option ℕ) → Fine (event.Fault b a) (fault_raised c (execution m) m o b a)
      go None = inr (record { number = tt; nothing = refl })
      go (Some n) =
          by_cases (Fine (event.Fault b a)) (is_negative (execution m)) (λ _. inr (record { number = tt; nothing = refl }))
          (λ _. raised_fine (event.Fault b a) (execution m) n (fault_status b a m.core.system))

  svc_fine : Fine event.Svc (svc_call c m)
  unfolding svc_at
  svc_fine =
      by_cases (Fine event.Svc) (is_negative (execution m)) (λ _. inr (record { number = tt; nothing = refl }))
      (λ _. raised_fine event.Svc (execution m) 11 m.core.system)

  special_fine : (which v : ℕ) → Fine (event.Special which v) (special_call c m which v)
  unfolding special_at
  special_fine which v =
      by_cases (Fine (event.Special which v)) (ltb 4 which || lacks_special c which) (λ _. inr (record { number = tt; nothing = refl }))
      (λ _. by_cases (Fine (event.Special which v)) (privileged m.core) (λ _. inl refl) (λ _. inl refl))

  entry_fine : Fine event.Entry (entry_call m)
  unfolding entry_at
  entry_fine = go (chosen m)
    where
      go : (o : Option ℕ) → Fine event.Entry (enter m o)
      go None = inr (record { number = tt; nothing = refl })
      go (Some n) = inl refl

  return_fine : (v : ℕ) → Fine (event.Return v) (return_call m v)
  unfolding return_call
  return_fine v = by_cases (Fine (event.Return v)) (link_fits m.core.depth v) (λ _. inl refl) (λ _. inr (record { number = tt; nothing = refl }))

  access_fine : (kind : AccessKind) (w a : ℕ) → Fine (event.Access kind w a) (access_call c m (access_number kind) w a)
  unfolding access_at access_by
  access_fine kind w a = go (is_armv6m c)
    where
      FineIn : List ℕ → Answer → Type 0
      FineIn numbers x = (x.refusal ≡ 0) ⊎ Own numbers x

      go : (b : Bool) → FineIn (cond b (19 ∷ []) (6 ∷ 1 ∷ 2 ∷ [])) (cond b (refuse 19 m) (access_at c.guard (execution m) m (access_number kind) w a))
      go true = inr (record { number = tt; nothing = refl })
      go false =
          by_cases (FineIn (6 ∷ 1 ∷ 2 ∷ [])) (ltb 2 (access_number kind)) (λ _. inr (record { number = tt; nothing = refl }))
          (λ _. by_cases (FineIn (6 ∷ 1 ∷ 2 ∷ [])) (not (fits_access (access_number kind) w)) (λ _. inr (record { number = tt; nothing = refl }))
          (λ _. by_cases (FineIn (6 ∷ 1 ∷ 2 ∷ [])) (not (eqb (a % w) 0)) (λ _. inr (record { number = tt; nothing = refl })) (λ _. inl refl)))

  act_fine : (e : Event) → Fine e (act_of c m e)
  act_fine (event.Read w a) = read_fine w a
  act_fine (event.Write w a v) = write_fine w a v
  act_fine (event.Line line level) = line_fine line level
  act_fine event.Nmi = inl refl
  act_fine event.Tick = tick_fine
  act_fine (event.Fault b a) = fault_fine b a
  act_fine event.Svc = svc_fine
  act_fine (event.Special which v) = special_fine which v
  act_fine event.Entry = entry_fine
  act_fine (event.Return v) = return_fine v
  act_fine (event.Access kind w a) = access_fine kind w a
  act_fine (event.Lost line) = lost_fine line
  act_fine (event.Skip n) = skip_fine n

  -- an event that is let through answers neither 16 nor 17
  abbrev Other : ℕ → Bool
  Other n = not (is_in n (16 ∷ 17 ∷ []))

  own_other : (e : Event) → T (all Other (own_refusals c e))
  unfolding all
  own_other (event.Read w a) = tt
  own_other (event.Write w a v) = tt
  own_other (event.Line line level) = tt
  own_other event.Nmi = tt
  own_other event.Tick = tt
  own_other (event.Fault b a) = tt
  own_other event.Svc = tt
  own_other (event.Special which v) = tt
  own_other event.Entry = tt
  own_other (event.Return v) = tt
  own_other (event.Access kind w a) = by_cases (λ (numbers : List ℕ). T (all Other numbers)) (is_armv6m c) (λ _. tt) (λ _. tt)
  own_other (event.Lost line) = tt
  own_other (event.Skip n) = tt

  let_through : (e : Event) → Fine e (act_of c m e) → T (Other (act_of c m e).refusal)
  let_through e (inl z) = subst (λ (n : ℕ). T (Other n)) (sym z) tt
  let_through e (inr r) = in_all Other (act_of c m e).refusal (own_refusals c e) (own_other e) r.number

  events : (e : Event) → ((step_of c m e).refusal ≡ 0) ⊎ Refused c e m (step_of c m e)
  unfolding admitted guarded
  events e =
      by_cases (λ a. (a.refusal ≡ 0) ⊎ Refused c e m a) (fits c)
      (λ _. by_cases (λ a. (a.refusal ≡ 0) ⊎ Refused c e m a) (is_sound c m) (λ _. weak (act_fine e)) (λ _. inr (record { number = tt; nothing = refl })))
      (λ _. inr (record { number = tt; nothing = refl }))
    where
      weak : {a : Answer} → Fine e a → (a.refusal ≡ 0) ⊎ Refused c e m a
      weak (inl z) = inl z
      weak {a} (inr r) =
          inr (record {
            number = or_right (eqb a.refusal 17) (is_in a.refusal (16 ∷ own_refusals c e)) (or_right (eqb a.refusal 16) (is_in a.refusal (own_refusals c e)) r.number);
            nothing = r.nothing;
          })

  -- by the two tests, in their order
  abbrev tested : Bool → Bool → Event → Answer
  tested f s e = cond f (cond s (act_of c m e) (refuse 16 m)) (refuse 17 m)

  misfit : (e : Event) → ((step_of c m e).refusal ≡ 17) ↔ (fits c ≡ false)
  unfolding admitted guarded
  misfit e = go (fits c) (is_sound c m)
    where
      go : (f s : Bool) → ((tested f s e).refusal ≡ 17) ↔ (f ≡ false)
      go true true = (λ q. absurd (subst (λ (n : ℕ). T (Other n)) q (let_through e (act_fine e))), λ q. absurd (is_false q tt))
      go true false = (λ q. let z : ⊥ = omega (arith, q) in absurd z, λ q. absurd (is_false q tt))
      go false s = (λ _. refl, λ _. refl)

  unsound : (e : Event) → ((step_of c m e).refusal ≡ 16) ↔ ((fits c ≡ true) × (is_sound c m ≡ false))
  unfolding admitted guarded
  unsound e = go (fits c) (is_sound c m)
    where
      go : (f s : Bool) → ((tested f s e).refusal ≡ 16) ↔ ((f ≡ true) × (s ≡ false))
      go true true = (λ q. absurd (subst (λ (n : ℕ). T (Other n)) q (let_through e (act_fine e))), λ q. absurd (is_false q.1 tt))
      go true false = (λ _. (refl, refl), λ _. refl)
      go false s = (λ q. let z : ⊥ = omega (arith, q) in absurd z, λ q. absurd (is_false (sym q.0) tt))

pub demand1 : (c : Chip) → Demand1 c
demand1 c = record { events = events c; misfit = misfit c; unsound = unsound c }
