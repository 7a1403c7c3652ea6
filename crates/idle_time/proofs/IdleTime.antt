-- A tick event on a sound state is the rules' tick, so as many of them are the iterated tick; a state that is refused stays through both.
use Prim.Native.Nat.{ℕ, zero, suc, ◌+◌, ◌-◌, ◌≤◌, ◌<◌, max}
use mathlib.Core.Path.{◌≡◌, refl, sym, ap, subst, ◌∙◌}
use mathlib.Core.List.{List, ◌∷◌}
use mathlib.Core.Bool.{Bool, true, false, ◌||◌, or_assoc}
use native.Mathlib.Nat.{zero-add}
use native.Mathlib.Omega.{arith}
use lib.Dec.{T, eqb}
use borrow.Author.Tests.{lt-ltb, le-ltb}
use Rattle.bits.specs.Words.{bit}
use Rattle.bools.specs.Tests.{true_is}
use Rattle.systick.specs.declared.Ticked.{Ticked}
use Rattle.systick.specs.Timer.{enabled, with_current, steady}
use Rattle.systick.specs.Skip.{skip_of}
use Rattle.systick.specs.ClosedForm.{skipped}
use Rattle.systick.specs.SkipLaws.{from_zero_still, skip_skipped, skip_stopped}
use Rattle.script.specs.declared.Event.{Event}
use Rattle.script.specs.declared.Event.TheVariants.{Tick, Skip}
use Rattle.rules.specs.declared.Chip.{Chip}
use Rattle.rules.specs.Chip.{fits}
use Rattle.rules.specs.Model.{Model, Answer, refuse, done, with_timer}
use Rattle.rules.specs.Sound.{Sound}
use Rattle.rules.specs.Events.{ticked_model, ticked, some_fall, skip_call}
use Rattle.rules.specs.SkipLaws.{skip_timer}
use Rattle.rules.specs.Step.{act_of, step_of, answers_of, run_of}
use Rattle.demand3.specs.Demand3.{Calls, stop, call}
use Rattle.demand3.proofs.Check.{step_sound, Way, through, refused, way}
use Rattle.demand3.proofs.Steps.{act_sound}
use Rattle.idle_time.specs.IdleTime.{ticks, some_one, timer, Unmoved, IdleTime, E5}
use Rattle.idle_time.proofs.Cases.{cases_hold}

larger : (a b : Bool) → bit (a || b) ≡ max (bit a) (bit b)
larger true true = refl
larger true false = refl
larger false true = refl
larger false false = refl

module _ (c : Chip) where
  -- ---- tick events, one after the other

  run_ticks : T (fits c) → {m : Model} → Sound c m → (n : ℕ) → run_of c m (ticks n) ≡ ticked n m
  unfolding ticked
  run_ticks f h zero = refl
  run_ticks f {m = m} h (suc n) = ap (λ (a : Answer). run_of c a.next (ticks n)) (step_sound f h Tick) ∙ run_ticks f {m = (act_of c m Tick).next} (act_sound h Tick) n

  some_ticks : T (fits c) → {m : Model} → Sound c m → (n : ℕ) → some_one (answers_of c m (ticks n)) ≡ some_fall n m
  unfolding some_fall
  some_ticks f h zero = refl
  some_ticks f {m = m} h (suc n) =
      ap (λ (a : Answer). eqb a.value 1 || some_one (answers_of c a.next (ticks n))) (step_sound f h Tick)
      ∙ ap (λ (b : Bool). eqb (act_of c m Tick).value 1 || b) (some_ticks f {m = (act_of c m Tick).next} (act_sound h Tick) n)

  accepted : T (fits c) → (m : Model) → Sound c m → (n : ℕ) → step_of c m (Skip n) ≡ done (bit (some_one (answers_of c m (ticks n)))) (run_of c m (ticks n))
  unfolding skip_call
  accepted f m h n = step_sound f h (Skip n) ∙ sym (λ i. done (bit (some_ticks f h n i)) (run_ticks f h n i))

  -- ---- a state on which every event is refused

  still : {k : ℕ} {m : Model} → step_of c m Tick ≡ refuse k m → (n : ℕ) → run_of c m (ticks n) ≡ m
  still q zero = refl
  still q (suc n) = ap (λ (a : Answer). run_of c a.next (ticks n)) q ∙ still q n

  silent : {k : ℕ} {m : Model} → step_of c m Tick ≡ refuse k m → (n : ℕ) → some_one (answers_of c m (ticks n)) ≡ false
  silent q zero = refl
  silent q (suc n) = ap (λ (a : Answer). eqb a.value 1 || some_one (answers_of c a.next (ticks n))) q ∙ silent q n

  leaves : (m : Model) (n : ℕ) → (step_of c m (Skip n)).next ≡ run_of c m (ticks n)
  leaves m n = go (way c m)
    where
      go : Way c m → (step_of c m (Skip n)).next ≡ run_of c m (ticks n)
      go (through f h) = ap (λ (a : Answer). a.next) (accepted f m h n)
      go (refused k q) = ap (λ (a : Answer). a.next) (q (Skip n)) ∙ sym (still (q Tick) n)

  answers : (m : Model) (n : ℕ) → (step_of c m (Skip n)).value ≡ bit (some_one (answers_of c m (ticks n)))
  answers m n = go (way c m)
    where
      go : Way c m → (step_of c m (Skip n)).value ≡ bit (some_one (answers_of c m (ticks n)))
      go (through f h) = ap (λ (a : Answer). a.value) (accepted f m h n)
      go (refused k q) = ap (λ (a : Answer). a.value) (q (Skip n)) ∙ sym (ap bit (silent (q Tick) n))

  -- ---- calls

  calls_answered : {m t : Model} {es : List Event} {rs : List Answer} → Calls c m es rs t → answers_of c m es ≡ rs
  calls_answered stop = refl
  calls_answered (call {a = a} {es = es} q more) = ap (λ (x : Answer). x ∷ answers_of c x.next es) (sym q) ∙ ap (λ (rs : List Answer). a ∷ rs) (calls_answered more)

  calls_left : {m t : Model} {es : List Event} {rs : List Answer} → Calls c m es rs t → run_of c m es ≡ t
  calls_left stop = refl
  calls_left (call {es = es} q more) = ap (λ (x : Answer). run_of c x.next es) (sym q) ∙ calls_left more

  -- ---- one skip after another

  run_sum : (a b : ℕ) (m : Model) → run_of c (run_of c m (ticks a)) (ticks b) ≡ run_of c m (ticks (a + b))
  run_sum zero b m = rw zero-add
  run_sum (suc a) b m = let e : suc a + b ≡ suc (a + b) = omega arith in rw e (run_sum a b (step_of c m Tick).next)

  sums : (m : Model) (a b : ℕ) → (step_of c (step_of c m (Skip a)).next (Skip b)).next ≡ (step_of c m (Skip (a + b))).next
  sums m a b = leaves (step_of c m (Skip a)).next b ∙ ap (λ (t : Model). run_of c t (ticks b)) (leaves m a) ∙ run_sum a b m ∙ sym (leaves m (a + b))

  some_sum : (a b : ℕ) (m : Model) → some_one (answers_of c m (ticks (a + b))) ≡ (some_one (answers_of c m (ticks a)) || some_one (answers_of c (run_of c m (ticks a)) (ticks b)))
  some_sum zero b m = rw zero-add
  some_sum (suc a) b m =
      let e : suc a + b ≡ suc (a + b) = omega arith in
      let t = step_of c m Tick in
      rw (e, some_sum a b t.next)
      (sym (or_assoc (eqb t.value 1) (some_one (answers_of c t.next (ticks a))) (some_one (answers_of c (run_of c t.next (ticks a)) (ticks b)))))

  either : (m : Model) (a b : ℕ) → (step_of c m (Skip (a + b))).value ≡ max (step_of c m (Skip a)).value (step_of c (step_of c m (Skip a)).next (Skip b)).value
  either m a b =
      answers m (a + b)
      ∙ ap bit (some_sum a b m)
      ∙ larger (some_one (answers_of c m (ticks a))) (some_one (answers_of c (run_of c m (ticks a)) (ticks b)))
      ∙ sym (ap (max (step_of c m (Skip a)).value) (ap (λ (t : Model). (step_of c t (Skip b)).value) (leaves m a) ∙ answers (run_of c m (ticks a)) b) ∙ ap (λ (n : ℕ). max n (bit (some_one (answers_of c (run_of c m (ticks a)) (ticks b))))) (answers m a))

  -- ---- what so many ticks of the timer leave

  timed : T (fits c) → {m : Model} → Sound c m → (n : ℕ) (t : Ticked) → skip_of n (timer m) ≡ t → step_of c m (Skip n) ≡ done (bit t.fell) (ticked_model t m)
  timed f {m} h n t e = step_sound f h (Skip n) ∙ skip_timer m n ∙ ap (λ (x : Ticked). done (bit x.fell) (ticked_model x m)) e

  -- a timer that they do not move
  resting : (m : Model) (n : ℕ) → skip_of n (timer m) ≡ steady (timer m) → Unmoved m (step_of c m (Skip n))
  resting m n e = go (way c m)
    where
      go : Way c m → Unmoved m (step_of c m (Skip n))
      go (through f h) = subst (Unmoved m) (sym (timed f h n (steady (timer m)) e)) (record { value = refl; next = refl })
      go (refused k q) = subst (Unmoved m) (sym (q (Skip n))) (record { value = refl; next = refl })

  none : (m : Model) → Unmoved m (step_of c m (Skip 0))
  none m = record { value = answers m 0; next = leaves m 0 }

  stops : T (fits c) → (m : Model) → Sound c m → T (enabled (timer m)) → (timer m).reload ≡ 0 → (n : ℕ) → (timer m).current ≤ n → (timer (step_of c m (Skip n)).next).current ≡ 0
  unfolding skipped
  stops f m h on p n l =
      ap (λ (a : Answer). (timer a.next).current) (timed f h n (skipped n (timer m)) (skip_skipped n (timer m)))
      ∙ simp (true_is (enabled (timer m)) on, le-ltb n (timer m).current l, p, from_zero_still)

  stopped : (m : Model) → (timer m).reload ≡ 0 → (timer m).current ≡ 0 → (n : ℕ) → Unmoved m (step_of c m (Skip n))
  stopped m p q n = resting m n (skip_stopped n (timer m) p q)

  off : (m : Model) → enabled (timer m) ≡ false → (n : ℕ) → Unmoved m (step_of c m (Skip n))
  unfolding skipped
  off m p n = resting m n (skip_skipped n (timer m) ∙ simp p)

  falls : T (fits c) → (m : Model) → Sound c m → T (enabled (timer m)) → (n : ℕ) → n < (timer m).current → step_of c m (Skip n) ≡ done 0 (with_timer (with_current ((timer m).current - n) (timer m).count (timer m)) m)
  unfolding skipped
  falls f m h on n l =
      timed f h n (steady (with_current ((timer m).current - n) (timer m).count (timer m)))
      (skip_skipped n (timer m) ∙ simp (true_is (enabled (timer m)) on, lt-ltb n (timer m).current l))

pub idle_time : (c : Chip) → IdleTime c
idle_time c =
    record {
      leaves = leaves c;
      answers = answers c;
      calls = λ m t n rs k. (answers c m n ∙ ap (λ (l : List Answer). bit (some_one l)) (calls_answered c k), leaves c m n ∙ calls_left c k);
      accepted = accepted c;
      none = none c;
      sums = sums c;
      either = either c;
      stops = stops c;
      stopped = stopped c;
      off = off c;
      falls = falls c;
    }

pub e5 : E5
e5 = record { every = idle_time; examples = cases_hold }
