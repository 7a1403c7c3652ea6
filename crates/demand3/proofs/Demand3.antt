-- The third demand, for every chip that fits: by induction over the list of calls, from what one call does.
use Prim.Native.Nat.{ℕ, ◌≤◌}
use mathlib.Core.Path.{◌≡◌, refl, sym, ap, subst, ◌∙◌}
use mathlib.Core.List.{List, [], ◌∷◌, Memᴰ}
use mathlib.Core.Bool.{Bool, true, false}
use native.Mathlib.Omega.{arith}
use lib.ListN.{length}
use lib.Dec.{T}
use Rattle.std.specs.Prelude.{Option, Some, None}
use Rattle.priority.specs.Order.{Distinct, Rising}
use Rattle.priority.specs.Laws as laws
use Rattle.priority.proofs.Levels.{rising_few}
use Rattle.script.specs.declared.Event.{Event}
use Rattle.script.specs.declared.Event.TheVariants as event
use Rattle.rules.specs.declared.Chip.{Chip}
use Rattle.rules.specs.Chip.{fits, exception_count}
use Rattle.rules.specs.Model.{Model, Answer, refuse, fresh, stack}
use Rattle.rules.specs.Priorities.{group_number, execution}
use Rattle.rules.specs.Sound.{Sound}
use Rattle.rules.specs.Nesting.{chosen, enter, entry_at}
use Rattle.rules.specs.Step.{step_of, answers_of, run_of}
use Rattle.rules.proofs.PriorityBits.{misfit_first}
use Rattle.bools.specs.Tests.{is_true}
use Rattle.demand3.specs.Demand3.{Calls, stop, call, moved, ledger, Steady, Claim, Eligible, Best, Entering, Demand3}
use Rattle.demand3.proofs.Parts.{nested_fits, bytes_kept}
use Rattle.demand3.proofs.Check.{step_sound}
use Rattle.demand3.proofs.Steps.{Step, act_ok, sound_fresh}

record Along (c : Chip) (m t : Model) (es : List Event) (rs : List Answer) (r : List ℕ) : Type 0 where
  answered : rs ≡ answers_of c m es
  left : t ≡ run_of c m es
  sound : Sound c t
  recorded : ledger r es rs ≡ stack t
  rising : Steady m rs → Rising (group_number m) (stack m) → Rising (group_number t) (stack t)

along : {c : Chip} {m t : Model} {es : List Event} {rs : List Answer} → T (fits c) → Calls c m es rs t → (r : List ℕ) → r ≡ stack m → Sound c m → Along c m t es rs r
along f stop r e h = record { answered = refl; left = refl; sound = h; recorded = e; rising = λ _ x. x }
along {c} {m} {t} f (call {e = x} {a = a} {es = es} {rs = rs} q k) r e h =
    let o : Step c m x a = subst (Step c m x) (sym (q ∙ step_sound f h x)) (act_ok h x) in
    let rest = along f k (moved x a r) (ap (moved x a) e ∙ o.recorded) o.sound in
    record {
      answered = subst (λ y. a ∷ rs ≡ y ∷ answers_of c y.next es) q (ap (λ (l : List Answer). a ∷ l) rest.answered);
      left = subst (λ y. t ≡ run_of c y.next es) q rest.left;
      sound = rest.sound;
      recorded = rest.recorded;
      rising = λ u g. rest.rising u.1 (o.rising u.0 g);
    }

pub calls : (c : Chip) → T (fits c) → (es : List Event) (rs : List Answer) (t : Model) → Calls c (fresh c) es rs t → Claim c es rs t
unfolding fresh
calls c f es rs t k =
    record {
      answered = a.answered;
      left = a.left;
      sound = a.sound;
      recorded = a.recorded;
      active = λ n. (λ u. subst (Memᴰ n) (sym a.recorded) (a.sound.nested.stacked n u), λ i. a.sound.nested.shown n (subst (Memᴰ n) a.recorded i));
      once = subst Distinct (sym a.recorded) a.sound.nested.distinct;
      most = subst (λ l. length l ≤ exception_count c) (sym a.recorded) (nested_fits c t.active (stack t) a.sound.active a.sound.nested);
      rising = up;
      few = λ u. rising_few c.bits t.core.group a.sound.core.group t.priority (bytes_kept c t.priority a.sound.priority) (ledger [] es rs) (up u);
    }
  where
    a : Along c (fresh c) t es rs []
    a = along f k [] refl (sound_fresh c)

    up : Steady (fresh c) rs → Rising (group_number t) (ledger [] es rs)
    up u = subst (Rising (group_number t)) (sym a.recorded) (a.rising u tt)

-- ---- how many are nested on any chip: where it does not fit, nothing is entered

moved_still : (m : Model) (e : Event) (r : List ℕ) → moved e (refuse 17 m) r ≡ r
moved_still m event.Entry r = refl
moved_still m (event.Return v) r = refl
moved_still m (event.Read w x) r = refl
moved_still m (event.Write w x v) r = refl
moved_still m (event.Line n l) r = refl
moved_still m event.Nmi r = refl
moved_still m event.Tick r = refl
moved_still m (event.Fault b x) r = refl
moved_still m event.Svc r = refl
moved_still m (event.Special k v) r = refl
moved_still m (event.Access k w x) r = refl
moved_still m (event.Lost line) r = refl
moved_still m (event.Skip n) r = refl

ledger_still : {c : Chip} {m t : Model} {es : List Event} {rs : List Answer} → fits c ≡ false → Calls c m es rs t → (r : List ℕ) → ledger r es rs ≡ r
ledger_still f stop r = refl
ledger_still {c} {m} f (call {e = e} {a = a} q k) r = ledger_still f k (moved e a r) ∙ ap (λ (x : Answer). moved e x r) (q ∙ misfit_first c m e f) ∙ moved_still m e r

pub most_nested : (c : Chip) (es : List Event) (rs : List Answer) (t : Model) → Calls c (fresh c) es rs t → length (ledger [] es rs) ≤ exception_count c
most_nested c es rs t k = go (fits c) refl
  where
    go : (b : Bool) → fits c ≡ b → length (ledger [] es rs) ≤ exception_count c
    go true f = (calls c (is_true f) es rs t k).most
    go false f = rw (ledger_still f k []) (omega arith)

-- ---- entry, in every sound model of a chip that fits

module _ (m : Model) where
  abbrev Able : ℕ → Type 0
  Able n = laws.Eligible m.core.group m.priority m.pending m.enabled (execution m) n

  able : (n : ℕ) → Eligible m n → Able n
  able n e = record { pends = e.pending; enables = e.enabled; below = e.below }

  eligible : (n : ℕ) → Able n → Eligible m n
  eligible n a = record { pending = a.pends; enabled = a.enables; below = a.below }

  enter_entering : (o : Option ℕ) → chosen m ≡ o → Entering m (enter m o)
  enter_entering None e =
      record { refused = (λ _ n x. (laws.pending_nothing m.core.group m.priority m.pending m.enabled (execution m)).0 e n (able n x), λ _. refl); taken = λ x. absurd (x refl) }
  enter_entering (Some n) e =
      record { refused = (λ q. absurd (apart q), λ f. absurd (f n best.eligible)); taken = λ _. (n, best, refl) }
    where
      best : Best m n
      best =
          let b = laws.pending_best m.core.group m.priority m.pending m.enabled (execution m) n e in
          record { eligible = eligible n b.able; first = λ k x ne. b.first k (able k x) ne }

      apart : enter m (Some n) ≡ refuse 8 m → ⊥
      apart q = let z : ◌≡◌ {A = ℕ} 0 8 = ap (λ (a : Answer). a.refusal) q in omega arith

pub entries : (c : Chip) → T (fits c) → (m : Model) → Sound c m → Entering m (step_of c m event.Entry)
unfolding entry_at
entries c f m h = subst (Entering m) (sym (step_sound f h event.Entry)) (enter_entering m (chosen m) refl)

pub demand3 : (c : Chip) → T (fits c) → Demand3 c
demand3 c f = record { calls = calls c f; entries = entries c f }
