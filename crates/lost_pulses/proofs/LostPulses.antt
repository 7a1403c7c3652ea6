-- Each event moves the stored number as the history does: a level event by its own rise, any other not at all.
use Prim.Native.Nat.{ℕ, zero, suc, ◌+◌, ◌≤◌, ◌<◌, min}
use mathlib.Core.Path.{◌≡◌, refl, sym, ap, subst, ◌∙◌}
use mathlib.Core.Logic.{◌≢◌}
use mathlib.Core.List.{List, [], ◌∷◌}
use mathlib.Core.Bool.{Bool, true, false, not, cond, ◌&&◌, ◌||◌}
use native.Mathlib.Omega.{arith}
use lib.ListN.{length, get_or, set}
use lib.Seq.{get_or-set_same, get_or-set_other}
use lib.Dec.{T, ltb, leb, eqb}
use borrow.Author.Tests.{eq-eqb, eqb-true, eqb-false, lt-leb, le-leb}
use Rattle.bits.specs.Words.{bit}
use Rattle.bools.specs.Tests.{and_true, and_false_of, by_cases}
use Rattle.flag_words.specs.Flags.{on}
use Rattle.script.specs.Event.{kind_of}
use Rattle.script.specs.declared.Event.{Event}
use Rattle.script.specs.declared.Event.TheVariants as event
use Rattle.script.specs.declared.Event.TheVariants.{Line, Lost}
use Rattle.rules.specs.declared.Chip.{Chip}
use Rattle.rules.specs.Chip.{fits}
use Rattle.rules.specs.Model.{Model, Answer, refuse, done, fresh, with_lost}
use Rattle.rules.specs.Sound.{is_sized, is_sound, Counts, Sound}
use Rattle.rules.proofs.Laws.{counts_held}
use Rattle.rules.specs.Events.{levelled, loses_rise, one_more, counted, line_call, lost_call}
use Rattle.rules.specs.Step.{act_of, guarded, admitted, step_of, answers_of, run_of}
use Rattle.demand3.specs.Demand3.{Calls, stop, call}
use Rattle.demand3.proofs.Parts.{get_d_fresh}
use Rattle.demand3.proofs.Check.{step_sound}
use Rattle.demand3.proofs.Steps.{step_keeps, sound_fresh}
use Rattle.demand3.proofs.Reached.{calls_sound}
use Rattle.lost_pulses.specs.History.{lost_rise, rises_lost, history}
use Rattle.lost_pulses.specs.LostPulses.{but_counts, LostPulses, E1}
use Rattle.lost_pulses.proofs.Cases.{cases_hold}
use Rattle.lost_pulses.proofs.Frame.{same_levels, levelled_frame, same_frame}

-- ---- level events, event 12, and all others

data Sort (e : Event) : Type 0 where
  is_level : (line high : ℕ) → e ≡ Line line high → Sort e
  is_count : (line : ℕ) → e ≡ Lost line → Sort e
  is_other : kind_of e ≢ 3 → kind_of e ≢ 12 → Sort e

sort : (e : Event) → Sort e
unfolding kind_of
sort (event.Read w a) = is_other (λ q. omega arith) (λ q. omega arith)
sort (event.Write w a v) = is_other (λ q. omega arith) (λ q. omega arith)
sort (event.Line line high) = is_level line high refl
sort event.Nmi = is_other (λ q. omega arith) (λ q. omega arith)
sort event.Tick = is_other (λ q. omega arith) (λ q. omega arith)
sort (event.Fault b a) = is_other (λ q. omega arith) (λ q. omega arith)
sort event.Svc = is_other (λ q. omega arith) (λ q. omega arith)
sort (event.Special which v) = is_other (λ q. omega arith) (λ q. omega arith)
sort event.Entry = is_other (λ q. omega arith) (λ q. omega arith)
sort (event.Return v) = is_other (λ q. omega arith) (λ q. omega arith)
sort (event.Access kind w a) = is_other (λ q. omega arith) (λ q. omega arith)
sort (event.Lost line) = is_count line refl
sort (event.Skip n) = is_other (λ q. omega arith) (λ q. omega arith)

-- ---- tests

-- low and high at once
flat : (a p : Bool) → ((not a && a) && p) ≡ false
flat true p = refl
flat false p = refl

-- nothing more, and no more than 65,535 before
none_more : (n : ℕ) → n ≤ 65535 → n ≡ min (n + 0) 65535
none_more n h = omega arith

-- ---- levels

level_after : (n : ℕ) (high : Bool) (m : Model) → (levelled n high m).level ≡ set m.level n high
unfolding levelled
level_after n true m = by_cases (λ (t : Model). t.level ≡ set m.level n true) (not (on m.level n)) (λ _. refl) (λ _. refl)
level_after n false m = refl

low_again : (l : List Bool) (n : ℕ) → on (set l n false) n ≡ false
low_again [] n = refl
low_again (x ∷ xs) zero = refl
low_again (x ∷ xs) (suc n) = low_again xs n

-- no rise where the line's level is as it was, or low
no_rise : (line : ℕ) (m t : Model) → on t.level (16 + line) ≡ on m.level (16 + line) → lost_rise line m t ≡ false
unfolding lost_rise
no_rise line m t e = rw e (flat (on m.level (16 + line)) (on m.pending (16 + line)))

low_rise : (line : ℕ) (m t : Model) → on t.level (16 + line) ≡ false → lost_rise line m t ≡ false
unfolding lost_rise
low_rise line m t e = rw (e, and_false_of (not (on m.level (16 + line))) false refl)

high_rise : (line : ℕ) (m t : Model) → on t.level (16 + line) ≡ true → lost_rise line m t ≡ (not (on m.level (16 + line)) && on m.pending (16 + line))
unfolding lost_rise
high_rise line m t e = rw (e, and_true (not (on m.level (16 + line))))

module _ (c : Chip) where
  -- a step is what the event does, or a refusal that leaves the model as it was
  stepped : (P : Answer → Type 0) (m : Model) (e : Event) → P (act_of c m e) → P (refuse 16 m) → P (refuse 17 m) → P (step_of c m e)
  unfolding admitted guarded
  stepped P m e a u v = by_cases P (fits c) (λ _. by_cases P (is_sound c m) (λ _. a) (λ _. u)) (λ _. v)

  step_levels : (m : Model) (e : Event) → kind_of e ≢ 3 → (step_of c m e).next.level ≡ m.level
  step_levels m e n = stepped (λ (a : Answer). a.next.level ≡ m.level) m e (same_levels c m e n) refl refl

  act_kept : (m : Model) (e : Event) → kind_of e ≢ 3 → (act_of c m e).next.lost ≡ m.lost
  unfolding lost_call kind_of
  act_kept m e n = go (sort e)
    where
      go : Sort e → (act_of c m e).next.lost ≡ m.lost
      go (is_level line high q) = absurd (n (ap kind_of q))
      go (is_count line q) =
          ap (λ (x : Event). (act_of c m x).next.lost) q ∙ by_cases (λ (a : Answer). a.next.lost ≡ m.lost) (leb c.lines line) (λ _. refl) (λ _. refl)
      go (is_other n3 n12) = ap (λ (a : Answer). a.next.lost) (same_frame c m m.lost e n3 n12)

  kept : (m : Model) (e : Event) → kind_of e ≢ 3 → (step_of c m e).next.lost ≡ m.lost
  kept m e n = stepped (λ (a : Answer). a.next.lost ≡ m.lost) m e (act_kept m e n) refl refl

  -- ---- what a lost rise is

  -- of a level event of line l that is accepted
  line_rises : (m t : Model) (line l level : ℕ) → t.level ≡ set m.level (16 + l) (eqb level 1) → T (lost_rise line m t) → Line l level ≡ Line line 1
  line_rises m t line l level e r = go (eqb line l) (eqb level 1) refl refl
    where
      go : (a b : Bool) → eqb line l ≡ a → eqb level 1 ≡ b → Line l level ≡ Line line 1
      go true true p q = λ i. Line (sym (eqb-true line l p) i) (eqb-true level 1 q i)
      go true false p q =
          let z : on t.level (16 + line) ≡ false = ap (λ (x : List Bool). on x (16 + line)) e ∙ rw (q, eqb-true line l p) (low_again m.level (16 + l)) in
          absurd (subst T (low_rise line m t z) r)
      go false b p q =
          let n = eqb-false line l p in
          let z : on t.level (16 + line) ≡ on m.level (16 + line) = ap (λ (x : List Bool). on x (16 + line)) e ∙ get_or-set_other m.level (16 + l) (16 + line) (eqb level 1) false (λ x. n (omega arith)) in
          absurd (subst T (no_rise line m t z) r)

  abbrev Rises : Model → ℕ → Event → Answer → Type 0
  Rises m line e a = T (lost_rise line m a.next) → (e ≡ Line line 1) × (a.refusal ≡ 0)

  still : (m : Model) (line : ℕ) (e : Event) (a : Answer) → a.next.level ≡ m.level → Rises m line e a
  still m line e a q r = absurd (subst T (no_rise line m a.next (ap (λ (x : List Bool). on x (16 + line)) q)) r)

  rises : (m : Model) (e : Event) (line : ℕ) → Rises m line e (step_of c m e)
  unfolding line_call kind_of
  rises m e line =
      stepped (Rises m line e) m e (go (sort e)) (still m line e (refuse 16 m) refl) (still m line e (refuse 17 m) refl)
    where
      accepted : (l high : ℕ) → Rises m line (Line l high) (done 0 (with_lost (counted l (eqb high 1) m) (levelled (16 + l) (eqb high 1) m)))
      accepted l high r = (line_rises m (with_lost (counted l (eqb high 1) m) (levelled (16 + l) (eqb high 1) m)) line l high (level_after (16 + l) (eqb high 1) m) r, refl)

      go : Sort e → Rises m line e (act_of c m e)
      go (is_level l high q) =
          subst (λ (x : Event). Rises m line x (act_of c m x)) (sym q)
          (by_cases (Rises m line (Line l high)) (leb c.lines l || ltb 1 high)
          (λ _. still m line (Line l high) (refuse 6 m) refl)
          (λ _. accepted l high))
      go (is_count l q) = subst (λ (x : Event). Rises m line x (act_of c m x)) (sym q) (still m line (Lost l) (act_of c m (Lost l)) (same_levels c m (Lost l) (λ z. omega arith)))
      go (is_other n3 n12) = still m line e (act_of c m e) (same_levels c m e n3)

  rise : T (fits c) → (m : Model) → Sound c m → (line : ℕ) → line < c.lines → lost_rise line m (step_of c m (Line line 1)).next ≡ (not (on m.level (16 + line)) && on m.pending (16 + line))
  unfolding line_call
  rise f m h line l =
      let s = h.level.size in
      let t = levelled (16 + line) true m in
      ap (λ (a : Answer). lost_rise line m a.next) (step_sound f h (Line line 1))
      ∙ rw (lt-leb c.lines line l)
      (high_rise line m (with_lost (counted line true m) t) (ap (λ (x : List Bool). on x (16 + line)) (level_after (16 + line) true m) ∙ get_or-set_same m.level (16 + line) true false (omega arith)))

  -- ---- who moves a count

  module _ (m : Model) (h : Sound c m) (line : ℕ) (there : line < c.lines) where
    abbrev Moved : Answer → Type 0
    Moved a = get_or a.next.lost line 0 ≡ min (get_or m.lost line 0 + bit (lost_rise line m a.next)) 65535

    -- no rise, and the count is as it was
    unmoved : (a : Answer) → lost_rise line m a.next ≡ false → get_or a.next.lost line 0 ≡ get_or m.lost line 0 → Moved a
    unmoved a r e = e ∙ rw r (none_more (get_or m.lost line 0) (h.lost.most line))

    resting : (a : Answer) → a.next.level ≡ m.level → a.next.lost ≡ m.lost → Moved a
    resting a q e = unmoved a (no_rise line m a.next (ap (λ (x : List Bool). on x (16 + line)) q)) (ap (λ (x : List ℕ). get_or x line 0) e)

    -- the line itself, to high
    risen : Moved (done 0 (with_lost (counted line true m) (levelled (16 + line) true m)))
    unfolding counted loses_rise one_more
    risen =
        let s = h.level.size in
        rw (high_rise line m (with_lost (counted line true m) (levelled (16 + line) true m)) (ap (λ (x : List Bool). on x (16 + line)) (level_after (16 + line) true m) ∙ get_or-set_same m.level (16 + line) true false (omega arith)))
        (go (not (on m.level (16 + line)) && on m.pending (16 + line)))
      where
        go : (b : Bool) → get_or (cond b (set m.lost line (min (suc (get_or m.lost line 0)) 65535)) m.lost) line 0 ≡ min (get_or m.lost line 0 + bit b) 65535
        go true = let s = h.lost.size in get_or-set_same m.lost line (min (suc (get_or m.lost line 0)) 65535) 0 (omega arith) ∙ omega arith
        go false = none_more (get_or m.lost line 0) (h.lost.most line)

    -- a level event of any line that is accepted
    lined : (l : ℕ) (high : Bool) → Moved (done 0 (with_lost (counted l high m) (levelled (16 + l) high m)))
    unfolding counted loses_rise one_more
    lined l high = go (eqb line l) refl high
      where
        after : (k : ℕ) (b : Bool) → on (levelled (16 + k) b m).level (16 + line) ≡ on (set m.level (16 + k) b) (16 + line)
        after k b = ap (λ (x : List Bool). on x (16 + line)) (level_after (16 + k) b m)

        left : (k : ℕ) → line ≢ k → (b : Bool) → get_or (cond b (set m.lost k (min (suc (get_or m.lost k 0)) 65535)) m.lost) line 0 ≡ get_or m.lost line 0
        left k n true = get_or-set_other m.lost k line (min (suc (get_or m.lost k 0)) 65535) 0 n
        left k n false = refl

        same_line : (b : Bool) → Moved (done 0 (with_lost (counted line b m) (levelled (16 + line) b m)))
        same_line true = risen
        same_line false = unmoved (done 0 (with_lost (counted line false m) (levelled (16 + line) false m))) (low_rise line m (with_lost (counted line false m) (levelled (16 + line) false m)) (after line false ∙ low_again m.level (16 + line))) refl

        go : (a : Bool) → eqb line l ≡ a → (b : Bool) → Moved (done 0 (with_lost (counted l b m) (levelled (16 + l) b m)))
        go true e b = subst (λ (k : ℕ). Moved (done 0 (with_lost (counted k b m) (levelled (16 + k) b m)))) (eqb-true line l e) (same_line b)
        go false e b =
            let n = eqb-false line l e in
            unmoved (done 0 (with_lost (counted l b m) (levelled (16 + l) b m)))
            (no_rise line m (with_lost (counted l b m) (levelled (16 + l) b m)) (after l b ∙ get_or-set_other m.level (16 + l) (16 + line) b false (λ x. n (omega arith))))
            (left l n ((b && not (on m.level (16 + l))) && on m.pending (16 + l)))

    moved : (e : Event) → Moved (step_of c m e)
    unfolding line_call kind_of
    moved e = stepped Moved m e (go (sort e)) (resting (refuse 16 m) refl refl) (resting (refuse 17 m) refl refl)
      where
        go : Sort e → Moved (act_of c m e)
        go (is_level l high q) =
            subst (λ (x : Event). Moved (act_of c m x)) (sym q)
            (by_cases Moved (leb c.lines l || ltb 1 high) (λ _. resting (refuse 6 m) refl refl) (λ _. lined l (eqb high 1)))
        go (is_count l q) =
            subst (λ (x : Event). Moved (act_of c m x)) (sym q)
            (resting (act_of c m (Lost l)) (same_levels c m (Lost l) (λ z. omega arith)) (act_kept m (Lost l) (λ z. omega arith)))
        go (is_other n3 n12) = resting (act_of c m e) (same_levels c m e n3) (act_kept m e n3)

  -- ---- lists of calls

  calls_moved : (line : ℕ) → line < c.lines → {m t : Model} {es : List Event} {rs : List Answer} → Calls c m es rs t → Sound c m → get_or t.lost line 0 ≡ min (get_or m.lost line 0 + rises_lost line m rs) 65535
  calls_moved line k stop h = none_more _ (h.lost.most line)
  calls_moved line k {m = m} (call {e = e} {a = a} {rs = rs} q more) h =
      let one : get_or a.next.lost line 0 ≡ min (get_or m.lost line 0 + bit (lost_rise line m a.next)) 65535 =
      subst (λ (x : Answer). get_or x.next.lost line 0 ≡ min (get_or m.lost line 0 + bit (lost_rise line m x.next)) 65535) (sym q) (moved m h line k e) in
      let rest = calls_moved line k more (subst (λ (x : Answer). Sound c x.next) (sym q) (step_keeps h e)) in
      rest ∙ omega arith

  calls_of : (m : Model) (es : List Event) → Calls c m es (answers_of c m es) (run_of c m es)
  calls_of m [] = stop
  calls_of m (e ∷ es) = call refl (calls_of (step_of c m e).next es)

  calls : (es : List Event) (rs : List Answer) (t : Model) → Calls c (fresh c) es rs t → (line : ℕ) → line < c.lines → get_or t.lost line 0 ≡ min (rises_lost line (fresh c) rs) 65535
  unfolding fresh
  calls es rs t k line l =
      calls_moved line l k (sound_fresh c) ∙ ap (λ (n : ℕ). min (n + rises_lost line (fresh c) rs) 65535) zeros ∙ omega arith
    where
      zeros : get_or (fresh c).lost line 0 ≡ 0
      zeros = get_d_fresh c.lines line 0

  stored : (es : List Event) (line : ℕ) → line < c.lines → get_or (run_of c (fresh c) es).lost line 0 ≡ min (history c es line) 65535
  stored es line l = calls es (answers_of c (fresh c) es) (run_of c (fresh c) es) (calls_of (fresh c) es) line l

  -- ---- event 12

  pub calls_answered : T (fits c) → {es : List Event} {rs : List Answer} {t : Model} → Calls c (fresh c) es rs t → (line : ℕ) → line < c.lines → step_of c t (Lost line) ≡ done (min (rises_lost line (fresh c) rs) 65535) t
  unfolding lost_call
  calls_answered f {es} {rs} {t} k line l =
      step_sound f (calls_sound k (sound_fresh c)) (Lost line) ∙ rw (lt-leb c.lines line l) (ap (λ (n : ℕ). done n t) (calls es rs t k line l))

  answered : T (fits c) → (es : List Event) (line : ℕ) → line < c.lines → step_of c (run_of c (fresh c) es) (Lost line) ≡ done (min (history c es line) 65535) (run_of c (fresh c) es)
  answered f es line l = calls_answered f (calls_of (fresh c) es) line l

  refused : T (fits c) → (m : Model) → Sound c m → (line : ℕ) → c.lines ≤ line → step_of c m (Lost line) ≡ refuse 6 m
  unfolding lost_call
  refused f m h line l = step_sound f h (Lost line) ∙ rw (le-leb c.lines line l)

  -- ---- whatever the counts are

  alike : (b : Bool) (p q r s : Answer) → but_counts p ≡ but_counts r → but_counts q ≡ but_counts s → but_counts (cond b p q) ≡ but_counts (cond b r s)
  alike true p q r s e f = e
  alike false p q r s e f = f

  module _ (m : Model) (x : List ℕ) (k : Counts c m.lost) (l : Counts c x) where
    sound_alike : is_sound c (with_lost x m) ≡ is_sound c m
    unfolding is_sound is_sized
    sound_alike =
        simp (
          eq-eqb (length x) c.lines l.size,
          eq-eqb (length m.lost) c.lines k.size,
          counts_held x c.lines l.most,
          counts_held m.lost c.lines k.most,
        )

    line_alike : (line level : ℕ) → but_counts (line_call c (with_lost x m) line level) ≡ but_counts (line_call c m line level)
    unfolding line_call
    line_alike line v =
        alike (leb c.lines line || ltb 1 v) _ _ _ _ refl (ap (λ (t : Model). but_counts (done 0 t)) (levelled_frame c m x (16 + line) (eqb v 1)))

    act_alike : (e : Event) → kind_of e ≢ 12 → but_counts (act_of c (with_lost x m) e) ≡ but_counts (act_of c m e)
    unfolding kind_of
    act_alike e n = go (sort e)
      where
        go : Sort e → but_counts (act_of c (with_lost x m) e) ≡ but_counts (act_of c m e)
        go (is_level line high q) = subst (λ (y : Event). but_counts (act_of c (with_lost x m) y) ≡ but_counts (act_of c m y)) (sym q) (line_alike line high)
        go (is_count line q) = absurd (n (ap kind_of q))
        go (is_other n3 n12) = ap but_counts (same_frame c m x e n3 n12)

    others : (e : Event) → kind_of e ≢ 12 → but_counts (step_of c (with_lost x m) e) ≡ but_counts (step_of c m e)
    unfolding admitted guarded
    others e n = rw sound_alike (alike (fits c) _ _ _ _ (alike (is_sound c m) _ _ _ _ (act_alike e n) refl) refl)

pub lost_pulses : (c : Chip) → LostPulses c
lost_pulses c =
    record {
      rise = rise c;
      rises = rises c;
      stored = stored c;
      calls = calls c;
      answered = answered c;
      refused = refused c;
      moved = λ m h e line l. moved c m h line l e;
      kept = kept c;
      others = λ m x k l e n. others c m x k l e n;
    }

pub e1 : E1
e1 = record { every = lost_pulses; examples = cases_hold }
