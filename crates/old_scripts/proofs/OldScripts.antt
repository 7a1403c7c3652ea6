-- Event by event: both models stay sound, so each call acts; alike, they answer the same and are left alike. So the lines are the same.
use Prim.Native.Nat.{ℕ, suc}
use mathlib.Core.Path.{◌≡◌, refl, sym, ap, ap₂, subst}
use mathlib.Core.List.{List, [], ◌∷◌, ◌++◌}
use native.Mathlib.Omega.{arith}
use mathlib.Core.Bool.{◌&&◌}
use lib.Dec.{T, leb, ltb→lt}
use Rattle.bools.specs.Tests.{true_is, both}
use Rattle.script.specs.declared.Event.{Event}
use Rattle.script.specs.declared.Event.TheVariants as event
use Rattle.script.specs.Event.{access_number}
use Rattle.script.specs.Script.{script_of}
use Rattle.rules.specs.declared.Chip.{Chip}
use Rattle.rules.specs.Chip.{flag_count, exception_count, chip55, chip240, fits}
use Rattle.rules.specs.Model.{Model, Answer, fresh, top}
use Rattle.rules.specs.Sound.{Sound}
use Rattle.rules.specs.Step.{act_of, step_of, answers_of}
use Rattle.demand3.proofs.Check.{step_sound}
use Rattle.demand3.proofs.Steps.{step_keeps, sound_fresh}
use Rattle.text.specs.Text.{line_of, lines_of, end_text, script_text, admitted_text, text_of}
use Rattle.old_scripts.specs.Alike.{Alike, Agree, Agreeing}
use Rattle.old_scripts.specs.OldScripts.{avoids, names_own, is_old, are_old, Grown, OldScripts}
use Rattle.old_scripts.proofs.Lists.{same_fresh}
use Rattle.old_scripts.proofs.Calls.{Meets, execution_same, stack_same, line_meets, lost_meets, nmi_meets, tick_meets, skip_meets, fault_meets, svc_meets, special_meets, entry_meets, return_meets, access_meets}
use Rattle.old_scripts.proofs.Registers.{read_meets, write_meets}

fresh_alike : {c d : Chip} → Grown c d → Alike (fresh c) (fresh d)
unfolding fresh
fresh_alike {c} {d} grown =
    let f = flag_count c in
    let g = flag_count d in
    record {
      pending = same_fresh _ f g;
      active = same_fresh _ f g;
      enabled = same_fresh _ f g;
      level = same_fresh _ f g;
      priority = same_fresh 0 f g;
      nest = same_fresh 0 (exception_count c) (exception_count d);
      lost = same_fresh 0 c.lines d.lines;
      core = rw (grown.profiles.0, grown.profiles.1);
    }

module _ {c d : Chip} (g : Grown c d) where
  pub fits_too : T (fits d)
  fits_too = rw g.profiles.1 (subst (λ (w : ℕ). T (leb 3 w && leb w 8)) g.bits (rw g.profiles.0 at g.fit))

  act_meets : {m t : Model} → Sound c m → Sound d t → Alike m t → (e : Event) → T (is_old c d e) → Meets (act_of c m e) (act_of d t e)
  unfolding is_old
  act_meets h k a (event.Read w x) o = read_meets g h k a w x o
  act_meets h k a (event.Write w x v) o = let p = both (avoids c d w x) (names_own c x v) o in write_meets g h k a w x p.0 v p.1
  act_meets h k a (event.Line line level) o = line_meets g h k a line level (ltb→lt line c.lines o)
  act_meets h k a event.Nmi o = nmi_meets g h k a
  act_meets h k a event.Tick o = tick_meets g h k a
  act_meets h k a (event.Fault b x) o = fault_meets g h k a b x
  act_meets h k a event.Svc o = svc_meets g h k a
  act_meets h k a (event.Special which v) o = special_meets g h k a which v
  act_meets h k a event.Entry o = entry_meets g h k a
  act_meets h k a (event.Return v) o = return_meets g h k a v
  act_meets h k a (event.Access kind w x) o = access_meets g h k a (access_number kind) w x
  act_meets h k a (event.Lost line) o = lost_meets g h k a line (ltb→lt line c.lines o)
  act_meets h k a (event.Skip n) o = skip_meets g h k a n

  step_meets : {m t : Model} → Sound c m → Sound d t → Alike m t → (e : Event) → T (is_old c d e) → Meets (step_of c m e) (step_of d t e)
  step_meets {m} {t} h k a e o =
      subst (λ x. Meets x (step_of d t e)) (sym (step_sound g.fit h e)) (subst (Meets (act_of c m e)) (sym (step_sound fits_too k e)) (act_meets h k a e o))

  step_agrees : {m t : Model} → Sound c m → Sound d t → Alike m t → (e : Event) → T (is_old c d e) → Agree (step_of c m e) (step_of d t e)
  step_agrees h k a e o =
      let s = step_meets h k a e o in
      let p = step_keeps h e in
      let q = step_keeps k e in
      record {
        refusal = s.refusal;
        value = s.value;
        vector = s.vector;
        link = s.link;
        topmost = ap top (stack_same g p q s.next);
        priority = execution_same g p q s.next;
        next = s.next;
      }

  answers_agree : {m t : Model} → Sound c m → Sound d t → Alike m t → (es : List Event) → T (are_old c d es) → Agreeing (answers_of c m es) (answers_of d t es)
  answers_agree h k a [] o = tt
  answers_agree {m = m} {t = t} h k a (e ∷ es) o =
      let p = both (is_old c d e) (are_old c d es) o in
      let s = step_agrees h k a e p.0 in
      (s, answers_agree {m = (step_of c m e).next} {t = (step_of d t e).next} (step_keeps h e) (step_keeps k e) s.next es p.1)

-- ---- the text

line_same : (n : ℕ) (a b : Answer) → Agree a b → line_of n a ≡ line_of n b
unfolding line_of
line_same n a b s = rw (s.refusal, s.value, s.topmost, s.priority)

lines_same : (n : ℕ) (xs ys : List Answer) → Agreeing xs ys → lines_of n xs ≡ lines_of n ys
unfolding lines_of
lines_same n [] [] s = refl
lines_same n [] (b ∷ ys) s = absurd s
lines_same n (a ∷ xs) [] s = absurd s
lines_same n (a ∷ xs) (b ∷ ys) s = ap₂ (λ (x y : List ℕ). x ++ y) (line_same n a b s.0) (lines_same (suc n) xs ys s.1)

-- ---- the claim

pub old_scripts : {c d : Chip} → Grown c d → OldScripts c d
unfolding text_of admitted_text script_text
old_scripts {c} {d} g =
    record {
      answers = agree;
      text = λ bytes o.
          rw (true_is (fits c) g.fit, true_is (fits d) (fits_too g))
          (ap (λ (x : List ℕ). x ++ end_text (script_of bytes).end) (lines_same 1 _ _ (agree (script_of bytes).events o)));
    }
  where
    agree : (es : List Event) → T (are_old c d es) → Agreeing (answers_of c (fresh c) es) (answers_of d (fresh d) es)
    agree es o = answers_agree g (sound_fresh c) (sound_fresh d) (fresh_alike g) es o

-- "An old script for 55 lines gives the same output lines on the new chip"
pub old_scripts_55_240 : OldScripts chip55 chip240
old_scripts_55_240 = old_scripts (record { lines = omega arith; bits = refl; guard = refl; profiles = (refl, refl); fit = tt })
