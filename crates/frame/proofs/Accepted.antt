-- Refusals 12 and 11 in exactly their cases: a stacking or an unstacking is accepted just where each fact below holds.
use Rattle.std.specs.Prelude.{ℕ, ◌+◌, ◌-◌, ◌%◌, ◌^◌, ◌≡◌, refl, Bool, true, false, cond, List, Result, Ok, Err, ◌&&◌, length, leb, ltb, eqb}
use Rattle.std.proofs.Math.Bool.{and-eq-true_iff}
use Rattle.std.proofs.Common.{ap, arith, leb-true, ltb-true, eqb-true, le-leb, lt-ltb, eq-eqb}
use Rattle.refusals.specs.declared.Refusal.{Refusal}
use Rattle.refusals.specs.declared.Refusal.TheVariants as refusal
use Rattle.frame.specs.declared.Unstacked.{Unstacked}
use Rattle.frame.specs.Answers.{stack_answer, unstack_answer}
use Rattle.frame.specs.Frame.{window_fits, holds_frame, frame_at, stack_fits, refusal_of, checked, stack_refusal, stacked, words_at, restored_sp, unstack_fits, unstack_refusal, gave_back, unstacked}
use Rattle.frame.specs.Accepted.{Fits, Holds, StackAccepted, UnstackAccepted}

pub fits_of : (base len : ℕ) → window_fits base len ≡ true → Fits base len
unfolding window_fits
fits_of base len e =
    let f = (and-eq-true_iff (leb len 65536 && eqb (base % 4) 0) (leb (base + len) (2 ^ 32))).0 e in
    let g = (and-eq-true_iff (leb len 65536) (eqb (base % 4) 0)).0 f.0 in
    record { short = leb-true _ _ g.0; base4 = eqb-true _ _ g.1; ends = leb-true _ _ f.1 }

pub of_fits : (base len : ℕ) → Fits base len → window_fits base len ≡ true
unfolding window_fits
of_fits base len f = simp (le-leb len 65536 f.short, eq-eqb (base % 4) 0 f.base4, le-leb (base + len) (2 ^ 32) f.ends)

pub holds_of : (base len frame : ℕ) → holds_frame base len frame ≡ true → Holds base len frame
unfolding holds_frame
holds_of base len frame e =
    let f = (and-eq-true_iff (leb base frame) (leb (frame + 32) (base + len))).0 e in
    record { from = leb-true _ _ f.0; upto = leb-true _ _ f.1 }

pub of_holds : (base len frame : ℕ) → Holds base len frame → holds_frame base len frame ≡ true
unfolding holds_frame
of_holds base len frame h = simp (le-leb base frame h.from, le-leb (frame + 32) (base + len) h.upto)

-- 0 only where both tests pass
both : (window frame : Bool) → refusal_of window frame ≡ 0 → (window ≡ true) × (frame ≡ true)
unfolding refusal_of
both true true e = (refl, refl)
both true false e = let z : ⊥ = omega arith in absurd z
both false frame e = let z : ⊥ = omega arith in absurd z

-- what the tests answer is what the call answers: its value where they pass, else their refusal
abbrev Answer : {A : Type 0} → Bool → Bool → Result A Refusal → Result A Refusal
Answer window frame x = cond window (cond frame x (Err refusal.Frame)) (Err refusal.Window)

pub passed : {A : Type 0} (window frame : Bool) (x : Result A Refusal) (u : Unit {0}) → Ok u ≡ checked window frame → (refusal_of window frame ≡ 0) × (Answer window frame x ≡ x)
unfolding refusal_of checked
passed true true x u e = (refl, refl)
passed true false x u e = let z : ◌≡◌ {A = ℕ} 0 1 = cc in let y : ⊥ = omega arith in absurd y
passed false frame x u e = let z : ◌≡◌ {A = ℕ} 0 1 = cc in let y : ⊥ = omega arith in absurd y

pub failed : {A : Type 0} (window frame : Bool) (x : Result A Refusal) (r : Refusal) → Err r ≡ checked window frame → (refusal_of window frame ≡ 0 → ⊥) × (Answer window frame x ≡ Err r)
unfolding refusal_of checked
failed true true x r e = let z : ◌≡◌ {A = ℕ} 0 1 = cc in let y : ⊥ = omega arith in absurd y
failed true false x r e = let q : refusal.Frame ≡ r = cc in (λ z. omega arith, ap Err q)
failed false frame x r e = let q : refusal.Window ≡ r = cc in (λ z. omega arith, ap Err q)

-- the refusal that a stacking or an unstacking answers is that of its two tests, 12 before 11, and 0 where it is accepted
stack_said : (window frame : Bool) (x : ℕ) → (stack_answer (Answer window frame (Ok x))).refusal ≡ refusal_of window frame
unfolding refusal_of
stack_said true true x = refl
stack_said true false x = refl
stack_said false frame x = refl

unstack_said : (window frame : Bool) (u : Unstacked) → (unstack_answer (Answer window frame (Ok u))).refusal ≡ refusal_of window frame
unfolding refusal_of
unstack_said true true u = refl
unstack_said true false u = refl
unstack_said false frame u = refl

pub stack_number : (base len sp : ℕ) (align : Bool) → (stack_answer (stacked base len sp align)).refusal ≡ stack_refusal base len sp align
unfolding stacked
stack_number base len sp align = stack_said (window_fits base len) (stack_fits base len sp align) (frame_at align sp)

pub unstack_number : (base : ℕ) (window : List ℕ) (sp : ℕ) (align : Bool) → (unstack_answer (unstacked base window sp align)).refusal ≡ unstack_refusal base (length window) sp
unfolding unstacked
unstack_number base window sp align =
    let w = words_at window (sp - base) in
    unstack_said (window_fits base (length window)) (unstack_fits base (length window) sp) (record { sp = restored_sp align sp w.xpsr; words = w })

pub stack_accepted : (base len sp : ℕ) (align : Bool) → stack_refusal base len sp align ≡ 0 → StackAccepted base len sp align
unfolding stack_fits
stack_accepted base len sp align e =
    let f = both (window_fits base len) (stack_fits base len sp align) e in
    let g = (and-eq-true_iff (eqb (sp % 4) 0 && leb 32 sp) (holds_frame base len (frame_at align sp))).0 f.1 in
    let h = (and-eq-true_iff (eqb (sp % 4) 0) (leb 32 sp)).0 g.0 in
    record {
      window = fits_of base len f.0;
      sp4 = eqb-true _ _ h.0;
      room = leb-true _ _ h.1;
      holds = holds_of base len (frame_at align sp) g.1;
    }

pub unstack_accepted : (base len sp : ℕ) → unstack_refusal base len sp ≡ 0 → UnstackAccepted base len sp
unfolding unstack_fits
unstack_accepted base len sp e =
    let f = both (window_fits base len) (unstack_fits base len sp) e in
    let g = (and-eq-true_iff (eqb (sp % 4) 0 && holds_frame base len sp) (ltb (sp + 32) (2 ^ 32))).0 f.1 in
    let h = (and-eq-true_iff (eqb (sp % 4) 0) (holds_frame base len sp)).0 g.0 in
    record {
      window = fits_of base len f.0;
      sp4 = eqb-true _ _ h.0;
      holds = holds_of base len sp h.1;
      restored = ltb-true _ _ g.1;
    }

pub fits_unstack : (base len sp : ℕ) → UnstackAccepted base len sp → unstack_fits base len sp ≡ true
unfolding unstack_fits
fits_unstack base len sp a =
    simp (eq-eqb (sp % 4) 0 a.sp4, of_holds base len sp a.holds, lt-ltb (sp + 32) (2 ^ 32) a.restored)

pub accepted_unstack : (base len sp : ℕ) → UnstackAccepted base len sp → unstack_refusal base len sp ≡ 0
unfolding refusal_of
accepted_unstack base len sp a = simp (of_fits base len a.window, fits_unstack base len sp a)

-- what the code has tested
pub stack_tested : {base len sp : ℕ} {align window frame : Bool} {u : Unit {0}} → window ≡ window_fits base len → frame ≡ stack_fits base len sp align → Ok u ≡ checked window frame → StackAccepted base len sp align
stack_tested {base} {len} {sp} {align} p q e =
    stack_accepted base len sp align (passed {A = Unit {0}} (window_fits base len) (stack_fits base len sp align) (Ok tt) _ (rw (p, q) at e)).0

pub unstack_tested : {base len sp : ℕ} {window frame : Bool} {u : Unit {0}} → window ≡ window_fits base len → frame ≡ unstack_fits base len sp → Ok u ≡ checked window frame → UnstackAccepted base len sp
unstack_tested {base} {len} {sp} p q e =
    unstack_accepted base len sp (passed {A = Unit {0}} (window_fits base len) (unstack_fits base len sp) (Ok tt) _ (rw (p, q) at e)).0
