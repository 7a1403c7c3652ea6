-- Ticks one after another move the timer as so many ticks of a timer do, and make 15 pending once or not at all; the rest of the model stays.
use Rattle.std.specs.Prelude.{ℕ, zero, suc, ◌≡◌, refl, Bool, true, false, cond, ◌||◌}
use Rattle.std.proofs.Common.{ap, ◌∙◌, set-set}
use Rattle.bits.specs.Words.{bit}
use Rattle.bits.specs.WordLaws.{flag_of_bit}
use Rattle.systick.specs.declared.Timer.{Timer}
use Rattle.systick.specs.Timer.{tick_of}
use Rattle.systick.specs.Skip.{skip_of}
use Rattle.rules.specs.Model.{Model, done, with_pending, with_timer}
use Rattle.rules.specs.Events.{pend, ticked_model, tick_call, ticked, some_fall, skip_call}

-- made pending by the first ticks or by those after them, with the timer that the last leave
pends_then : (p q : Bool) (x y : Timer) (m : Model) → with_timer y (cond q (pend 15 (with_timer x (cond p (pend 15 m) m))) (with_timer x (cond p (pend 15 m) m))) ≡ with_timer y (cond (p || q) (pend 15 m) m)
pends_then true true x y m = ap (λ l. with_timer y (with_pending l m)) (set-set m.pending 15 true true)
pends_then true false x y m = refl
pends_then false true x y m = refl
pends_then false false x y m = refl

ticked_timer : (n : ℕ) (m : Model) → ticked n m ≡ ticked_model (skip_of n m.core.timer) m
unfolding ticked tick_call skip_of
ticked_timer zero m = refl
ticked_timer (suc n) m =
    let t = tick_of m.core.timer in
    let s = skip_of n t.timer in
    ticked_timer n (ticked_model t m) ∙ pends_then t.pends s.pends t.timer s.timer m

fall_timer : (n : ℕ) (m : Model) → some_fall n m ≡ (skip_of n m.core.timer).fell
unfolding some_fall tick_call skip_of
fall_timer zero m = refl
fall_timer (suc n) m =
    let t = tick_of m.core.timer in
    rw (flag_of_bit t.fell, fall_timer n (ticked_model t m))

pub skip_timer : (m : Model) (n : ℕ) → skip_call m n ≡ done (bit (skip_of n m.core.timer).fell) (ticked_model (skip_of n m.core.timer) m)
unfolding skip_call
skip_timer m n = rw (fall_timer n m, ticked_timer n m)
