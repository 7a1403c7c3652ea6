-- One flag that stands where it may not decides; from 16 on all are lines, where a flag may stand.
use Prim.Native.Nat.{ℕ, ◌<◌}
use mathlib.Core.Path.{◌≡◌, refl, sym, ap, ◌∙◌}
use mathlib.Core.List.{List}
use mathlib.Core.Bool.{Bool, true, false, not}
use native.Mathlib.Numerals.{add-one}
use native.Mathlib.Omega.{arith}
use lib.Dec.{T, ltb, ltb→lt, nltb→le}
use Rattle.bools.specs.Tests.{is_true, true_is, fails, or_right}
use Rattle.bools.specs.Every.{every, every_of, of_every, every_false}
use Rattle.flag_words.specs.Flags.{on}
use Rattle.rules.specs.declared.Chip.{Chip}
use Rattle.rules.specs.declared.Place.{Place}
use Rattle.rules.specs.Chip.{flag_count, stands}
use Rattle.rules.proofs.Laws.{is_line_lem, line_stands}
use Rattle.rules.specs.Sound.{flag_sound}
use Rattle.soundness.proofs.flags.flags_sound.Goals as goal

all-stand : (c : Chip) (place : Place) (l : List Bool) → every (flag_sound c place l) 16 ≡ true → every (flag_sound c place l) (flag_count c) ≡ true
unfolding flag_sound
all-stand c place l e = true_is _ (every_of _ (flag_count c) (λ n h. go n h (ltb n 16) refl))
  where
    go : (n : ℕ) → n < flag_count c → (b : Bool) → ltb n 16 ≡ b → T (flag_sound c place l n)
    go n h true below = of_every (flag_sound c place l) 16 n (ltb→lt n 16 (is_true below)) (is_true e)
    go n h false above = or_right (not (on l n)) (stands c place n) (line_stands c n place (is_line_lem c n (nltb→le n 16 (fails above)) h))

pub loop-n-init : goal.loop-n-init
unfolding every
loop-n-init c = refl

pub returns-then-not-flag_fits : goal.returns-then-not-flag_fits
unfolding flag_sound
returns-then-not-flag_fits c = sym (every_false _ c.loop-n.n _ (omega arith) (sym c.flag_fits.ensures ∙ c.if-not-flag_fits.true))

pub loop-n-preserved : goal.loop-n-preserved
unfolding every flag_sound
loop-n-preserved c = simp (add-one, sym c.flag_fits.ensures ∙ c.if-not-flag_fits.false, c.loop-n.invariant)

pub returns : goal.returns
returns c = sym (all-stand _ _ _ (ap (every _) (omega arith) ∙ c.loop-n.invariant))
