-- The places below the depth are in use, and pass; after i of the nest the answer is that of these i. A nest that is shorter than the
-- depth has only places in use.
use Prim.Native.Nat.{ℕ, ◌+◌, ◌-◌, ◌≤◌, ◌<◌}
use mathlib.Core.Path.{◌≡◌, sym, ap, ◌∙◌}
use mathlib.Core.Logic.{◌⊎◌, inl, inr}
use mathlib.Core.Bool.{true}
use mathlib.Core.List.{List}
use native.Mathlib.Nat.{le_antisymm, eq-or-lt_of_le}
use native.Mathlib.Numerals.{add-one}
use native.Mathlib.Omega.{arith}
use lib.ListN.{length}
use borrow.Author.Tests.{lt-ltb, le-ltb}
use Rattle.bools.specs.Tests.{true_is}
use Rattle.bools.specs.Every.{every, every_of}
use Rattle.rules.specs.Sound.{unused_sound}
use Rattle.soundness.proofs.nest.unused_sound.Goals as goal

module _ (nest : List ℕ) (depth : ℕ) where
  in_use : (j : ℕ) → j ≤ depth → every (unused_sound nest depth) j ≡ true
  unfolding unused_sound
  in_use j h = true_is _ (every_of _ j (λ n l. rw (lt-ltb n depth (omega arith)) tt))

  -- the scan's end is the nest's, or the depth where the nest is shorter
  to_the_end : (i : ℕ) → depth ≤ i → i ≤ depth + (length nest - depth) → length nest ≤ i → every (unused_sound nest depth) i ≡ every (unused_sound nest depth) (length nest)
  to_the_end i low high past = go (eq-or-lt_of_le low)
    where
      go : (depth ≡ i) ⊎ (depth < i) → every (unused_sound nest depth) i ≡ every (unused_sound nest depth) (length nest)
      go (inl e) = in_use i (omega arith) ∙ sym (in_use (length nest) (omega arith))
      go (inr l) = ap (every _) (le_antisymm (omega arith) past)

pub loop-i-init : goal.loop-i-init
loop-i-init c = (omega arith, sym (in_use _ _ _ (omega arith)))

pub loop-i-preserved : goal.loop-i-preserved
unfolding every unused_sound
loop-i-preserved c =
    (omega arith, c.both-ok.ensures ∙ simp (add-one, le-ltb _ _ c.loop-i.auto.i, c.loop-i.invariant.1))

pub returns : goal.returns
returns c =
    c.loop-i.invariant.1 ∙ to_the_end _ _ _ c.loop-i.auto.i c.loop-i.invariant.0 c.loop-i-test.false
