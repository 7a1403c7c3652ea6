-- The loop has tested the regions passed.
use mathlib.Core.Path.{refl}
use native.Mathlib.Numerals.{add-one}
use Rattle.std.proofs.Common.{length-append}
use Rattle.std.proofs.lemmas.Slice.Zip.{zip_turn}
use Rattle.std.proofs.Math.Bool.{and_comm}
use Rattle.bools.specs.Every.{every}
use Rattle.mpu.specs.Soundness.{region_kept}
use borrow.Author.Rules.{rules}
use Rattle.mpu.proofs.regions_kept.Goals as goal

pub loop-base-init : goal.loop-base-init
unfolding every
loop-base-init c = refl

pub loop-base-preserved : goal.loop-base-preserved
unfolding every region_kept
loop-base-preserved c =
    let t = zip_turn c.args.bases.now c.args.attributes.now c.loop-base.yielded c.into_iter-base-iterator.result c.loop-base.base-iterator c.next.new.self c.next.result (search rules) (search rules) c.loop-base.yielded_by _ c.in-Some.is c.next.ensures.steps in
    rw (length-append, add-one) (rw and_comm (simp (← t.2 0, ← t.3 0, c.loop-base.invariant, c.kept_first.ensures, c.kept_second.ensures)))
