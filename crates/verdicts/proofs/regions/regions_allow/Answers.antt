-- The loop has asked the regions passed.
use mathlib.Core.Path.{◌∙◌, refl}
use native.Mathlib.Numerals.{add-one}
use Rattle.std.proofs.Common.{length-append}
use Rattle.std.proofs.lemmas.Slice.Zip.{zip_turn}
use Rattle.verdicts.specs.Verdict.{regions_allow}
use borrow.Author.Rules.{rules}
use Rattle.verdicts.proofs.regions.regions_allow.Goals as goal

pub loop-base-init : goal.loop-base-init
unfolding regions_allow
loop-base-init c = refl

pub loop-base-preserved : goal.loop-base-preserved
unfolding regions_allow
loop-base-preserved c =
    let t = zip_turn c.args.bases.now c.args.attributes.now c.loop-base.yielded c.into_iter-base-iterator.result c.loop-base.base-iterator c.next.new.self c.next.result (search rules) (search rules) c.loop-base.yielded_by _ c.in-Some.is c.next.ensures.steps in
    rw (length-append, add-one) (c.region_allows-allowed.ensures ∙ simp (← t.2 0, ← t.3 0, c.loop-base.invariant))
