-- The loop knows which of the regions passed covers the address (`Known`), and ends at a second one.
use Prim.Native.Nat.{◌<◌}
use mathlib.Core.Path.{◌≡◌, refl, sym, ◌∙◌}
use native.Mathlib.Numerals.{add-one}
use native.Mathlib.Omega.{arith}
use lib.ListN.{length, get_or}
use Rattle.std.proofs.Common.{length-append}
use Rattle.std.proofs.lemmas.Slice.Zip.{zip_turn, zip_end}
use Rattle.editions.specs.Pmsav8.{covers, covers_at, tally}
use Rattle.editions.proofs.Laws.{first_one, not_one, second_one, passed_one, passed_none}
use borrow.Author.Rules.{rules}
use Rattle.editions.proofs.pmsav8.covers_allow.Goals as goal
use Rattle.editions.proofs.pmsav8.covers_allow.Goals.{In-Some, In-None}

-- one turn has the words of the region at its number
turn : (c : In-Some)
    → (length c.loop-rbar.yielded < 8)
    × (c.in-Some.rbar.now ≡ get_or c.args.rbars.now (length c.loop-rbar.yielded) 0)
    × (covers c.in-Some.rbar.now c.in-Some.rlar.now c.args.request.address ≡ covers_at c.args.rbars.now c.args.rlars.now c.args.request.address (length c.loop-rbar.yielded))
turn c =
    let t = zip_turn c.args.rbars.now c.args.rlars.now c.loop-rbar.yielded c.into_iter-rbar-iterator.result c.loop-rbar.rbar-iterator c.next.new.self c.next.result (search rules) (search rules) c.loop-rbar.yielded_by _ c.in-Some.is c.next.ensures.steps in
    (omega (arith, t.0, c.told-rbars), t.2 0, rw (← t.2 0, ← t.3 0) refl)

-- at the end all eight are passed
passed : (c : In-None) → length c.loop-rbar.yielded ≡ 8
passed c =
    let e = zip_end c.args.rbars.now c.args.rlars.now c.loop-rbar.yielded c.into_iter-rbar-iterator.result c.loop-rbar.rbar-iterator c.next.new.self c.next.result (search rules) (search rules) c.loop-rbar.yielded_by c.in-None.is c.next.ensures.steps in
    omega (arith, e, c.told-rbars, c.told-rlars)

pub loop-rbar-init : goal.loop-rbar-init
unfolding tally
loop-rbar-init c = refl

pub returns-then-is_some : goal.returns-then-is_some
returns-then-is_some c =
    let t = turn (goal.at.returns-then-is_some c).In-Some in
    sym (second_one _ _ _ _ _ c.loop-rbar.invariant (sym c.is_some.ensures ∙ c.if-is_some.true) (sym t.2 ∙ sym c.covers.ensures ∙ c.if-covers.true) 8 t.0 _ _ _)

pub loop-rbar-preserved-then-covers : goal.loop-rbar-preserved-then-covers
loop-rbar-preserved-then-covers c =
    let t = turn (goal.at.loop-rbar-preserved-then-covers c).In-Some in
    rw (length-append, add-one, t.1) (first_one _ _ _ _ _ c.loop-rbar.invariant (sym c.is_some.ensures ∙ c.if-is_some.false) (sym t.2 ∙ sym c.covers.ensures ∙ c.if-covers.true))

pub loop-rbar-preserved : goal.loop-rbar-preserved
loop-rbar-preserved c =
    let t = turn (goal.at.loop-rbar-preserved c).In-Some in
    rw (length-append, add-one) (not_one _ _ _ _ _ c.loop-rbar.invariant (sym t.2 ∙ sym c.covers.ensures ∙ c.if-covers.false))

pub returns-in-Some-found : goal.returns-in-Some-found
returns-in-Some-found c =
    let e = passed (goal.at.returns-in-Some-found c).In-None in
    c.cover_allows.ensures ∙ sym (rw e at (passed_one c.args.rbars.now c.args.rlars.now c.args.request.address (length c.loop-rbar.yielded) c.loop-rbar.found c.loop-rbar.invariant c.in-Some-found.rbar c.in-Some-found.is c.args.request.access c.args.request.privileged c.args.otherwise))

pub returns-in-None-found : goal.returns-in-None-found
returns-in-None-found c =
    let e = passed (goal.at.returns-in-None-found c).In-None in
    sym (rw e at (passed_none c.args.rbars.now c.args.rlars.now c.args.request.address (length c.loop-rbar.yielded) c.loop-rbar.found c.loop-rbar.invariant c.in-None-found.is c.args.request.access c.args.request.privileged c.args.otherwise))
