-- Each event's line is written before the next is read (`Going`), until no line has room or no event can be read.
use Prim.Native.Nat.{◌+◌, ◌≤◌}
use mathlib.Core.Path.{◌≡◌, ap, refl, sym, subst, ◌∙◌}
use native.Mathlib.Omega.{arith}
use lib.ListN.{length}
use mir.Facts.{to_z-of_z}
use mir.Syntax.{w32}
use Rattle.decimal.specs.Decimal.{line_room}
use Rattle.parts.specs.Numbers.{numbers}
use Rattle.parts.proofs.Laws.{beside, answered}
use Rattle.rules.specs.declared.Lent.{Lent}
use Rattle.rules.specs.declared.Chip.{Chip}
use Rattle.rules.specs.Lent.{SameLoan, seen, view}
use Rattle.rules.specs.Model.{Model, Answer}
use Rattle.rules.specs.Priorities.{execution}
use Rattle.rules.specs.Step.{act_of}
use Rattle.script.specs.declared.Event.{Event}
use Rattle.rules.specs.Sound.{Sound}
use Rattle.demand3.proofs.Check.{depth_fits}
use Rattle.demand3.proofs.Nesting.{execution_nest}
use Rattle.demand3.proofs.Steps.{act_sound}
use Rattle.pieces.proofs.Laws.{One, one_of}
use Rattle.pieces.proofs.Loop.{going_first, going_next}
use Rattle.pieces.proofs.Promise.{usable_of, ran_full, ran_closed}
use borrow.Author.Rules.{rules}
use Rattle.running.proofs.run_events.Goals as goal

-- what an event leaves is sound again
after : {c : Chip} {m : Model} → Sound c m → (e : Event) (a : Answer) → a ≡ act_of c m e → Sound c a.next
after {c} {m} s e a q = subst (λ (a : Answer). Sound c a.next) (sym q) (act_sound s e)

through : {s t u : Lent} → SameLoan s t → SameLoan t u → SameLoan s u
through a b =
    record {
      pending = b.pending ∙ a.pending;
      active = b.active ∙ a.active;
      enabled = b.enabled ∙ a.enabled;
      level = b.level ∙ a.level;
      priority = b.priority ∙ a.priority;
      nest = b.nest ∙ a.nest;
      lost = b.lost ∙ a.lost;
    }

pub execution-limit-requires : goal.execution-limit-requires
execution-limit-requires c =
    let u = usable_of _ _ _ c.requires.1.tested in
    let s = rw (← c.shown.ensures) at u.sound in
    let d = depth_fits s in
    let l = s.places.size in
    omega arith

pub loop-out-init : goal.loop-out-init
loop-out-init c =
    let u = usable_of _ _ _ c.requires.1.tested in
    let s = rw (← c.shown.ensures) at u.sound in
    let x = c.execution-limit.ensures ∙ execution_nest s ∙ ap execution c.shown.ensures in
    (going_first _ _ _ _ _ _ u.sound u.counted, (to_z-of_z {w = w32} (search rules) ∙ x, search rules))

pub returns-in-Err-clause-ran : goal.returns-in-Err-clause-ran
returns-in-Err-clause-ran c =
    let h : c.loop-out.wrote + line_room ≤ length c.loop-out.out = omega (arith, c.loop-out-test.true, c.loop-out.invariant.0.within, c.loop-out.invariant.0.sized) in
    ran_closed c.requires.1 c.loop-out.invariant.0 (omega arith) _ _ (rw c.going-course.ensures at c.close.ensures)

pub overflow_add-events : goal.overflow_add-events
overflow_add-events c =
    let o : One c.args.script.now c.loop-out.at c.in-Ok.event c.in-Ok.next = one_of _ c.requires.1.short (λ i. omega (arith, c.type_inv.script i)) _ _ _ (sym c.read_event.ensures.value ∙ c.in-Ok.is) in
    omega (arith, o.forward, o.inside, c.loop-out.invariant.0.counted, c.requires.1.short)

pub put_answer-line-requires : goal.put_answer-line-requires
put_answer-line-requires c =
    let a = after c.loop-out.invariant.0.sound c.in-Ok.event _ (sym (answered c.act-outcome.result (view c.act-outcome.new.state)) ∙ c.act-outcome.ensures.answer) in
    let s : Sound c.args.chip (seen c.shown-in-Ok.result) = subst (Sound c.args.chip) (sym c.shown-in-Ok.ensures) a in
    let d = depth_fits s in
    let l = s.places.size in
    let h : c.loop-out.wrote + line_room ≤ length c.loop-out.out = omega (arith, c.loop-out-test.true, c.loop-out.invariant.0.within, c.loop-out.invariant.0.sized) in
    (omega arith, h)

pub loop-out-smaller : goal.loop-out-smaller
loop-out-smaller c =
    let o : One c.args.script.now c.loop-out.at c.in-Ok.event c.in-Ok.next = one_of _ c.requires.1.short (λ i. omega (arith, c.type_inv.script i)) _ _ _ (sym c.read_event.ensures.value ∙ c.in-Ok.is) in
    omega (arith, o.forward, o.inside)

pub loop-out-preserved : goal.loop-out-preserved
loop-out-preserved c =
    let o : One c.args.script.now c.loop-out.at c.in-Ok.event c.in-Ok.next = one_of _ c.requires.1.short (λ i. omega (arith, c.type_inv.script i)) _ _ _ (sym c.read_event.ensures.value ∙ c.in-Ok.is) in
    let a : Answer = beside (numbers c.act-outcome.result) (view c.act-outcome.new.state) in
    let q : a ≡ act_of c.args.chip (view c.loop-out.state) c.in-Ok.event = sym (answered c.act-outcome.result (view c.act-outcome.new.state)) ∙ c.act-outcome.ensures.answer in
    let t = rw c.shown-in-Ok.ensures at c.put_answer-line.ensures in
    let x = t.priority ∙ execution_nest (after c.loop-out.invariant.0.sound c.in-Ok.event a q) in
    let h : c.loop-out.wrote + line_room ≤ length c.loop-out.out = omega (arith, c.loop-out-test.true, c.loop-out.invariant.0.within, c.loop-out.invariant.0.sized) in (
      going_next c.loop-out.invariant.0 c.requires.1.fit _ _ o a q _ refl _ x _ _ h t.line t.within,
      (to_z-of_z {w = w32} (search rules) ∙ x, through c.loop-out.invariant.1.1 c.act-outcome.ensures.loan),
    )

pub returns-clause-ran : goal.returns-clause-ran
returns-clause-ran c =
    rw c.going.ensures (ran_full c.requires.1 c.loop-out.invariant.0 (omega (arith, c.loop-out-test.false)))
