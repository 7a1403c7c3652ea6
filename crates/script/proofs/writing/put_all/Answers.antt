-- The parts are stored one after the other: together the bytes of all the numbers.
use mathlib.Core.Path.{◌∙◌}
use native.Mathlib.Omega.{arith}
use Rattle.script.proofs.Spelling.{event_parts, event_length, sets_append}
use Rattle.script.proofs.writing.put_all.Goals as goal

pub put_if-after_kind-requires : goal.put_if-after_kind-requires
put_if-after_kind-requires c = omega (arith, event_length c.args.n _ c.arity-count.ensures)

pub put_if-after_a-requires : goal.put_if-after_a-requires
put_if-after_a-requires c = omega (arith, event_length c.args.n _ c.arity-count.ensures)

pub put_if-after_b-requires : goal.put_if-after_b-requires
put_if-after_b-requires c = omega (arith, event_length c.args.n _ c.arity-count.ensures)

pub put_if-requires : goal.put_if-requires
put_if-requires c = omega (arith, event_length c.args.n _ c.arity-count.ensures)

pub returns : goal.returns
returns c =
    c.put_if.ensures.out_after
    ∙ simp (c.put_if-after_b.ensures.out_after, c.put_if-after_b.ensures.value, c.put_if-after_a.ensures.out_after, c.put_if-after_a.ensures.value, c.put_if-after_kind.ensures.out_after, c.put_if-after_kind.ensures.value, event_parts c.args.n _ c.arity-count.ensures, sets_append)
