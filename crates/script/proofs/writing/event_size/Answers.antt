-- The sizes of the parts add up; each is at most 5.
use native.Mathlib.Omega.{arith}
use Rattle.script.proofs.Spelling.{size_small, event_length}
use Rattle.script.proofs.writing.event_size.Goals as goal

pub overflow_add-result : goal.overflow_add-result
overflow_add-result c = omega (arith, size_small _ _ _ c.size_if.ensures, size_small _ _ _ c.size_if-2.ensures)

pub overflow_add-result-2 : goal.overflow_add-result-2
overflow_add-result-2 c = omega (arith, size_small _ _ _ c.size_if.ensures, size_small _ _ _ c.size_if-2.ensures, size_small _ _ _ c.size_if-3.ensures)

pub overflow_add-result-3 : goal.overflow_add-result-3
overflow_add-result-3 c = omega (arith, size_small _ _ _ c.size_if.ensures, size_small _ _ _ c.size_if-2.ensures, size_small _ _ _ c.size_if-3.ensures, size_small _ _ _ c.size_if-4.ensures)

pub returns : goal.returns
returns c = omega (arith, event_length c.args.n _ c.arity-count.ensures)
