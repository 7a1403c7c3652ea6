-- By the definition's own tests.
use borrow.Author.Tests.{eq-eqb, ne_eqb}
use Rattle.rules.specs.Events.{fault_status}
use Rattle.system.proofs.status.fault_status.Goals as goal

pub returns-then-bit-eq1 : goal.returns-then-bit-eq1
unfolding fault_status
returns-then-bit-eq1 c = simp (c.if-bit-eq1.true, c.set_bit-then-bit-eq1.ensures, c.set_bit.ensures)

pub returns-then-bit-eq9 : goal.returns-then-bit-eq9
unfolding fault_status
returns-then-bit-eq9 c = simp (ne_eqb _ _ c.if-bit-eq1.false, eq-eqb _ _ c.if-bit-eq9.true, c.set_bit-then-bit-eq9-2.ensures, c.set_bit-then-bit-eq9.ensures)

pub returns : goal.returns
unfolding fault_status
returns c = simp (ne_eqb _ _ c.if-bit-eq1.false, ne_eqb _ _ c.if-bit-eq9.false, c.set_bit-2.ensures)
