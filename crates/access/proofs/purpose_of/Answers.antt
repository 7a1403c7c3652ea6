-- Each kind by computation; from 3 on there is none.
use mathlib.Core.Path.{ap, sym}
use mathlib.Core.Bool.{cond}
use native.Mathlib.Omega.{arith}
use Prim.Native.Nat.{ℕ}
use lib.Dec.{ltb}
use borrow.Author.Tests.{lt-ltb}
use Rattle.std.specs.Prelude.{Result, Ok, Err}
use Rattle.refusals.specs.declared.Refusal.{Refusal}
use Rattle.refusals.specs.declared.Refusal.TheVariants.{OutOfRange}
use Rattle.verdicts.specs.declared.Access.{Access}
use Rattle.rules.specs.Access.{purpose_of}
use Rattle.access.proofs.purpose_of.Goals as goal

of : ℕ → Result Access Refusal
of kind = cond (ltb 2 kind) (Err OutOfRange) (Ok (purpose_of kind))

pub returns-in-0 : goal.returns-in-0
unfolding purpose_of of
returns-in-0 c = sym (ap of c.in-0.is)

pub returns-in-1 : goal.returns-in-1
unfolding purpose_of of
returns-in-1 c = sym (ap of c.in-1.is)

pub returns-in-2 : goal.returns-in-2
unfolding purpose_of of
returns-in-2 c = sym (ap of c.in-2.is)

pub returns-in_default : goal.returns-in_default
returns-in_default c = simp (lt-ltb 2 c.args.kind (omega arith))
