-- The loop has asked the regions passed.
use mathlib.Core.Path.{◌≡◌}
use lib.ListN.{length}
use Rattle.verdicts.specs.Verdict.{regions_allow}
use Rattle.verdicts.proofs.regions.regions_allow.Given as goal

abbrev pub invariant-loop-base : goal.invariant-loop-base
invariant-loop-base l = l.allowed ≡ regions_allow l.bases l.attributes l.request.access l.request.address l.request.privileged l.otherwise (length l.yielded)
