-- The numbers of the verdicts: "Verdict 0 allowed, 1 data fault, 2 fetch fault."
use Rattle.std.specs.Prelude.{ℕ}
use Rattle.verdicts.specs.declared.Verdict.{Verdict}
use Rattle.verdicts.specs.declared.Verdict.TheVariants.{Allowed, DataFault, FetchFault}

abbrev pub number_of : Verdict → ℕ
number_of Allowed = 0
number_of DataFault = 1
number_of FetchFault = 2
