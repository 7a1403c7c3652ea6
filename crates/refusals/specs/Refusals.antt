-- The numbers of the refusals: "A refusal carries its number from document 01."
use Rattle.std.specs.Prelude.{ℕ}
use Rattle.refusals.specs.declared.Refusal.{Refusal}
use Rattle.refusals.specs.declared.Refusal.TheVariants as refusal

abbrev pub number_of : Refusal → ℕ
number_of refusal.Width = 1
number_of refusal.Unaligned = 2
number_of refusal.Unprivileged = 3
number_of refusal.NoRegister = 4
number_of refusal.RegisterWidth = 5
number_of refusal.OutOfRange = 6
number_of refusal.FaultBit = 7
number_of refusal.NothingToEnter = 8
number_of refusal.ReturnValue = 9
number_of refusal.Lockup = 10
number_of refusal.Frame = 11
number_of refusal.Window = 12
number_of refusal.Number = 13
number_of refusal.Kind = 14
number_of refusal.Length = 15
number_of refusal.Unsound = 16
number_of refusal.Setup = 17
number_of refusal.NoGuard = 19
