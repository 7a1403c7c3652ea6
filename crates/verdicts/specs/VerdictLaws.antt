-- Laws of the verdict: who decides, and that nothing is left without a verdict.
use Prim.Native.Nat.{ℕ, ◌<◌}
use Rattle.std.specs.Prelude.{◌≡◌, List, Bool, get_or}
use Rattle.std.proofs.Math.Bool.{true, false}
use Rattle.verdicts.specs.Verdict.{region_matches}

-- Region i of a guard matches an address.
abbrev pub matches_at : List ℕ → List ℕ → ℕ → ℕ → Bool
matches_at bases attributes address i = region_matches (get_or bases i 0) (get_or attributes i 0) address

-- Of the first n numbers, k is the highest that a test holds of.
pub record Highest (test : ℕ → Bool) (n k : ℕ) : Type 0 where
  pub below : k < n
  pub holds : test k ≡ true
  pub above : (i : ℕ) → k < i → i < n → test i ≡ false
