-- The rules' theorem at the setup's chip, and the value of a reply is that of the rules' answer.
use Prim.Native.Nat.{ℕ}
use mathlib.Core.Path.{◌≡◌, refl, sym, ap, subst, ◌∙◌}
use mathlib.Core.Logic.{◌⊎◌}
use mathlib.Core.Bool.{false}
use Rattle.bools.specs.Tests.{is_false}
use Rattle.verdicts.specs.declared.Access.{Access}
use Rattle.verdicts.specs.Verdict.{fault_of}
use Rattle.rules.specs.declared.Part.{Part}
use Rattle.rules.specs.declared.Part.TheVariants.{Lines55, Lines240, CortexM0}
use Rattle.rules.specs.declared.Setup.{Setup}
use Rattle.rules.specs.Chip.{is_armv6m, part_chip, chip_of}
use Rattle.rules.specs.Model.{Answer}
use Rattle.guard_editions.specs.GuardEditions.{verdict_in}
use Rattle.guard_editions.proofs.GuardEditions.{e12}
use Rattle.any_chip.specs.declared.State.{State}
use Rattle.any_chip.specs.View.{Reply}
use Rattle.any_chip.specs.View.{model, reply}
use Rattle.any_chip.specs.GuardEditions.{Asked, guarded_by, CodeGuardEditions}
use Rattle.any_chip.proofs.View.{view_laws}

-- a chip that has a guard has the one that the setup names
named : (s : Setup) → is_armv6m (chip_of s) ≡ false → (chip_of s).guard ≡ s.guard
named s = go s.part
  where
    go : (p : Part) → is_armv6m (part_chip p s.bits s.guard) ≡ false → (part_chip p s.bits s.guard).guard ≡ s.guard
    go Lines55 e = refl
    go Lines240 e = refl
    go CortexM0 e = absurd (is_false e tt)

answered : (s : State) (access : Access) (w a : ℕ) (r : Reply) → Asked s access w a r → r ≡ record { refusal = 0; value = verdict_in (chip_of s.setup) (model s) access a; vector = 0; link = 0; state = s }
answered s access w a r q =
    let c = chip_of s.setup in
    q.replied
    ∙ ap (λ (x : Answer). reply s.setup x) ((e12.shared c q.has_guard).answered q.fit (model s) q.sound access w a q.width q.aligned)
    ∙ ap (λ (t : State). record { refusal = 0; value = verdict_in c (model s) access a; vector = 0; link = 0; state = t }) (view_laws.back s q.sized)

value : (s : State) (access : Access) (w a : ℕ) (r : Reply) → Asked s access w a r → r.value ≡ verdict_in (chip_of s.setup) (model s) access a
value s access w a r q = ap (λ (x : Reply). x.value) (answered s access w a r q)

pub code_guard_editions : CodeGuardEditions
code_guard_editions =
    record {
      answered = answered;
      every = λ s access w a r q.
          subst (λ (n : ℕ). (n ≡ 0) ⊎ (n ≡ fault_of access)) (sym (value s access w a r q)) ((e12.shared (chip_of s.setup) q.has_guard).every (model s) access a);
      untouched = λ s access w a r g q. value s access w a r q ∙ (e12.old (chip_of s.setup) (named s.setup q.has_guard ∙ g)).untouched (model s) access a;
      two = λ s access w a r g q b v. value s access w a r q ∙ (e12.next (chip_of s.setup) (named s.setup q.has_guard ∙ g)).two (model s) access a b v;
      one = λ s access w a k r g q b v. value s access w a r q ∙ (e12.next (chip_of s.setup) (named s.setup q.has_guard ∙ g)).one (model s) access a k b v;
      none = λ s access w a r g q b v. value s access w a r q ∙ (e12.next (chip_of s.setup) (named s.setup q.has_guard ∙ g)).none (model s) access a b v;
      order = λ s g access w a p q e same o x y.
          value s access w a p x
          ∙ (e12.next (chip_of s.setup) (named s.setup x.has_guard ∙ e)).order (model s) g same o access a
          ∙ sym (value (guarded_by g s) access w a q y);
    }
