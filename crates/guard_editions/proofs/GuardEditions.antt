-- On a sound state an access event is the rules' verdict, and the verdict's laws are those of `verdicts`; what is of the registers computes.
use Prim.Native.Nat.{ℕ, ◌%◌}
use mathlib.Core.Path.{◌≡◌, refl, sym, ap, ◌∙◌}
use mathlib.Core.Logic.{◌≢◌}
use mathlib.Core.Bool.{false}
use lib.Dec.{T}
use borrow.Author.Tests.{eq-eqb, ne_eqb}
use Rattle.bools.specs.Tests.{true_is}
use Rattle.mpu.specs.declared.Edition.{Edition}
use Rattle.mpu.specs.declared.Edition.TheVariants.{Pmsav7, Pmsav8}
use Rattle.mpu.specs.Registers.{mpu_register_at}
use Rattle.mpu.specs.Pmsav8.{pmsav8_register_at}
use Rattle.mpu.specs.Editions.{guard_register_at}
use Rattle.mpu.specs.Pmsav8Laws as registers
use Rattle.verdicts.specs.declared.Access.{Access}
use Rattle.verdicts.specs.declared.Access.TheVariants.{Read, Write, Fetch}
use Rattle.editions.specs.EditionLaws as laws
use Rattle.editions.proofs.Pmsav8Laws as pmsav8
use Rattle.script.specs.Event.{access_number}
use Rattle.rules.specs.declared.Chip.{Chip}
use Rattle.rules.specs.Chip.{is_armv6m, fits, with_bits, with_edition}
use Rattle.rules.specs.Model.{Model, done, refuse, with_guard}
use Rattle.rules.specs.Priorities.{execution, is_negative, privileged}
use Rattle.rules.specs.Sound.{Sound}
use Rattle.rules.specs.Map.{block_register, register_at}
use Rattle.rules.specs.Access.{purpose_of, fits_access, access_at, access_by, access_call}
use Rattle.rules.proofs.PriorityBits.{from_3_to_8}
use Rattle.rules.specs.Step.{step_of}
use Rattle.demand3.proofs.Check.{step_sound}
use Rattle.demand3.proofs.Demand3.{demand3}
use Rattle.guard_editions.specs.GuardEditions.{number, asks, verdict_in, Shared, First, Second, Region, Registers, E12}
use Rattle.guard_editions.proofs.Cases.{cases_hold}

module _ (c : Chip) (has : is_armv6m c ≡ false) (f : T (fits c)) (m : Model) (h : Sound c m) where
  -- an access event on a sound state is the access call
  called : (access : Access) (w a : ℕ) → step_of c m (asks access w a) ≡ access_call c m (number access) w a
  unfolding access_number
  called Read w a = step_sound f h (asks Read w a)
  called Write w a = step_sound f h (asks Write w a)
  called Fetch w a = step_sound f h (asks Fetch w a)

  aligned : (access : Access) (w a : ℕ) → T (fits_access (number access) w) → a % w ≡ 0 → access_call c m (number access) w a ≡ done (verdict_in c m access a) m
  unfolding access_at access_by purpose_of
  aligned Read w a t q = simp (has, true_is (fits_access 0 w) t, eq-eqb (a % w) 0 q)
  aligned Write w a t q = simp (has, true_is (fits_access 1 w) t, eq-eqb (a % w) 0 q)
  aligned Fetch w a t q = simp (has, true_is (fits_access 2 w) t, eq-eqb (a % w) 0 q)

  unaligned : (access : Access) (w a : ℕ) → T (fits_access (number access) w) → a % w ≢ 0 → access_call c m (number access) w a ≡ refuse 2 m
  unfolding access_at access_by
  unaligned Read w a t q = simp (has, true_is (fits_access 0 w) t, ne_eqb (a % w) 0 q)
  unaligned Write w a t q = simp (has, true_is (fits_access 1 w) t, ne_eqb (a % w) 0 q)
  unaligned Fetch w a t q = simp (has, true_is (fits_access 2 w) t, ne_eqb (a % w) 0 q)

shared : (c : Chip) → is_armv6m c ≡ false → Shared c
shared c has =
    record {
      answered = λ f m h access w a t q. called c has f m h access w a ∙ aligned c has f m h access w a t q;
      every = λ m access a. laws.allows_or_faults c.guard m.core.guard access a (privileged m.core) (is_negative (execution m));
      unaligned = λ f m h access w a t q. called c has f m h access w a ∙ unaligned c has f m h access w a t q;
      default_map = λ m access a. laws.default_map_decides c.guard m.core.guard access a (privileged m.core) (is_negative (execution m));
      system_fetch_lem = λ m a. laws.system_never_fetched c.guard m.core.guard a (privileged m.core) (is_negative (execution m));
      nesting = λ e w low high. demand3 (with_edition e (with_bits w c)) (from_3_to_8 c w has low high);
    }

old : (c : Chip) → c.guard ≡ Pmsav7 → First c
old c p =
    record {
      untouched = λ m access a.
          ap (λ (e : Edition). verdict_in (with_edition e c) m access a) p
          ∙ laws.old_untouched m.core.guard access a (privileged m.core) (is_negative (execution m));
    }

-- a chip with the second guard, and what is known of that guard's verdict
as_second : (c : Chip) → c.guard ≡ Pmsav8 → (m : Model) (access : Access) (a : ℕ) → verdict_in c m access a ≡ verdict_in (with_edition Pmsav8 c) m access a
as_second c p m access a = ap (λ (e : Edition). verdict_in (with_edition e c) m access a) p

module _ (c : Chip) (p : c.guard ≡ Pmsav8) where
  next : Second c
  unfolding execution
  next =
      record {
        two = λ m access a r s. as_second c p m access a ∙ pmsav8.two_fault m.core.guard access a _ _ r.below r.guarded s;
        one = λ m access a k r s. as_second c p m access a ∙ pmsav8.one_decides m.core.guard access a _ _ r.below r.guarded k s;
        none = λ m access a r s. as_second c p m access a ∙ pmsav8.none_background m.core.guard access a _ _ r.below r.guarded s;
        plain = λ m x y access a. laws.plain_unread c.guard m.core.guard x y access a _ _;
        order = λ m g q o access a.
            as_second c p m access a
            ∙ pmsav8.order_verdict m.core.guard g access a _ _ q o
            ∙ sym (as_second c p (with_guard g m) access a);
      }

region : Region
region =
    record {
      from_to = λ rbar rlar a. (pmsav8.within rbar rlar a, pmsav8.covered rbar rlar a);
      backwards = pmsav8.backwards_covers_nothing;
      rights = pmsav8.rights_row;
      fetch = pmsav8.fetch_right;
      no_fetch_lem = pmsav8.fetch_forbidden;
    }

maps : Registers
unfolding register_at block_register guard_register_at mpu_register_at pmsav8_register_at
maps =
    record {
      first = (refl, refl);
      second = (refl, refl);
      rbar = registers.rbar_back;
      rlar = registers.rlar_back;
      own_pair = registers.pair_0;
      pairs = registers.pairs_1_to_3;
      selected = registers.nothing_selected;
    }

pub e12 : E12
e12 =
    record {
      shared = shared;
      old = old;
      next = next;
      region = region;
      map = maps;
      examples = cases_hold;
    }
