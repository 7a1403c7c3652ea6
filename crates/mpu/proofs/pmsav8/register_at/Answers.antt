-- Each arm by its offset; the last by all that it is not.
use mathlib.Core.Path.{sym, ap}
use borrow.Author.Tests.{ne_eqb}
use Rattle.mpu.specs.Pmsav8.{pmsav8_register_at}
use Rattle.mpu.proofs.pmsav8.register_at.Goals as goal

pub returns-in-0 : goal.returns-in-0
unfolding pmsav8_register_at
returns-in-0 c = sym (ap pmsav8_register_at c.in-0.is)

pub returns-in-4 : goal.returns-in-4
unfolding pmsav8_register_at
returns-in-4 c = sym (ap pmsav8_register_at c.in-4.is)

pub returns-in-8 : goal.returns-in-8
unfolding pmsav8_register_at
returns-in-8 c = sym (ap pmsav8_register_at c.in-8.is)

pub returns-in-12 : goal.returns-in-12
unfolding pmsav8_register_at
returns-in-12 c = sym (ap pmsav8_register_at c.in-12.is)

pub returns-in-16 : goal.returns-in-16
unfolding pmsav8_register_at
returns-in-16 c = sym (ap pmsav8_register_at c.in-16.is)

pub returns-in-20 : goal.returns-in-20
unfolding pmsav8_register_at
returns-in-20 c = sym (ap pmsav8_register_at c.in-20.is)

pub returns-in-24 : goal.returns-in-24
unfolding pmsav8_register_at
returns-in-24 c = sym (ap pmsav8_register_at c.in-24.is)

pub returns-in-28 : goal.returns-in-28
unfolding pmsav8_register_at
returns-in-28 c = sym (ap pmsav8_register_at c.in-28.is)

pub returns-in-32 : goal.returns-in-32
unfolding pmsav8_register_at
returns-in-32 c = sym (ap pmsav8_register_at c.in-32.is)

pub returns-in-36 : goal.returns-in-36
unfolding pmsav8_register_at
returns-in-36 c = sym (ap pmsav8_register_at c.in-36.is)

pub returns-in-40 : goal.returns-in-40
unfolding pmsav8_register_at
returns-in-40 c = sym (ap pmsav8_register_at c.in-40.is)

pub returns-in-48 : goal.returns-in-48
unfolding pmsav8_register_at
returns-in-48 c = sym (ap pmsav8_register_at c.in-48.is)

pub returns-in-52 : goal.returns-in-52
unfolding pmsav8_register_at
returns-in-52 c = sym (ap pmsav8_register_at c.in-52.is)

pub returns-in_default : goal.returns-in_default
unfolding pmsav8_register_at
returns-in_default c = simp (
  ne_eqb _ _ c.in_default.in_default-own.rest.1,
  ne_eqb _ _ c.in_default.in_default-own.rest.0.1,
  ne_eqb _ _ c.in_default.in_default-own.rest.0.0.1,
  ne_eqb _ _ c.in_default.in_default-own.rest.0.0.0.1,
  ne_eqb _ _ c.in_default.in_default-own.rest.0.0.0.0.1,
  ne_eqb _ _ c.in_default.in_default-own.rest.0.0.0.0.0.1,
  ne_eqb _ _ c.in_default.in_default-own.rest.0.0.0.0.0.0.1,
  ne_eqb _ _ c.in_default.in_default-own.rest.0.0.0.0.0.0.0.1,
  ne_eqb _ _ c.in_default.in_default-own.rest.0.0.0.0.0.0.0.0.1,
  ne_eqb _ _ c.in_default.in_default-own.rest.0.0.0.0.0.0.0.0.0.1,
  ne_eqb _ _ c.in_default.in_default-own.rest.0.0.0.0.0.0.0.0.0.0.1,
  ne_eqb _ _ c.in_default.in_default-own.rest.0.0.0.0.0.0.0.0.0.0.0.1,
  ne_eqb _ _ c.in_default.in_default-own.rest.0.0.0.0.0.0.0.0.0.0.0.0.1,
)
