-- Each closed address by computation; any other differs from all ten.
use mathlib.Core.Path.{◌∙◌, ap, sym}
use borrow.Author.Tests.{ne_eqb}
use Rattle.rules.specs.MapArmv6m.{armv6m_register}
use Rattle.map.proofs.armv6m.register_at.Goals as goal

pub returns-in-3758153744 : goal.returns-in-3758153744
unfolding armv6m_register
returns-in-3758153744 c = sym (ap (armv6m_register c.args.chip) c.in-3758153744.is)

pub returns-in-3758153748 : goal.returns-in-3758153748
unfolding armv6m_register
returns-in-3758153748 c = sym (ap (armv6m_register c.args.chip) c.in-3758153748.is)

pub returns-in-3758153752 : goal.returns-in-3758153752
unfolding armv6m_register
returns-in-3758153752 c = sym (ap (armv6m_register c.args.chip) c.in-3758153752.is)

pub returns-in-3758157056 : goal.returns-in-3758157056
unfolding armv6m_register
returns-in-3758157056 c = sym (ap (armv6m_register c.args.chip) c.in-3758157056.is)

pub returns-in-3758157060 : goal.returns-in-3758157060
unfolding armv6m_register
returns-in-3758157060 c = sym (ap (armv6m_register c.args.chip) c.in-3758157060.is)

pub returns-in-3758157068 : goal.returns-in-3758157068
unfolding armv6m_register
returns-in-3758157068 c = sym (ap (armv6m_register c.args.chip) c.in-3758157068.is)

pub returns-in-3758157072 : goal.returns-in-3758157072
unfolding armv6m_register
returns-in-3758157072 c = sym (ap (armv6m_register c.args.chip) c.in-3758157072.is)

pub returns-in-3758157076 : goal.returns-in-3758157076
unfolding armv6m_register
returns-in-3758157076 c = sym (ap (armv6m_register c.args.chip) c.in-3758157076.is)

pub returns-in-3758157084 : goal.returns-in-3758157084
unfolding armv6m_register
returns-in-3758157084 c = sym (ap (armv6m_register c.args.chip) c.in-3758157084.is)

pub returns-in-3758157088 : goal.returns-in-3758157088
unfolding armv6m_register
returns-in-3758157088 c = sym (ap (armv6m_register c.args.chip) c.in-3758157088.is)

pub returns-in_default : goal.returns-in_default
unfolding armv6m_register
returns-in_default c =
    c.block_register.ensures
    ∙ simp (ne_eqb _ _ c.in_default.in_default-own.rest.1, ne_eqb _ _ c.in_default.in_default-own.rest.0.1, ne_eqb _ _ c.in_default.in_default-own.rest.0.0.1, ne_eqb _ _ c.in_default.in_default-own.rest.0.0.0.1, ne_eqb _ _ c.in_default.in_default-own.rest.0.0.0.0.1, ne_eqb _ _ c.in_default.in_default-own.rest.0.0.0.0.0.1, ne_eqb _ _ c.in_default.in_default-own.rest.0.0.0.0.0.0.1, ne_eqb _ _ c.in_default.in_default-own.rest.0.0.0.0.0.0.0.1, ne_eqb _ _ c.in_default.in_default-own.rest.0.0.0.0.0.0.0.0.1, ne_eqb _ _ c.in_default.in_default-own.rest.0.0.0.0.0.0.0.0.0.1)
