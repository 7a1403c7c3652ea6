-- Each closed address by computation; any other differs from all nineteen.
use mathlib.Core.Path.{◌∙◌, ap, sym}
use borrow.Author.Tests.{ne_eqb}
use Rattle.rules.specs.Map.{register_at}
use Rattle.map.proofs.register_at.Goals as goal

pub returns-in-3758153732 : goal.returns-in-3758153732
unfolding register_at
returns-in-3758153732 c = sym (ap (register_at c.args.chip) c.in-3758153732.is)

pub returns-in-3758153744 : goal.returns-in-3758153744
unfolding register_at
returns-in-3758153744 c = sym (ap (register_at c.args.chip) c.in-3758153744.is)

pub returns-in-3758153748 : goal.returns-in-3758153748
unfolding register_at
returns-in-3758153748 c = sym (ap (register_at c.args.chip) c.in-3758153748.is)

pub returns-in-3758153752 : goal.returns-in-3758153752
unfolding register_at
returns-in-3758153752 c = sym (ap (register_at c.args.chip) c.in-3758153752.is)

pub returns-in-3758157056 : goal.returns-in-3758157056
unfolding register_at
returns-in-3758157056 c = sym (ap (register_at c.args.chip) c.in-3758157056.is)

pub returns-in-3758157060 : goal.returns-in-3758157060
unfolding register_at
returns-in-3758157060 c = sym (ap (register_at c.args.chip) c.in-3758157060.is)

pub returns-in-3758157064 : goal.returns-in-3758157064
unfolding register_at
returns-in-3758157064 c = sym (ap (register_at c.args.chip) c.in-3758157064.is)

pub returns-in-3758157068 : goal.returns-in-3758157068
unfolding register_at
returns-in-3758157068 c = sym (ap (register_at c.args.chip) c.in-3758157068.is)

pub returns-in-3758157072 : goal.returns-in-3758157072
unfolding register_at
returns-in-3758157072 c = sym (ap (register_at c.args.chip) c.in-3758157072.is)

pub returns-in-3758157076 : goal.returns-in-3758157076
unfolding register_at
returns-in-3758157076 c = sym (ap (register_at c.args.chip) c.in-3758157076.is)

pub returns-in-3758157080 : goal.returns-in-3758157080
unfolding register_at
returns-in-3758157080 c = sym (ap (register_at c.args.chip) c.in-3758157080.is)

pub returns-in-3758157084 : goal.returns-in-3758157084
unfolding register_at
returns-in-3758157084 c = sym (ap (register_at c.args.chip) c.in-3758157084.is)

pub returns-in-3758157088 : goal.returns-in-3758157088
unfolding register_at
returns-in-3758157088 c = sym (ap (register_at c.args.chip) c.in-3758157088.is)

pub returns-in-3758157092 : goal.returns-in-3758157092
unfolding register_at
returns-in-3758157092 c = sym (ap (register_at c.args.chip) c.in-3758157092.is)

pub returns-in-3758157096 : goal.returns-in-3758157096
unfolding register_at
returns-in-3758157096 c = sym (ap (register_at c.args.chip) c.in-3758157096.is)

pub returns-in-3758157100 : goal.returns-in-3758157100
unfolding register_at
returns-in-3758157100 c = sym (ap (register_at c.args.chip) c.in-3758157100.is)

pub returns-in-3758157108 : goal.returns-in-3758157108
unfolding register_at
returns-in-3758157108 c = sym (ap (register_at c.args.chip) c.in-3758157108.is)

pub returns-in-3758157112 : goal.returns-in-3758157112
unfolding register_at
returns-in-3758157112 c = sym (ap (register_at c.args.chip) c.in-3758157112.is)

pub returns-in-3758157568 : goal.returns-in-3758157568
unfolding register_at
returns-in-3758157568 c = sym (ap (register_at c.args.chip) c.in-3758157568.is)

pub returns-in_default : goal.returns-in_default
unfolding register_at
returns-in_default c =
    c.block_register.ensures
    ∙ simp (ne_eqb _ _ c.in_default.in_default-own.rest.1, ne_eqb _ _ c.in_default.in_default-own.rest.0.1, ne_eqb _ _ c.in_default.in_default-own.rest.0.0.1, ne_eqb _ _ c.in_default.in_default-own.rest.0.0.0.1, ne_eqb _ _ c.in_default.in_default-own.rest.0.0.0.0.1, ne_eqb _ _ c.in_default.in_default-own.rest.0.0.0.0.0.1, ne_eqb _ _ c.in_default.in_default-own.rest.0.0.0.0.0.0.1, ne_eqb _ _ c.in_default.in_default-own.rest.0.0.0.0.0.0.0.1, ne_eqb _ _ c.in_default.in_default-own.rest.0.0.0.0.0.0.0.0.1, ne_eqb _ _ c.in_default.in_default-own.rest.0.0.0.0.0.0.0.0.0.1, ne_eqb _ _ c.in_default.in_default-own.rest.0.0.0.0.0.0.0.0.0.0.1, ne_eqb _ _ c.in_default.in_default-own.rest.0.0.0.0.0.0.0.0.0.0.0.1, ne_eqb _ _ c.in_default.in_default-own.rest.0.0.0.0.0.0.0.0.0.0.0.0.1, ne_eqb _ _ c.in_default.in_default-own.rest.0.0.0.0.0.0.0.0.0.0.0.0.0.1, ne_eqb _ _ c.in_default.in_default-own.rest.0.0.0.0.0.0.0.0.0.0.0.0.0.0.1, ne_eqb _ _ c.in_default.in_default-own.rest.0.0.0.0.0.0.0.0.0.0.0.0.0.0.0.1, ne_eqb _ _ c.in_default.in_default-own.rest.0.0.0.0.0.0.0.0.0.0.0.0.0.0.0.0.1, ne_eqb _ _ c.in_default.in_default-own.rest.0.0.0.0.0.0.0.0.0.0.0.0.0.0.0.0.0.1, ne_eqb _ _ c.in_default.in_default-own.rest.0.0.0.0.0.0.0.0.0.0.0.0.0.0.0.0.0.0.1)
