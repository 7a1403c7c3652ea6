-- Where the test of the lengths passes, each list has its length.
use mathlib.Core.Path.{◌≡◌}
use mathlib.Core.Bool.{true}
use lib.ListN.{length}
use lib.Dec.{T, eqb→eq}
use Rattle.bools.specs.Tests.{is_true, and_l, and_r}
use Rattle.rules.specs.declared.Chip.{Chip}
use Rattle.rules.specs.Chip.{flag_count, exception_count}
use Rattle.rules.specs.Model.{Model}
use Rattle.rules.specs.Sound.{is_sized}

pub record Sized (c : Chip) (m : Model) : Type 0 where
  pub pending : length m.pending ≡ flag_count c
  pub active : length m.active ≡ flag_count c
  pub enabled : length m.enabled ≡ flag_count c
  pub level : length m.level ≡ flag_count c
  pub priority : length m.priority ≡ flag_count c
  pub nest : length m.nest ≡ exception_count c

pub sized : (c : Chip) (m : Model) → is_sized c m ≡ true → Sized c m
unfolding is_sized
sized c m e =
    let t : T (is_sized c m) = is_true e in
    record {
      pending = eqb→eq (length m.pending) (flag_count c) (search (and_l, and_r) depth 10);
      active = eqb→eq (length m.active) (flag_count c) (search (and_l, and_r) depth 10);
      enabled = eqb→eq (length m.enabled) (flag_count c) (search (and_l, and_r) depth 10);
      level = eqb→eq (length m.level) (flag_count c) (search (and_l, and_r) depth 10);
      priority = eqb→eq (length m.priority) (flag_count c) (search (and_l, and_r) depth 10);
      nest = eqb→eq (length m.nest) (exception_count c) (search (and_l, and_r) depth 10);
    }
