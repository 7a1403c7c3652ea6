-- A cut to the upper bits keeps the order: group numbers rise with full priorities, if not strictly.
use Rattle.std.specs.Prelude.{ℕ, ◌+◌, ◌^◌, ◌≤◌, ℤ, pos, negsuc, ◌≤ℤ◌}
use Rattle.std.proofs.Common.{mul-le-mul_right, leb→le, le→leb}
use Rattle.std.proofs.Math.Pow.{shr_mono}
use Rattle.std.specs.Int.Signed.{le_z_yes}
use Rattle.grouping.specs.Grouping.{group_of, grouped}

pub group_rises : (p a b : ℕ) → a ≤ b → group_of p a ≤ group_of p b
group_rises p a b h = mul-le-mul_right (2 ^ (p + 1)) (shr_mono (p + 1) h)

pub grouped_rises : (p : ℕ) (x y : ℤ) → x ≤ℤ y → grouped p x ≤ℤ grouped p y
grouped_rises p (pos a) (pos b) h = le_z_yes (le→leb (group_of p a) (group_of p b) (group_rises p a b (leb→le a b h.le)))
grouped_rises p (pos a) (negsuc b) h = absurd h.le
grouped_rises p (negsuc a) (pos b) h = le_z_yes tt
grouped_rises p (negsuc a) (negsuc b) h = h
