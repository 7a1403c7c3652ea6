-- The part that the text is copied to ends where the text ends.
use Prim.Native.Nat.{ℕ, ◌+◌, ◌-◌}
use mathlib.Core.Path.{◌≡◌, refl, sym, ap, ◌∙◌}
use mathlib.Core.List.{List, ◌++◌, append_assoc}
use native.Mathlib.Omega.{arith}
use lib.ListN.{length, take, drop}
use borrow.Rule.Slice.PartMut.{put_mid, Post-is}
use Rattle.decimal.specs.Written.{written}
use Rattle.decimal.proofs.put_text.Goals as goal

pub returns : goal.returns
unfolding written
returns c = record {
  next_is = refl;
  bytes =
      let e = c.args.at + length c.args.text.now in
      ap (put_mid c.args.at (e - c.args.at) c.args.out.now) c.copy_from_slice.ensures.after
      ∙ ap (λ (r : List ℕ). take c.args.at c.args.out.now ++ (c.args.text.now ++ r)) (Post-is c.args.at e c.args.out.now (omega arith))
      ∙ sym (append_assoc (take c.args.at c.args.out.now) c.args.text.now (drop e c.args.out.now));
}
