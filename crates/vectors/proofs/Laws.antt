-- What agreed so far, followed by what is left to write, is the text of the script.
use Prim.Native.Nat.{ℕ, ◌+◌, ◌≤◌}
use mathlib.Core.Path.{◌≡◌, sym, ◌∙◌, subst}
use mathlib.Core.List.{List, ◌++◌, append_assoc, append-nil}
use mathlib.Core.Bool.{false, not}
use native.Mathlib.Omega.{arith}
use lib.ListN.{length, take, drop, length-take}
use lib.Seq.{take_all, take-add}
use borrow.Author.Tests.{not-false}
use Rattle.numbers.specs.NumberLaws.{Bytes}
use Rattle.rules.specs.declared.Chip.{Chip}
use Rattle.rules.specs.declared.Setup.{Setup}
use Rattle.rules.specs.Chip.{chip_of}
use Rattle.rules.specs.Model.{Model}
use Rattle.text.specs.Text.{text_of}
use Rattle.pieces.specs.declared.Course.{Course}
use Rattle.pieces.specs.Pieces.{rest_of, Usable, Ran}
use Rattle.pieces.proofs.Headway.{onward}
use Rattle.any_chip.specs.View.{model}
use Rattle.any_run.specs.Progress as any
use Rattle.any_run.specs.Progress.{Progress, course}
use Rattle.vectors.specs.Agree.{Agree}

-- So much of `want` agrees, with a script on this chip that has come so far.
pub record Judging (c : Chip) (script want : List ℕ) (m : Model) (p : Course) (at : ℕ) : Type 0 where
  pub inside : at ≤ length want
  pub usable : Usable c m p
  pub told : take at want ++ rest_of c script m p ≡ text_of c script

module _ {c : Chip} {script want : List ℕ} {m : Model} {p : Course} {at : ℕ} (j : Judging c script want m p at) where
  pub judging_next : {t : Model} {r : Course} {old new : List ℕ} {same : ℕ} → Bytes script → Ran c script m p old t r new → Agree want at (take r.wrote new) same → r.wrote ≤ same → Judging c script want t r (at + same)
  judging_next {r = r} {new = new} {same = same} small n a h =
      let o = onward small n j.usable in
      let whole : take same (drop at want) ≡ take r.wrote new = sym a.equal ∙ take_all same (take r.wrote new) (omega (arith, length-take r.wrote new)) in
      record {
        inside = a.inside;
        usable = o.usable;
        told = rw (take-add, whole, append_assoc, o.told) j.told;
      }

  pub judged : not p.ended ≡ false → length want ≤ at → want ≡ text_of c script
  unfolding rest_of
  judged e h = rw (not-false p.ended e, append-nil, take_all at want h) at j.told

-- a call on a progress of this setup is a call on its chip
pub ran_on : {setup : Setup} {script old new : List ℕ} {p r : Progress} → p.state.setup ≡ setup → any.Ran script p old r new → Ran (chip_of setup) script (model p.state) (course p) old (model r.state) (course r) new
ran_on {script = script} {old = old} {new = new} {p = p} {r = r} e n = subst (λ (u : Setup). Ran (chip_of u) script (model p.state) (course p) old (model r.state) (course r) new) e n.piece
