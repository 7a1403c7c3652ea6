-- The law of `pieces` at the 55-line chip: a progress is its course beside the model of its state.
use Prim.Native.Nat.{ℕ}
use mathlib.Core.Path.{ap}
use mathlib.Core.List.{List}
use Rattle.numbers.specs.NumberLaws.{Bytes}
use Rattle.rules.specs.Chip.{chip55}
use Rattle.rules.specs.Model.{fresh}
use Rattle.pieces.specs.Joined as lent
use Rattle.pieces.proofs.Joined.{pieces_joined}
use Rattle.model.specs.View.{model, state}
use Rattle.run.specs.Progress.{Progress, course}
use Rattle.run.specs.Joined.{Continued, stop, call, CodeJoined}

called : {script : List ℕ} {p r : Progress} {outs pieces : List (List ℕ)} → Continued script p outs pieces r → lent.Resumed chip55 script (model p.state) (course p) outs pieces (model r.state) (course r)
called stop = lent.stop
called (call n k) = lent.call n (called k)

pub code_joined : (script : List ℕ) → Bytes script → CodeJoined script
unfolding fresh
code_joined script small =
    let j = pieces_joined chip55 script small in
    record {
      prefix = λ outs pieces r k. j.prefix outs pieces _ _ (called k);
      whole = λ outs pieces r k e. j.whole outs pieces _ _ (called k) e;
      left = λ outs pieces r k e. ap state (j.left outs pieces _ _ (called k) e);
      ends = λ p outs pieces r k w h. j.ends _ _ outs pieces _ _ (called k) w h;
    }
