-- The law of `pieces` at the setup's chip: a progress is its course beside the model of its state, and the setup stays.
use Prim.Native.Nat.{ℕ}
use mathlib.Core.Path.{◌≡◌, refl, sym, ◌∙◌, subst}
use mathlib.Core.List.{List, ◌++◌}
use Rattle.numbers.specs.NumberLaws.{Bytes}
use Rattle.rules.specs.declared.Setup.{Setup}
use Rattle.rules.specs.Chip.{chip_of}
use Rattle.rules.specs.Model.{Model, fresh}
use Rattle.demand3.proofs.Steps.{sound_fresh}
use Rattle.text.specs.Text.{text_of}
use Rattle.pieces.specs.Pieces as pieces
use Rattle.pieces.specs.Joined as lent
use Rattle.pieces.proofs.Joined.{pieces_joined}
use Rattle.any_chip.specs.View.{model, state}
use Rattle.any_chip.proofs.View.{view_laws}
use Rattle.any_run.specs.Progress.{Progress, chip, course, started}
use Rattle.any_run.specs.Joined.{Continued, stop, call, CodeJoined}

same_setup : {script : List ℕ} {p r : Progress} {outs pieces : List (List ℕ)} → Continued script p outs pieces r → r.state.setup ≡ p.state.setup
same_setup stop = refl
same_setup (call n k) = same_setup k ∙ n.setup

called : {script : List ℕ} {p r : Progress} {outs pieces : List (List ℕ)} (setup : Setup) → p.state.setup ≡ setup → Continued script p outs pieces r → lent.Resumed (chip_of setup) script (model p.state) (course p) outs pieces (model r.state) (course r)
called setup e stop = lent.stop
called {script} {p} {r} setup e (call {r = mid} {old = old} {new = new} n k) =
    lent.call (subst (λ (u : Setup). pieces.Ran (chip_of u) script (model p.state) (course p) old (model mid.state) (course mid) new) e n.piece) (called setup (n.setup ∙ e) k)

pub fresh_viewed : (setup : Setup) → model (state setup (fresh (chip_of setup))) ≡ fresh (chip_of setup)
fresh_viewed setup = view_laws.viewed setup (fresh (chip_of setup)) (sound_fresh (chip_of setup))

called_fresh : {script : List ℕ} {r : Progress} {outs wrote : List (List ℕ)} (setup : Setup) → Continued script (started setup) outs wrote r → lent.Resumed (chip_of setup) script (fresh (chip_of setup)) (pieces.started (chip_of setup)) outs wrote (model r.state) (course r)
unfolding fresh
called_fresh {script} {r} {outs} {wrote} setup k =
    subst (λ (m : Model). lent.Resumed (chip_of setup) script m (pieces.started (chip_of setup)) outs wrote (model r.state) (course r)) (fresh_viewed setup) (called setup refl k)

pub code_joined : (setup : Setup) (script : List ℕ) → Bytes script → CodeJoined setup script
code_joined setup script small =
    let j = pieces_joined (chip_of setup) script small in
    record {
      prefix = λ outs wrote r k. subst (λ (u : Setup). lent.joined wrote ++ pieces.rest_of (chip_of u) script (model r.state) (course r) ≡ text_of (chip_of setup) script) (sym (same_setup k)) (j.prefix outs wrote _ _ (called_fresh setup k));
      whole = λ outs wrote r k e. j.whole outs wrote _ _ (called_fresh setup k) e;
      left = λ outs wrote r k e. j.left outs wrote _ _ (called_fresh setup k) e;
      named = λ outs wrote r k. same_setup k;
      ends = λ p outs wrote r k w h. (pieces_joined (chip p) script small).ends _ _ outs wrote _ _ (called p.state.setup refl k) w h;
    }
