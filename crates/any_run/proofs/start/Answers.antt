-- The fresh state is sound and its model is the fresh one, and the script from offset 0 on is the whole script.
use Prim.Native.Nat.{ℕ}
use mathlib.Core.Path.{◌≡◌, sym, subst}
use mathlib.Core.List.{List}
use Rattle.rules.specs.declared.Setup.{Setup}
use Rattle.rules.specs.Chip.{chip_of}
use Rattle.rules.specs.Model.{Model, fresh}
use Rattle.text.specs.Text.{text_of}
use Rattle.pieces.specs.Pieces as pieces
use Rattle.pieces.proofs.Joined.{started_usable, started_rest}
use Rattle.any_run.specs.Progress.{started, rest_of, Usable}
use Rattle.any_run.proofs.Joined.{fresh_viewed}
use Rattle.any_run.proofs.start.Goals as goal

text : (setup : Setup) (script : List ℕ) → rest_of script (started setup) ≡ text_of (chip_of setup) script
unfolding fresh
text setup script = subst (λ (m : Model). pieces.rest_of (chip_of setup) script m (pieces.started (chip_of setup)) ≡ text_of (chip_of setup) script) (sym (fresh_viewed setup)) (started_rest (chip_of setup) script)

usable : (setup : Setup) → Usable (started setup)
unfolding fresh
usable setup = subst (λ (m : Model). pieces.Usable (chip_of setup) m (pieces.started (chip_of setup))) (sym (fresh_viewed setup)) (started_usable (chip_of setup))

pub returns-clause-usable : goal.returns-clause-usable
returns-clause-usable c = rw c.fresh.ensures (usable c.args.setup)

pub returns-clause-text : goal.returns-clause-text
returns-clause-text c = rw c.fresh.ensures (text c.args.setup)
