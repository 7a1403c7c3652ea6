-- A call hands back the core of the model that it leaves, so that its course may take it from there.
use mathlib.Core.List.{List}
use mathlib.Core.Path.{◌≡◌, subst}
use Prim.Native.Nat.{ℕ}
use Rattle.rules.specs.declared.Chip.{Chip}
use Rattle.rules.specs.Model.{Model}
use Rattle.pieces.specs.declared.Course.{Course}
use Rattle.pieces.specs.Pieces.{Ran}

pub ran_beside : {c : Chip} {script : List ℕ} {m : Model} {p : Course} {old : List ℕ} {t : Model} {r : Course} {new : List ℕ} → Ran c script m p old t r new → Ran c script m p old t (record { core = t.core; at = r.at; events = r.events; wrote = r.wrote; ended = r.ended; refusal = r.refusal }) new
ran_beside h =
    record {
      model = h.model;
      course = λ i. record { core = (h.model i).core; at = (h.course i).at; events = (h.course i).events; wrote = (h.course i).wrote; ended = (h.course i).ended; refusal = (h.course i).refusal };
      bytes = h.bytes;
      within = h.within;
    }

pub ran_at : {c : Chip} {script : List ℕ} {m : Model} {p : Course} {old : List ℕ} {t u : Model} {r : Course} {new : List ℕ} → Ran c script m p old t r new → t ≡ u → Ran c script m p old u r new
ran_at {c} {script} {m} {p} {old} {r = r} {new} h e = subst (λ (x : Model). Ran c script m p old x r new) e h
