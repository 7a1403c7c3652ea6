-- A call leaves the model that it had, or goes on from a sound one to a sound one: either is the view of its state.
use Prim.Native.Nat.{ℕ}
use mathlib.Core.Path.{◌≡◌, refl, sym, ap, ◌∙◌, subst}
use mathlib.Core.Logic.{◌⊎◌, inl, inr}
use mathlib.Core.List.{List, []}
use mathlib.Core.Bool.{Bool, ◌||◌}
use lib.ListN.{length, take}
use lib.Seq.{take-nil}
use lib.Dec.{T, ltb, leb}
use Rattle.bools.specs.Tests.{by_cases, either, both, true_is}
use Rattle.script.specs.declared.Event.{Event}
use Rattle.script.specs.Script.{Script}
use Rattle.rules.specs.declared.Chip.{Chip}
use Rattle.rules.specs.declared.Core.{Core}
use Rattle.rules.specs.Chip.{chip_of, fits}
use Rattle.rules.specs.Model.{Model}
use Rattle.rules.specs.Sound.{is_sound, Sound}
use Rattle.rules.specs.Step.{run_of}
use Rattle.demand3.proofs.Check.{of_sound}
use Rattle.demand3.proofs.Reached.{run_keeps}
use Rattle.pieces.specs.declared.Course.{Course}
use Rattle.pieces.specs.Pieces as pieces
use Rattle.pieces.specs.Pieces.{Piece, script_at, is_usable, ran, gone_on, piece_of}
use Rattle.places.specs.declared.Reach.{Reach}
use Rattle.any_chip.specs.declared.State.{State}
use Rattle.any_chip.specs.View.{reach_in, first_places, model, state}
use Rattle.any_chip.specs.ViewLaws.{Sized}
use Rattle.any_chip.proofs.View.{view_laws, SameLengths, unchanged, both_sound, restored, put_back}
use Rattle.any_run.specs.Progress.{Progress, chip, course, Ran}

abbrev Left : Chip → Model → Model → Type 0
Left c m t = (t ≡ m) ⊎ (Sound c t × Sound c m)

ran_left : (c : Chip) (script : List ℕ) (m : Model) (at events : ℕ) (s : Script) (n : ℕ) (ended : Bool) → (s.events ≡ []) ⊎ Sound c m → Left c m (ran c script m at events s n ended).model
unfolding ran
ran_left c script m at events s n ended (inl none) = inl (ap (λ (es : List Event). run_of c m (take n es)) none ∙ ap (run_of c m) (take-nil n))
ran_left c script m at events s n ended (inr h) = inr (run_keeps h (take n s.events), h)

long_none : (script : List ℕ) (at : ℕ) → T (ltb 65536 (length script)) → (script_at script at).events ≡ []
unfolding script_at
long_none script at t = rw (true_is (ltb 65536 (length script)) t)

gone_left : (c : Chip) (script : List ℕ) (m : Model) (p : Course) (room : ℕ) → T (ltb 65536 (length script)) ⊎ T (is_usable c m p) → Left c m (gone_on c script m p.at p.events room).model
unfolding gone_on is_usable
gone_left c script m p room (inl long) = ran_left c script m p.at p.events (script_at script p.at) _ _ (inl (long_none script p.at long))
gone_left c script m p room (inr u) = ran_left c script m p.at p.events (script_at script p.at) _ _ (inr (of_sound c m (both (is_sound c m) (leb p.events p.at) u).0))

piece_left : (c : Chip) (script : List ℕ) (m : Model) (p : Course) (room : ℕ) → Left c m (piece_of c script m p room).model
unfolding piece_of
piece_left c script m p room =
    by_cases (λ (q : Piece). Left c m q.model) p.ended (λ _. inl refl)
    (λ _. by_cases (λ (q : Piece). Left c m q.model) (fits c)
    (λ _. by_cases (λ (q : Piece). Left c m q.model) (ltb 65536 (length script) || is_usable c m p)
    (λ t. gone_left c script m p room (either (ltb 65536 (length script)) (is_usable c m p) t))
    (λ _. inl refl))
    (λ _. inl refl))

left_lengths : {c : Chip} {m t : Model} → Left c m t → SameLengths t m
left_lengths {m = m} (inl e) = subst (λ (x : Model). SameLengths x m) (sym e) (unchanged m)
left_lengths (inr h) = both_sound h.0 h.1

left_viewed : (s : State) → Sized s → (t : Model) → Left (chip_of s.setup) (model s) t → model (state s.setup t) ≡ t
left_viewed s z t (inl e) = ap (λ (x : Model). model (state s.setup x)) e ∙ ap model (view_laws.back s z) ∙ sym e
left_viewed s z t (inr h) = view_laws.viewed s.setup t h.0

-- ---- what comes back

abbrev progress_of : State → Course → Progress
progress_of s k = record { state = s; at = k.at; events = k.events; wrote = k.wrote; ended = k.ended; refusal = k.refusal }

pub run_back : (script : List ℕ) (p : Progress) (old new : List ℕ) → Sized p.state → (c : Chip) → c ≡ chip p → (r : Reach) → r ≡ reach_in p.state → (t : Model) (k : Course) → t.core ≡ k.core
    → pieces.Ran c script (first_places r p.state) (course p) old t k new → Ran script p old (progress_of (restored r p.state t) k) new
run_back script p old new z c ch r q t k e h =
    let g : pieces.Ran (chip p) script (model p.state) (course p) old t k new = subst (λ (x : Chip). pieces.Ran x script (model p.state) (course p) old t k new) ch (subst (λ (x : Reach). pieces.Ran c script (first_places x p.state) (course p) old t k new) q h) in
    let l : Left (chip p) (model p.state) t = subst (Left (chip p) (model p.state)) (sym g.model) (piece_left (chip p) script (model p.state) (course p) (length old)) in
    let b : restored r p.state t ≡ state p.state.setup t = ap (λ (x : Reach). restored x p.state t) q ∙ put_back p.state z t (left_lengths l) in
    let v : t ≡ model (restored r p.state t) = sym (ap model b ∙ left_viewed p.state z t l) in
    let w : k ≡ course (progress_of (restored r p.state t) k) = ap (λ (x : Core). record { core = x; at = k.at; events = k.events; wrote = k.wrote; ended = k.ended; refusal = k.refusal }) (sym e) in
    record { setup = refl; piece = subst (λ (x : Model). pieces.Ran (chip p) script (model p.state) (course p) old x (course (progress_of (restored r p.state t) k)) new) v (subst (λ (x : Course). pieces.Ran (chip p) script (model p.state) (course p) old t x new) w g) }
