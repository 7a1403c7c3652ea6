-- Document 02, E2: "A handler set FAULTMASK, a power-fail NMI came and went, and in the model the mask was gone." Now what comes and goes leaves the
-- state as it was, but for its own pending flag: a return with the link value that an entry answered brings back what the entry found. That
-- holds of every exception, since where FAULTMASK is set only NMI can come. The proof is `proofs/ComesAndGoes.antt`.
use Rattle.std.specs.Prelude.{ℕ, ◌≡◌, [], ◌∷◌, ◌&&◌, set, eqb}
use Rattle.flag_words.specs.Flags.{on}
use Rattle.script.specs.declared.Event.TheVariants.{Entry, Return}
use Rattle.rules.specs.declared.Chip.{Chip}
use Rattle.rules.specs.Model.{Model, Answer, done, stack, top, with_pending, with_masks}
use Rattle.rules.specs.Priorities.{execution}
use Rattle.rules.specs.Sound.{Sound}
use Rattle.rules.specs.Nesting.{with_spsel}
use Rattle.demand3.specs.Demand3.{Calls}

-- m after n came and went: n is pending if it is a line that is high. The masks are those of m, and so is CONTROL bit 1, but that it is 0 where a
-- handed-in m has it set in a handler (entry sets it to 0, and no write in a handler sets it).
abbrev pub came_and_went : ℕ → Model → Model
came_and_went n m =
    with_masks (with_spsel (eqb m.core.depth 0 && m.core.masks.spsel) m.core.masks) (with_pending (set m.pending n (on m.level n)) m)

-- Entry was answered a on m, a return b on what that left.
pub record Restored (m : Model) (a b : Answer) : Type 0 where
  -- accepted, and "It answers the new top", which is the old one
  pub back : b ≡ done (top (stack m)) (came_and_went a.value m)
  -- so -1 where FAULTMASK is set
  pub priority : execution b.next ≡ execution m

-- In every sound state, for every entry that is accepted. The first case of `added` (rules, Table) is one: FAULTMASK set, NMI entered and left.
abbrev pub ComesAndGoes : Chip → Type 0
ComesAndGoes c =
    (m t : Model) (a b : Answer) → Sound c m → Calls c m (Entry ∷ Return a.link ∷ []) (a ∷ b ∷ []) t → a.refusal ≡ 0 → Restored m a b
