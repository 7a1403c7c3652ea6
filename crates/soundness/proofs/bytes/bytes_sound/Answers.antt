-- From 16 on each number is a line and has a byte: after n bytes the answer is that of these n.
use Prim.Native.Nat.{ℕ, ◌≤◌, ◌<◌}
use mathlib.Core.Path.{◌≡◌, sym, ap, ◌∙◌}
use mathlib.Core.Bool.{Bool, true, ◌&&◌, ◌||◌}
use mathlib.Core.List.{List}
use native.Mathlib.Numerals.{add-one}
use native.Mathlib.Omega.{arith}
use lib.ListN.{get_or}
use lib.Dec.{leb, eqb, le→leb}
use Rattle.bools.specs.Tests.{true_is, join, and_true}
use Rattle.bools.specs.Every.{every}
use Rattle.grouping.specs.Grouping.{kept_byte}
use Rattle.rules.specs.declared.Chip.{Chip}
use Rattle.rules.specs.declared.Place.TheVariants.{Exception}
use Rattle.rules.specs.Chip.{flag_count, exists, has_byte}
use Rattle.rules.specs.Sound.{byte_sound}
use Rattle.rules.proofs.Laws.{is_line_lem, line_stands}
use Rattle.soundness.proofs.bytes.bytes_sound.Goals as goal

abbrev kept : Chip → List ℕ → ℕ → Bool
kept c bytes n = eqb (kept_byte c.bits (get_or bytes n 0)) (get_or bytes n 0)

line-byte : (c : Chip) (bytes : List ℕ) (n : ℕ) → 16 ≤ n → n < flag_count c → byte_sound c bytes n ≡ kept c bytes n
unfolding byte_sound
line-byte c bytes n low high =
    let has : has_byte c n ≡ true = true_is (has_byte c n) (join (leb 4 n) (exists c n) (le→leb 4 n (omega arith)) (line_stands c n Exception (is_line_lem c n low high))) in
    ap (λ (b : Bool). kept c bytes n && (b || eqb (get_or bytes n 0) 0)) has ∙ and_true (kept c bytes n)

pub loop-n-preserved : goal.loop-n-preserved
unfolding every
loop-n-preserved c =
    c.both-ok.ensures ∙ (λ i. (c.is_kept.ensures ∙ sym (line-byte c.args.chip c.args.priority.now c.loop-n.n (omega arith) (omega arith))) i && c.loop-n.invariant i) ∙ ap (every (byte_sound c.args.chip c.args.priority.now)) (sym (add-one c.loop-n.n))
