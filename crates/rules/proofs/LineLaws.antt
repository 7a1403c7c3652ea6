-- What a word written to a set or clear register does to each of its lines, and what an unchanged level does: once over the line's number.
use Rattle.std.specs.Prelude.{ℕ, zero, suc, ◌+◌, ◌-◌, ◌*◌, ◌%◌, ◌≤◌, ◌<◌, ◌≡◌, refl, List, [], ◌∷◌, Bool, cond, ◌&&◌, ◌||◌, set, ltb, leb, eqb}
use Rattle.std.proofs.Common.{sym, ◌∙◌, arith, le-leb, lt-ltb, le-ltb, ne_eqb}
use Rattle.std.proofs.Math.Path.{ap}
use Rattle.std.proofs.Math.Bool.{true, false, not}
use Rattle.bits.specs.Words.{bit_at, without}
use Rattle.bits.specs.WordLaws.{without_bit}
use Rattle.flag_words.specs.Flags.{on, flags_word, put_flags}
use Rattle.flag_words.specs.FlagLaws.{word_bit, put_before, put_past, put_at}
use Rattle.bools.specs.Tests.{not_and_not, by_cases, set_by, clear_by}
use Rattle.rules.specs.declared.Bank.TheVariants.{EnableSet, EnableClear, PendingSet, PendingClear}
use Rattle.rules.specs.declared.Register.{Register}
use Rattle.rules.specs.declared.Register.TheVariants.{Flags}
use Rattle.rules.specs.declared.Chip.{Chip}
use Rattle.rules.specs.Chip.{is_armv6m}
use Rattle.rules.specs.Model.{Model, Answer, with_pending, with_enabled, with_level, with_lost}
use Rattle.rules.specs.Events.{levelled, loses_rise, counted, line_call}
use Rattle.rules.specs.Blocks.{flag_words, bank_register}
use Rattle.rules.specs.MapArmv6m.{armv6m_block, armv6m_register}
use Rattle.rules.specs.Map.{block_register, register_at, register_of}
use Rattle.rules.specs.Writes.{clearable, bank_written, word_written}
use Rattle.rules.specs.Registers.{written}
use Rattle.rules.specs.LineLaws.{Changed}

put_changed : (value : Bool) (k : ℕ) (flags : List Bool) (w : ℕ) (new : ℕ → Bool) → ((j : ℕ) → j < 32 → cond (bit_at j w) value (on flags (16 + 32 * k + j)) ≡ new j) → Changed k flags (put_flags value 32 flags (16 + 32 * k) w) new
put_changed value k flags w new e =
    record {
      line = λ j h l. put_at value 32 flags (16 + 32 * k) w j h l ∙ e j h;
      below = λ n h. put_before value 32 flags (16 + 32 * k) w n h;
      above = λ n h. put_past value 32 flags (16 + 32 * k) w n h;
    }

-- ---- their registers

-- no other register stands between E100 and E400, on either map
in_blocks : (c : Chip) (a : ℕ) → a % 4 ≡ 0 → 0xE000E100 ≤ a → a < 0xE000E400 → register_of c a ≡ cond (is_armv6m c) (armv6m_block c a) (block_register c a)
unfolding register_at armv6m_register
in_blocks c a aligned from upto =
    let e : a - a % 4 ≡ a = omega arith in
    simp (
      e,
      ne_eqb a 0xE000E004 (λ q. omega arith),
      ne_eqb a 0xE000E010 (λ q. omega arith),
      ne_eqb a 0xE000E014 (λ q. omega arith),
      ne_eqb a 0xE000E018 (λ q. omega arith),
      ne_eqb a 0xE000ED00 (λ q. omega arith),
      ne_eqb a 0xE000ED04 (λ q. omega arith),
      ne_eqb a 0xE000ED08 (λ q. omega arith),
      ne_eqb a 0xE000ED0C (λ q. omega arith),
      ne_eqb a 0xE000ED10 (λ q. omega arith),
      ne_eqb a 0xE000ED14 (λ q. omega arith),
      ne_eqb a 0xE000ED18 (λ q. omega arith),
      ne_eqb a 0xE000ED1C (λ q. omega arith),
      ne_eqb a 0xE000ED20 (λ q. omega arith),
      ne_eqb a 0xE000ED24 (λ q. omega arith),
      ne_eqb a 0xE000ED28 (λ q. omega arith),
      ne_eqb a 0xE000ED2C (λ q. omega arith),
      ne_eqb a 0xE000ED34 (λ q. omega arith),
      ne_eqb a 0xE000ED38 (λ q. omega arith),
      ne_eqb a 0xE000EF00 (λ q. omega arith),
    )

-- so what the banks have there is what the chip has
in_banks : (c : Chip) (a : ℕ) (r : Register) → a % 4 ≡ 0 → 0xE000E100 ≤ a → a < 0xE000E400 → ((otherwise : Register) → bank_register c a otherwise ≡ r) → register_of c a ≡ r
unfolding block_register armv6m_block
in_banks c a r aligned from upto f =
    in_blocks c a aligned from upto ∙ by_cases (λ x. x ≡ r) (is_armv6m c) (λ _. f _) (λ _. f _)

-- The word of the lines 32 k to 32 k + 31, on a chip whose blocks are no longer than 1024 lines: there they do not overlap.
module _ (c : Chip) (few : c.lines ≤ 1024) (k : ℕ) (there : k < flag_words c) where
  pub enable_set_at : register_of c (0xE000E100 + 4 * k) ≡ Flags EnableSet (16 + 32 * k)
  enable_set_at =
      in_banks c (0xE000E100 + 4 * k) _ (omega arith) (omega arith) (omega arith)
      (λ otherwise. simp (
        le-leb 0xE000E100 (0xE000E100 + 4 * k) (omega arith),
        lt-ltb (0xE000E100 + 4 * k) (0xE000E100 + 4 * flag_words c) (omega arith),
      ) (ap (Flags EnableSet) (omega arith)))

  pub enable_clear_at : register_of c (0xE000E180 + 4 * k) ≡ Flags EnableClear (16 + 32 * k)
  enable_clear_at =
      in_banks c (0xE000E180 + 4 * k) _ (omega arith) (omega arith) (omega arith)
      (λ otherwise. simp (
        le-leb 0xE000E100 (0xE000E180 + 4 * k) (omega arith),
        le-ltb (0xE000E180 + 4 * k) (0xE000E100 + 4 * flag_words c) (omega arith),
        le-leb 0xE000E180 (0xE000E180 + 4 * k) (omega arith),
        lt-ltb (0xE000E180 + 4 * k) (0xE000E180 + 4 * flag_words c) (omega arith),
      ) (ap (Flags EnableClear) (omega arith)))

  pub pending_set_at : register_of c (0xE000E200 + 4 * k) ≡ Flags PendingSet (16 + 32 * k)
  pending_set_at =
      in_banks c (0xE000E200 + 4 * k) _ (omega arith) (omega arith) (omega arith)
      (λ otherwise. simp (
        le-leb 0xE000E100 (0xE000E200 + 4 * k) (omega arith),
        le-ltb (0xE000E200 + 4 * k) (0xE000E100 + 4 * flag_words c) (omega arith),
        le-leb 0xE000E180 (0xE000E200 + 4 * k) (omega arith),
        le-ltb (0xE000E200 + 4 * k) (0xE000E180 + 4 * flag_words c) (omega arith),
        le-leb 0xE000E200 (0xE000E200 + 4 * k) (omega arith),
        lt-ltb (0xE000E200 + 4 * k) (0xE000E200 + 4 * flag_words c) (omega arith),
      ) (ap (Flags PendingSet) (omega arith)))

  pub pending_clear_at : register_of c (0xE000E280 + 4 * k) ≡ Flags PendingClear (16 + 32 * k)
  pending_clear_at =
      in_banks c (0xE000E280 + 4 * k) _ (omega arith) (omega arith) (omega arith)
      (λ otherwise. simp (
        le-leb 0xE000E100 (0xE000E280 + 4 * k) (omega arith),
        le-ltb (0xE000E280 + 4 * k) (0xE000E100 + 4 * flag_words c) (omega arith),
        le-leb 0xE000E180 (0xE000E280 + 4 * k) (omega arith),
        le-ltb (0xE000E280 + 4 * k) (0xE000E180 + 4 * flag_words c) (omega arith),
        le-leb 0xE000E200 (0xE000E280 + 4 * k) (omega arith),
        le-ltb (0xE000E280 + 4 * k) (0xE000E200 + 4 * flag_words c) (omega arith),
        le-leb 0xE000E280 (0xE000E280 + 4 * k) (omega arith),
        lt-ltb (0xE000E280 + 4 * k) (0xE000E280 + 4 * flag_words c) (omega arith),
      ) (ap (Flags PendingClear) (omega arith)))

  -- ---- the model that an accepted write of the word v leaves

  module _ (m : Model) (v : ℕ) where
    abbrev after : ℕ → Model
    after base = written c 4 (base + 4 * k) v m

    abbrev line : ℕ → ℕ
    line j = 16 + 32 * k + j

    -- E100, "enable set": enabled exactly if it was or the bit is 1. No other part of the model changes.
    pub enable_set_lem : Changed k m.enabled (after 0xE000E100).enabled (λ j. on m.enabled (line j) || bit_at j v)
    unfolding written word_written bank_written
    enable_set_lem = rw enable_set_at (put_changed true k m.enabled v _ (λ j h. set_by (bit_at j v) (on m.enabled (line j))))

    pub enable_set_only : after 0xE000E100 ≡ with_enabled (after 0xE000E100).enabled m
    unfolding written word_written bank_written
    enable_set_only = rw enable_set_at

    -- E180, "enable .. clear": enabled exactly if it was and the bit is 0
    pub enable_clear_lem : Changed k m.enabled (after 0xE000E180).enabled (λ j. on m.enabled (line j) && not (bit_at j v))
    unfolding written word_written bank_written
    enable_clear_lem = rw enable_clear_at (put_changed false k m.enabled v _ (λ j h. clear_by (bit_at j v) (on m.enabled (line j))))

    pub enable_clear_only : after 0xE000E180 ≡ with_enabled (after 0xE000E180).enabled m
    unfolding written word_written bank_written
    enable_clear_only = rw enable_clear_at

    -- E200, "pending set": pending exactly if it was or the bit is 1
    pub pending_set_lem : Changed k m.pending (after 0xE000E200).pending (λ j. on m.pending (line j) || bit_at j v)
    unfolding written word_written bank_written
    pending_set_lem = rw pending_set_at (put_changed true k m.pending v _ (λ j h. set_by (bit_at j v) (on m.pending (line j))))

    pub pending_set_only : after 0xE000E200 ≡ with_pending (after 0xE000E200).pending m
    unfolding written word_written bank_written
    pending_set_only = rw pending_set_at

    -- "Clearing pending has no effect while the line is high and not active": a bit of the word clears where the line is low or active
    clears : (j : ℕ) → j < 32 → bit_at j (clearable m.level m.active (16 + 32 * k) v) ≡ bit_at j v && (not (on m.level (line j)) || on m.active (line j))
    unfolding clearable
    clears j h =
        rw (
          without_bit 32 v (without 32 (flags_word m.level (16 + 32 * k)) (flags_word m.active (16 + 32 * k))) j h,
          without_bit 32 (flags_word m.level (16 + 32 * k)) (flags_word m.active (16 + 32 * k)) j h,
          word_bit m.level (16 + 32 * k) 32 j h,
          word_bit m.active (16 + 32 * k) 32 j h,
        ) (ap (λ (b : Bool). bit_at j v && b) (not_and_not (on m.level (line j)) (on m.active (line j))))

    -- E280, "pending .. clear": cleared exactly where the bit is 1 and the line is low or active
    pub pending_clear_lem : Changed k m.pending (after 0xE000E280).pending (λ j. on m.pending (line j) && not (bit_at j v && (not (on m.level (line j)) || on m.active (line j))))
    unfolding written word_written bank_written
    pending_clear_lem =
        rw pending_clear_at
        (put_changed false k m.pending (clearable m.level m.active (16 + 32 * k) v) _
        (λ j h. clear_by (bit_at j (clearable m.level m.active (16 + 32 * k) v)) (on m.pending (line j)) ∙ ap (λ (b : Bool). on m.pending (line j) && not b) (clears j h)))

    pub pending_clear_only : after 0xE000E280 ≡ with_pending (after 0xE000E280).pending m
    unfolding written word_written bank_written
    pending_clear_only = rw pending_clear_at

-- ---- levels

set_same : (l : List Bool) (n : ℕ) → set l n (on l n) ≡ l
set_same [] n = refl
set_same (x ∷ xs) zero = refl
set_same (x ∷ xs) (suc n) = ap (λ (l : List Bool). x ∷ l) (set_same xs n)

level_same : (n : ℕ) (high : Bool) (m : Model) → on m.level n ≡ high → levelled n high m ≡ m
unfolding levelled
level_same n true m e = rw e (ap (λ (l : List Bool). with_level l m) (ap (set m.level n) (sym e) ∙ set_same m.level n))
level_same n false m e = ap (λ (l : List Bool). with_level l m) (ap (set m.level n) (sym e) ∙ set_same m.level n)

-- nor is it a rise that is lost
counted_same : (line : ℕ) (high : Bool) (m : Model) → on m.level (16 + line) ≡ high → counted line high m ≡ m.lost
unfolding counted loses_rise
counted_same line true m e = rw e
counted_same line false m e = refl

-- "An unchanged level changes nothing."
pub unchanged_level : (c : Chip) (m : Model) (n level : ℕ) → on m.level (16 + n) ≡ eqb level 1 → (line_call c m n level).next ≡ m
unfolding line_call
unchanged_level c m n level e =
    by_cases (λ (a : Answer). a.next ≡ m) (leb c.lines n || ltb 1 level) (λ _. refl)
    (λ _ i. with_lost (counted_same n (eqb level 1) m e i) (level_same (16 + n) (eqb level 1) m e i))
