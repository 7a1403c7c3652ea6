-- What is stacked unstacks: the words, with xPSR as stacking made it, and the SP that stacking took.
use Rattle.std.specs.Prelude.{ℕ, ◌+◌, ◌-◌, ◌*◌, ◌/◌, ◌%◌, ◌^◌, ◌≤◌, ◌<◌, ◌≡◌, refl, List, Bool, true, false, cond, ◌&&◌, length, get_or, take, drop}
use Rattle.std.proofs.Common.{ap, ◌∙◌, arith, eq-eqb, ne_eqb, eqb-true}
use Rattle.bits.specs.Words.{bit, bit_at, with_bit}
use Rattle.bits.specs.WordLaws.{with_bit_same, with_bit_as_is, with_bit_lt}
use Rattle.frame.specs.declared.Words.{Words}
use Rattle.frame.specs.Frame.{padded, frame_at, stored_words, stack_refusal, listed, frame_bytes, written, stacked_window, restored_sp, gave_back, unstacked}
use Rattle.frame.specs.Accepted.{UnstackAccepted}
use Rattle.frame.proofs.Accepted.{of_fits, stack_accepted, fits_unstack}
use Rattle.frame.specs.FrameLaws.{Fit, words_back, length_written, written_there, written_below, written_above}
use Rattle.frame.specs.RoundTrip.{bytes_taken}

-- bit 2 of SP - 32 is bit 2 of SP
pub padded_by_sp : (align : Bool) (sp : ℕ) → 32 ≤ sp → padded align sp ≡ align && bit_at 2 sp
unfolding padded
padded_by_sp align sp h = let e : (sp - 32) / 4 % 2 ≡ sp / 4 % 2 = omega arith in rw e

-- SP - 32 with bit 2 cleared is 36 below SP, and setting bit 2 again takes it back
below_by_36 : (sp : ℕ) → 32 ≤ sp → bit_at 2 (sp - 32) ≡ true → (with_bit 2 false (sp - 32) + 36 ≡ sp) × (with_bit 2 true (with_bit 2 false (sp - 32) + 32) ≡ sp)
unfolding with_bit
below_by_36 sp h e =
    let d : (sp - 32) / 4 % 2 ≡ 1 = eqb-true ((sp - 32) / 4 % 2) 1 e in
    let y = sp - 32 in
    let f : (y / 8 * 2 + 0) * 4 + y % 4 + 36 ≡ sp = omega arith in
    (f, omega arith)

-- a stacking takes 32 bytes, or 36 where bit 2 was cleared
pub frame_takes : (align : Bool) (sp : ℕ) → 32 ≤ sp → frame_at align sp + bytes_taken align sp ≡ sp
unfolding frame_at padded
frame_takes false sp h = omega arith
frame_takes true sp h = cases (bit_at 2 (sp - 32)) refl
  where
    cases : (b : Bool) → bit_at 2 (sp - 32) ≡ b → with_bit 2 false (sp - 32) + (32 + 4 * bit b) ≡ sp
    cases true e = (below_by_36 sp h e).0
    cases false e = rw (with_bit_as_is 2 false (sp - 32) e) (omega arith)

-- the SP that unstacking restores is the one that stacking took
pub sp_restored : (align : Bool) (sp xpsr : ℕ) → 32 ≤ sp → restored_sp align (frame_at align sp) (with_bit 9 (padded align sp) xpsr) ≡ sp
unfolding restored_sp frame_at padded
sp_restored false sp xpsr h = omega arith
sp_restored true sp xpsr h = rw (with_bit_same 9 (bit_at 2 (sp - 32)) xpsr) (cases (bit_at 2 (sp - 32)) refl)
  where
    cases : (b : Bool) → bit_at 2 (sp - 32) ≡ b → cond b (with_bit 2 true (with_bit 2 false (sp - 32) + 32)) (with_bit 2 false (sp - 32) + 32) ≡ sp
    cases true e = (below_by_36 sp h e).1
    cases false e = rw (with_bit_as_is 2 false (sp - 32) e) (omega arith)

-- a frame is a multiple of 4 and at least 32 below SP
frame_place : (align : Bool) (sp : ℕ) → 32 ≤ sp → sp % 4 ≡ 0 → (frame_at align sp % 4 ≡ 0) × (frame_at align sp + 32 ≤ sp)
frame_place align sp h a =
    let t = frame_takes align sp h in
    (omega arith, omega arith)

stored_fit : (align : Bool) (sp : ℕ) (w : Words) → Fit w → Fit (stored_words align sp w)
stored_fit align sp w f =
    record {
      r0 = f.r0;
      r1 = f.r1;
      r2 = f.r2;
      r3 = f.r3;
      r12 = f.r12;
      lr = f.lr;
      pc = f.pc;
      xpsr = with_bit_lt 9 (padded align sp) w.xpsr 32 (omega arith) f.xpsr;
    }

-- a frame that was stacked, still there when it is unstacked with the same flag: bytes elsewhere in the window may have changed
pub unstack_there : (base sp : ℕ) (window later : List ℕ) (words : Words) (align : Bool) → sp < 2 ^ 32 → Fit words → stack_refusal base (length window) sp align ≡ 0 → length later ≡ length window → take 32 (drop (frame_at align sp - base) later) ≡ frame_bytes (listed (stored_words align sp words)) → unstacked base later (frame_at align sp) align ≡ gave_back sp (stored_words align sp words)
unfolding unstacked
unstack_there base sp window later words align small fit ok len there =
    let a = stack_accepted base (length window) sp align ok in
    let p = frame_place align sp a.room a.sp4 in
    let u : UnstackAccepted base (length later) (frame_at align sp) = rw len (record { window = a.window; sp4 = p.0; holds = a.holds; restored = omega (arith, p.1) }) in
    let w = words_back later (frame_at align sp - base) (stored_words align sp words) (stored_fit align sp words fit) there in
    rw (of_fits base (length later) u.window, fits_unstack base (length later) (frame_at align sp) u)
    (ap (λ (v : Words). gave_back (restored_sp align (frame_at align sp) v.xpsr) v) w
    ∙ ap (λ (n : ℕ). gave_back n (stored_words align sp words)) (sp_restored align sp words.xpsr a.room))

module _ (base sp : ℕ) (window : List ℕ) (words : Words) (align : Bool) where
  -- a refusal changes no byte
  pub stack_refused : (stack_refusal base (length window) sp align ≡ 0 → ⊥) → stacked_window base window sp words align ≡ window
  unfolding stacked_window
  stack_refused n = rw (ne_eqb (stack_refusal base (length window) sp align) 0 n)

  module _ (ok : stack_refusal base (length window) sp align ≡ 0) where
    done : stacked_window base window sp words align ≡ written window (frame_at align sp - base) (stored_words align sp words)
    unfolding stacked_window
    done = rw (eq-eqb (stack_refusal base (length window) sp align) 0 ok)

    room : frame_at align sp - base + 32 ≤ length window
    room = let a = stack_accepted base (length window) sp align ok in omega (arith, a.holds.from, a.holds.upto)

    pub stack_length : length (stacked_window base window sp words align) ≡ length window
    stack_length = ap length done ∙ length_written window (frame_at align sp - base) (stored_words align sp words) room

    -- the 32 bytes of the frame, and every other byte as it was
    pub stack_there : take 32 (drop (frame_at align sp - base) (stacked_window base window sp words align)) ≡ frame_bytes (listed (stored_words align sp words))
    stack_there = rw done (written_there window (frame_at align sp - base) (stored_words align sp words) room)

    pub stack_below : (i : ℕ) → base + i < frame_at align sp → get_or (stacked_window base window sp words align) i 0 ≡ get_or window i 0
    stack_below i h = rw done (written_below window (frame_at align sp - base) (stored_words align sp words) room i (omega arith))

    pub stack_above : (i : ℕ) → frame_at align sp + 32 ≤ base + i → get_or (stacked_window base window sp words align) i 0 ≡ get_or window i 0
    stack_above i h =
        let a = stack_accepted base (length window) sp align ok in
        rw done (written_above window (frame_at align sp - base) (stored_words align sp words) room i (omega (arith, a.holds.from)))

    -- unstacking what was stacked
    pub unstack_stack : sp < 2 ^ 32 → Fit words → unstacked base (stacked_window base window sp words align) (frame_at align sp) align ≡ gave_back sp (stored_words align sp words)
    unstack_stack small fit = unstack_there base sp window (stacked_window base window sp words align) words align small fit ok stack_length stack_there
